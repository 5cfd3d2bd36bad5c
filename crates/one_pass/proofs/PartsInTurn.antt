-- Parts that are read and checked one after another.
use Rattle.std.proofs.Common.{◌≡◌, ℕ, true, false, ◌+◌, List, [], ◌∷◌, ◌++◌, length, map, Option, refl, sym, ap, ◌∙◌}
use Rattle.std.specs.List.{flat_map}
use Rattle.std.proofs.lemmas.List.{map-id, map_push, flat_map_more, length-append, length-map}
use Rattle.model_core.specs.Text.Lexing.{Lexeme}
use Rattle.model_core.specs.Text.Format.{Many}
use Rattle.model_core.specs.Text.Expressions.{LanguageFormat}
use Rattle.model_core.specs.Text.Numbering.{Declared, each_numbered}
use Rattle.model_core.specs.Static.FaultOrder.{StaticFault}
use Rattle.model_core.specs.Static.Meanings.{Meaning}
use Rattle.text_laws.specs.FirstTokens.{nullable, first_sorts, begins_among}
use Rattle.text_laws.specs.FormatReader.{took, with_front}
use Rattle.text_laws.specs.LanguageReader.{level_lookahead, language_reader}
use Rattle.text_laws.proofs.ReadLoop.{goes_on, is_done, front-none}
use Rattle.static_laws.specs.Checked.{CheckedPart}
use Rattle.static_laws.proofs.Checks.{both, made}
use Rattle.static_laws.proofs.ListChecks.{one_numbered_more}
use Rattle.one_pass.specs.Inner.ReadParts.{ReadChecked, ReadParts}

module _ {W B X : Type 0} (f : LanguageFormat W) (means : List ℕ → Option Meaning) (faults : W → List StaticFault) (number : Declared → W → Option B) (view : X → B) where
  -- parts that were read, of those that come
  pub record TakenSoFar (t0 t1 : Option StaticFault) (before now : List Lexeme) (done : List X) : Type 0 where
    pub seen : List W
    pub read : with_front (map (λ w. w) seen) (language_reader (Many f) now) ≡ language_reader (Many f) before
    pub checked : CheckedPart means t0 t1 (flat_map faults seen) (λ d. each_numbered (number d) seen) (map view done)
    pub counted : length seen ≡ length done

  unfoldable pub none_taken : (t : Option StaticFault) (before : List Lexeme) → TakenSoFar t t before before []
  none_taken t before = record {
    seen = [];
    read = front-none (language_reader (Many f) before);
    checked = record { earliest = refl; unbroken = λ e d p. refl };
    counted = refl;
  }

  unfoldable pub one_more_taken : nullable f ≡ false → (t0 t1 t2 : Option StaticFault) (before now later : List Lexeme) (done after : List X) (x : X)
      → begins_among (first_sorts level_lookahead f) now ≡ true → after ≡ done ++ x ∷ []
      → TakenSoFar t0 t1 before now done → ReadChecked f means faults number t1 t2 now later (view x) → TakenSoFar t0 t2 before later after
  one_more_taken some t0 t1 t2 before now later done after x begun put so_far part = record {
    seen = so_far.seen ++ part.written ∷ [];
    read = goes_on (λ w. w) f some so_far.seen part.written now later (language_reader (Many f) before) begun part.read so_far.read;
    checked = rw (put, map_push view done x, ← flat_map_more faults [] so_far.seen part.written)
        (made (λ h d p. one_numbered_more (number d) so_far.seen part.written (map view done) (view x) (h.0 d p) (h.1 d p)) (both so_far.checked part.checked));
    counted = rw put (length-append so_far.seen (part.written ∷ []) ∙ ap (λ n. n + 1) so_far.counted ∙ sym (length-append done (x ∷ [])));
  }

  unfoldable pub all_taken : nullable f ≡ false → (t0 t1 : Option StaticFault) (before now : List Lexeme) (done : List X) → begins_among (first_sorts level_lookahead f) now ≡ false
      → TakenSoFar t0 t1 before now done → ReadParts f means faults number t0 t1 before now (map view done)
  all_taken some t0 t1 before now done stop so_far = record {
    written = so_far.seen;
    read = is_done (λ w. w) f some so_far.seen now (language_reader (Many f) before) stop so_far.read ∙ ap (λ ws. took ws now) (map-id so_far.seen);
    checked = so_far.checked;
    counted = so_far.counted ∙ sym (length-map done view);
  }
