-- Passing over a format leaves what reading it leaves, and a loop that passes over a part again and again passes over
-- all.
use Rattle.std.proofs.Common.{◌≡◌, ℕ, suc, ◌≤◌, Bool, true, false, cond, List, [], ◌∷◌, length, refl, sym, ap, ◌∙◌, arith}
use Rattle.std.specs.Prelude.{Ok, Err}
use Rattle.model_core.specs.Text.Lexing.{Lexeme}
use Rattle.model_core.specs.Text.Format.{Yields, Single, Apply, Either, Many, ByRule}
use Rattle.model_core.specs.Text.Expressions.{LanguageFormat}
use Rattle.model_core.specs.Text.FirstWrong.{wrong_place}
use Rattle.model_core.specs.Text.SnapshotGrammar.{WrittenSnapshot, snapshot_format, IsSnapshot, IsNoSnapshotAt}
use Rattle.text_laws.specs.FirstTokens.{nullable, first_sorts, begins_among}
use Rattle.text_laws.specs.FormatReader.{Parse, Parser, took, stuck, and_next, whole_read}
use Rattle.text_laws.specs.LanguageReader.{level_lookahead, language_reader}
use Rattle.text_laws.proofs.Formats.TokenSorts.{same_reading}
use Rattle.text_laws.proofs.Formats.ManyLaws.{repeated-is, one_more-ok, one_more-err}
use Rattle.text_laws.proofs.Formats.TextLaws.{all-is_spelled, all-is_wrong}
use Rattle.text_laws.proofs.ReadLoop.{shorter}
use Rattle.snapshot_text.specs.Inner.Skimming.{skimmed, skims, skims_whole}
use Rattle.text_laws.proofs.Formats.OneTokenDecides.{snapshot-fine}

skimmed-next : {A B : Type 0} (f : A → B) (r : Parse A) → skimmed r ≡ skimmed (and_next (λ x rest. took (f x) rest) r)
skimmed-next f (Ok r) = refl
skimmed-next f (Err rest) = refl

skimmed-apply : {A B : Type 0} (p : Parse (A → B)) (q : Parser A) (s : Parser (Unit {0})) → ((left : List Lexeme) → s left ≡ skimmed (q left))
    → and_next (λ u left. s left) (skimmed p) ≡ skimmed (and_next (λ f left. and_next (λ x rest. took (f x) rest) (q left)) p)
skimmed-apply (Ok r) q s same = same r.1 ∙ skimmed-next r.0 (q r.1)
skimmed-apply (Err rest) q s same = refl

by-test : {A : Type 0} (b : Bool) (p q : Parse A) (s t : Parse (Unit {0})) → s ≡ skimmed p → t ≡ skimmed q → cond b s t ≡ skimmed (cond b p q)
by-test true p q s t e h = e
by-test false p q s t e h = h

pub skims-is : {A : Type 0} (f : LanguageFormat A) (tokens : List Lexeme) → skims f tokens ≡ skimmed (language_reader f tokens)
skims-is (Yields x) tokens = refl
skims-is (Single s f) tokens = refl
skims-is (Apply p q) tokens = ap (and_next (λ u left. skims q left)) (skims-is p tokens) ∙ skimmed-apply (language_reader p tokens) (language_reader q) (skims q) (skims-is q)
skims-is (Either p q) tokens = by-test (begins_among (first_sorts level_lookahead p) tokens) (language_reader p tokens) (language_reader q tokens) (skims p tokens) (skims q tokens) (skims-is p tokens) (skims-is q tokens)
skims-is (Many p) tokens = refl
skims-is (ByRule r) tokens = refl

-- tokens that were passed over were read
record WasRead {A : Type 0} (r : Parse A) (left : List Lexeme) : Type 0 where
  value : A
  took : r ≡ took value left

was-read : {A : Type 0} (r : Parse A) (left : List Lexeme) → skimmed r ≡ took tt left → WasRead r left
was-read (Ok r) left e = let same : r.1 ≡ left = (same_reading tt tt r.1 left e).1 in record { value = r.0; took = ap (λ (rest : List Lexeme). took r.0 rest) same }
was-read (Err rest) left e = absurd cc

was-stuck : {A : Type 0} (r : Parse A) (rest : List Lexeme) → skimmed r ≡ stuck rest → r ≡ stuck rest
was-stuck (Ok r) rest e = absurd cc
was-stuck (Err left) rest e = let same : left ≡ rest = cc in ap (λ (l : List Lexeme). stuck l) same

module _ {A : Type 0} (f : LanguageFormat A) (some : nullable f ≡ false) where
  reads : (tokens left : List Lexeme) → skims f tokens ≡ took tt left → WasRead (language_reader f tokens) left
  reads tokens left e = was-read (language_reader f tokens) left (sym (skims-is f tokens) ∙ e)

  pub skims-shorter : (tokens left : List Lexeme) → skims f tokens ≡ took tt left → suc (length left) ≤ length tokens
  skims-shorter tokens left e = let r = reads tokens left e in let s = shorter f some tokens r.value left r.took in omega arith

  -- one part more is passed over
  pub skims_on : (tokens left : List Lexeme) → begins_among (first_sorts level_lookahead f) tokens ≡ true → skims f tokens ≡ took tt left → skims (Many f) tokens ≡ skims (Many f) left
  skims_on tokens left begun e =
      let r = reads tokens left e in
      let m : language_reader (Many f) tokens ≡ and_next (λ xs rest. took (r.value ∷ xs) rest) (language_reader (Many f) left) =
      rw (repeated-is (first_sorts level_lookahead f) (language_reader f) (shorter f some) tokens, begun) (one_more-ok (first_sorts level_lookahead f) (language_reader f) tokens r.value left r.took) in
      ap skimmed m ∙ sym (skimmed-next (λ (xs : List A). r.value ∷ xs) (language_reader (Many f) left))

  -- a part can't be passed over
  pub skims_ends : (tokens rest : List Lexeme) → begins_among (first_sorts level_lookahead f) tokens ≡ true → skims f tokens ≡ stuck rest → skims (Many f) tokens ≡ stuck rest
  skims_ends tokens rest begun e =
      let s : language_reader f tokens ≡ stuck rest = was-stuck (language_reader f tokens) rest (sym (skims-is f tokens) ∙ e) in
      let m : language_reader (Many f) tokens ≡ stuck rest = rw (repeated-is (first_sorts level_lookahead f) (language_reader f) (shorter f some) tokens, begun) (one_more-err (first_sorts level_lookahead f) (language_reader f) tokens rest s) in
      ap skimmed m

  -- no part comes
  pub skims_done : (tokens : List Lexeme) → begins_among (first_sorts level_lookahead f) tokens ≡ false → skims (Many f) tokens ≡ took tt tokens
  skims_done tokens stop =
      let m : language_reader (Many f) tokens ≡ took [] tokens = rw (repeated-is (first_sorts level_lookahead f) (language_reader f) (shorter f some) tokens, stop) refl in
      ap skimmed m

-- ---- no token is left after it

whole-skimmed : {A : Type 0} (r : Parse A) → and_next whole_read (skimmed r) ≡ skimmed (and_next whole_read r)
whole-skimmed (Ok r) = by r.1 where
  by : (left : List Lexeme) → whole_read tt left ≡ skimmed (whole_read r.0 left)
  by [] = refl
  by (t ∷ left) = refl
whole-skimmed (Err rest) = refl

skims_whole-is : {A : Type 0} (f : LanguageFormat A) (tokens : List Lexeme) → skims_whole f tokens ≡ skimmed (and_next whole_read (language_reader f tokens))
skims_whole-is f tokens = ap (and_next whole_read) (skims-is f tokens) ∙ whole-skimmed (language_reader f tokens)

pub whole-is_snapshot : (tokens left : List Lexeme) → skims_whole snapshot_format tokens ≡ took tt left → (w : WrittenSnapshot) × IsSnapshot tokens w
whole-is_snapshot tokens left e =
    let r = was-read (and_next whole_read (language_reader snapshot_format tokens)) left (sym (skims_whole-is snapshot_format tokens) ∙ e) in
    (r.value, all-is_spelled snapshot_format tokens r.value left r.took)

pub stuck-is_none : (text : List ℕ) (tokens left : List Lexeme) → skims_whole snapshot_format tokens ≡ stuck left → IsNoSnapshotAt text tokens (wrong_place text left)
stuck-is_none text tokens left e =
    all-is_wrong snapshot_format snapshot-fine text tokens left (was-stuck (and_next whole_read (language_reader snapshot_format tokens)) left (sym (skims_whole-is snapshot_format tokens) ∙ e))
