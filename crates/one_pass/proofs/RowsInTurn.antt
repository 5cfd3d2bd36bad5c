-- Parts beside one another, with commas between, that are read and checked one after another.
use Rattle.std.proofs.Common.{◌≡◌, ℕ, Bool, true, false, List, [], ◌∷◌, ◌++◌, map, refl, ap, ◌∙◌}
use Rattle.std.proofs.lemmas.List.{map-id}
use Rattle.model_core.specs.declared.token.Symbol.TheVariants as symbols
use Rattle.model_core.specs.Text.Lexing.{Lexeme}
use Rattle.model_core.specs.Text.Format.{TokenSort, ASymbol, Single, Many, mark, ◌*>◌, separated}
use Rattle.model_core.specs.Text.Expressions.{LanguageFormat}
use Rattle.text_laws.specs.FirstTokens.{begins_as}
use Rattle.text_laws.specs.FormatReader.{took, with_front}
use Rattle.text_laws.specs.LanguageReader.{language_reader}
use Rattle.text_laws.proofs.ReadLoop.{begins-one, goes_on, is_done}
use Rattle.one_pass.specs.Inner.ReadRows.{AllAre, ReadRow}

-- a token that is read comes first
pub stands_first : {A : Type 0} (sort : TokenSort) (f : Lexeme → A) (before after : List Lexeme) (x : A) → language_reader (Single sort f) before ≡ took x after → begins_as sort before ≡ true
stands_first sort f before after x e = go before (begins_as sort before) refl e
  where
    go : (tokens : List Lexeme) (b : Bool) → begins_as sort tokens ≡ b → language_reader (Single sort f) tokens ≡ took x after → begins_as sort tokens ≡ true
    go tokens true is e = is
    go [] false is e = cc
    go (t ∷ tokens) false is e = cc

module _ {W B K : Type 0} (f : LanguageFormat W) (Is : W → B → K → Type 0) where
  -- such parts, and one more
  pub all-push : (ws : List W) (xs : List B) (ks : List K) (w : W) (x : B) (k : K) → AllAre Is ws xs ks → Is w x k → AllAre Is (ws ++ w ∷ []) (xs ++ x ∷ []) (ks ++ k ∷ [])
  all-push [] [] [] w x k a is = (is, tt)
  all-push [] [] (l ∷ ks) w x k a is = absurd a
  all-push [] (y ∷ xs) ks w x k a is = absurd a
  all-push (v ∷ ws) [] ks w x k a is = absurd a
  all-push (v ∷ ws) (y ∷ xs) [] w x k a is = absurd a
  all-push (v ∷ ws) (y ∷ xs) (l ∷ ks) w x k a is = (a.0, all-push ws xs ks w x k a.1 is)

  -- parts that were read, of those that come
  pub record RowSoFar (before now : List Lexeme) (xs : List B) (ks : List K) : Type 0 where
    pub seen : List W
    pub read : with_front (map (λ w. w) seen) (language_reader (Many (mark symbols.Comma *> f)) now) ≡ language_reader (separated f) before
    pub all : AllAre Is seen xs ks

  unfoldable pub first_read : (before now : List Lexeme) (w : W) (x : B) (k : K) → language_reader f before ≡ took w now → Is w x k → RowSoFar before now (x ∷ []) (k ∷ [])
  first_read before now w x k e is = record { seen = w ∷ []; read = rw e refl; all = (is, tt) }

  unfoldable pub next_read : (before now between later : List Lexeme) (at : ℕ) (w : W) (x : B) (k : K) (xs : List B) (ks : List K) → language_reader (mark symbols.Comma) now ≡ took at between → language_reader f between ≡ took w later → Is w x k
      → RowSoFar before now xs ks → RowSoFar before later (xs ++ x ∷ []) (ks ++ k ∷ [])
  next_read before now between later at w x k xs ks comma e is so_far =
      let one : language_reader (mark symbols.Comma *> f) now ≡ took w later = rw (comma, e) refl in
      record {
        seen = so_far.seen ++ w ∷ [];
        read = goes_on (λ v. v) (mark symbols.Comma *> f) refl so_far.seen w now later (language_reader (separated f) before) (begins-one (ASymbol symbols.Comma) now true (stands_first (ASymbol symbols.Comma) (λ t. t.from) now between at comma)) one so_far.read;
        all = all-push so_far.seen xs ks w x k so_far.all is;
      }

  unfoldable pub all_read : (before now : List Lexeme) (xs : List B) (ks : List K) → begins_as (ASymbol symbols.Comma) now ≡ false → RowSoFar before now xs ks → ReadRow (separated f) Is before now xs ks
  all_read before now xs ks stop so_far = record {
    written = so_far.seen;
    read = is_done (λ v. v) (mark symbols.Comma *> f) refl so_far.seen now (language_reader (separated f) before) (begins-one (ASymbol symbols.Comma) now false stop) so_far.read ∙ ap (λ ws. took ws now) (map-id so_far.seen);
    all = so_far.all;
  }
