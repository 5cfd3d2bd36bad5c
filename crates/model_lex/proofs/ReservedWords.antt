-- Only the reserved words with a word's first byte can be its spelling.
use Rattle.std.proofs.Common.{◌≡◌, ℕ, ◌<◌, Bool, true, false, cond, List, [], ◌∷◌, length, sym, refl, ap, ◌∙◌, arith, slice_index}
use Rattle.std.specs.Prelude.{◌==◌, filter}
use Rattle.std.proofs.lemmas.Bool.Decides.{nat_tests}
use Rattle.model_core.specs.declared.token.Word.{Word}
use Rattle.model_core.specs.Text.Lexing.{Reserved, same_bytes, word_among, reserved_words}
use Rattle.model_lex.specs.Inner.Fronts.{words_with_first}

other_first : (c : ℕ) (s spelling : List ℕ) → (slice_index spelling 0 == c) ≡ false → same_bytes (c ∷ s) spelling ≡ false
other_first c s [] e = refl
other_first c s (d ∷ ds) e = grind (arith, nat_tests)

-- a spelling that is kept where it has the first byte, and else left out
step : (w : List ℕ × Word) (ws kept : List (List ℕ × Word)) (c : ℕ) (s : List ℕ) (b : Bool) → (slice_index w.0 0 == c) ≡ b → word_among ws (c ∷ s) ≡ word_among kept (c ∷ s) → word_among (w ∷ ws) (c ∷ s) ≡ word_among (cond b (w ∷ kept) kept) (c ∷ s)
step w ws kept c s true e same = ap (λ k. cond (same_bytes (c ∷ s) w.0) (Reserved w.1) k) same
step w ws kept c s false e same = rw (other_first c s w.0 e) same

word_among-filter : (ws : List (List ℕ × Word)) (c : ℕ) (s : List ℕ) → word_among ws (c ∷ s) ≡ word_among (filter (λ w. slice_index w.0 0 == c) ws) (c ∷ s)
word_among-filter [] c s = refl
word_among-filter (w ∷ ws) c s = step w ws (filter (λ w. slice_index w.0 0 == c) ws) c s (slice_index w.0 0 == c) refl (word_among-filter ws c s)

-- the reserved words with the word's first byte are enough
pub word_among-first : (c : ℕ) (word : List ℕ) → 0 < length word → slice_index word 0 ≡ c → word_among reserved_words word ≡ word_among (words_with_first c) word
word_among-first c [] some first = absurd (omega arith)
word_among-first c (d ∷ s) some first = ap (λ x. word_among reserved_words (x ∷ s)) first ∙ word_among-filter reserved_words c s ∙ ap (λ x. word_among (words_with_first c) (x ∷ s)) (sym first)
