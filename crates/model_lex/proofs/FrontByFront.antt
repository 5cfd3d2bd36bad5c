-- Front by front, a text is cut into the tokens that `tokens_of` computes.
use Rattle.std.proofs.Common.{◌≡◌, ◌↔◌, ℕ, zero, suc, ◌+◌, ◌≤◌, List, [], ◌∷◌, length, drop, refl, sym, ◌∙◌, ap, subst, arith}
use Rattle.std.specs.Prelude.{Result}
use Rattle.std.proofs.lemmas.List.{length-drop}
use Rattle.model_core.specs.Text.Lexing.{Lexeme, front, front_length, after_front, tokens_from, tokens_of}
use Rattle.model_lex.specs.TextCut.{IsCut, at_end, at_front}
use Rattle.model_lex.proofs.FrontLemmas.{Fits, front-front_at, front_at-fits}
use Rattle.model_lex.proofs.Cutting.{after_byte}

-- the front takes at least a byte
some_byte : (c : ℕ) (s : List ℕ) → 1 ≤ front_length (front c s)
some_byte c s =
    let fits : Fits (c ∷ s) (front c s) = subst (Fits (c ∷ s)) (sym (front-front_at c s)) (front_at-fits (c ∷ s) (omega arith)) in
    fits.0

-- the front is taken off, and the rest gives what comes after it
tokens_from-cons : (at c : ℕ) (s : List ℕ) → tokens_from at 0 (c ∷ s) ≡ after_front at (front c s) (tokens_from (at + front_length (front c s)) 0 (drop (front_length (front c s)) (c ∷ s)))
tokens_from-cons at c s = ap (after_front at (front c s)) (after_byte at (front_length (front c s)) c s (some_byte c s))

computed : {at : ℕ} {text : List ℕ} {r : Result (List Lexeme) ℕ} → IsCut at text r → tokens_from at 0 text ≡ r
computed (at_end at) = refl
computed (at_front at c s later cut) = tokens_from-cons at c s ∙ ap (after_front at (front c s)) (computed cut)

-- with at most n bytes left
cut : (n at : ℕ) (text : List ℕ) → length text ≤ n → IsCut at text (tokens_from at 0 text)
cut n at [] few = at_end at
cut zero at (c ∷ s) few = absurd (omega arith)
cut (suc n) at (c ∷ s) few =
    let k = front_length (front c s) in
    let some : 1 ≤ k = some_byte c s in
    let fewer : length (drop k (c ∷ s)) ≤ n = omega (arith, length-drop k (c ∷ s)) in
    subst (IsCut at (c ∷ s)) (sym (tokens_from-cons at c s)) (at_front at c s (tokens_from (at + k) 0 (drop k (c ∷ s))) (cut n (at + k) (drop k (c ∷ s)) fewer))

pub is_cut : (text : List ℕ) (r : Result (List Lexeme) ℕ) → IsCut 0 text r ↔ (tokens_of text ≡ r)
is_cut text r = (computed, λ e. subst (IsCut 0 text) e (cut (length text) 0 text (omega arith)))
