-- Streams that are collected each once: the same are among them, so the same variables are drawn from them.
use Rattle.std.proofs.Common.{◌≡◌, ℕ, ◌==◌, ◌||◌, Bool, true, false, cond, List, [], ◌∷◌, ◌++◌, map, refl, sym, ap, subst, ◌∙◌}
use Rattle.std.proofs.Math.Bool.{or_assoc, or-false}
use Rattle.std.specs.Prelude.{filter}
use Rattle.std.proofs.lemmas.Bool.{eqb-true}
use Rattle.model_core.specs.Rules.MarkedPlaces.{is_among}
use Rattle.model_core.specs.Rules.Needed.{drawn_from}
use Rattle.model_core.proofs.AmongUses.{among-append}
use Rattle.var_slicing.specs.Inner.Needing.{with_stream, with_streams}

-- streams after others are all of them
pub streams-both : (streams ss ts : List ℕ) → with_streams (with_streams streams ss) ts ≡ with_streams streams (ss ++ ts)
streams-both streams [] ts = refl
streams-both streams (s ∷ ss) ts = streams-both (with_stream streams s) ss ts

-- a stream that is among them already
once-more : (streams : List ℕ) (s k : ℕ) → is_among streams s ≡ true → is_among streams k ≡ (is_among streams k || (s == k))
once-more streams s k among_them = tested (s == k) refl where
  tested : (b : Bool) → (s == k) ≡ b → is_among streams k ≡ (is_among streams k || b)
  tested true is = let there : is_among streams k ≡ true = subst (λ (j : ℕ). is_among streams j ≡ true) (eqb-true s k is) among_them in rw there refl
  tested false is = sym (or-false (is_among streams k))

among-with_stream : (streams : List ℕ) (s k : ℕ) → is_among (with_stream streams s) k ≡ (is_among streams k || (s == k))
among-with_stream streams s k = tested (is_among streams s) refl where
  tested : (b : Bool) → is_among streams s ≡ b → is_among (cond b streams (streams ++ s ∷ [])) k ≡ (is_among streams k || (s == k))
  tested true is = once-more streams s k is
  tested false is = among-append streams (s ∷ []) k ∙ ap (λ b. is_among streams k || b) (or-false (s == k))

among-with_streams : (streams ss : List ℕ) (k : ℕ) → is_among (with_streams streams ss) k ≡ (is_among streams k || is_among ss k)
among-with_streams streams [] k = sym (or-false (is_among streams k))
among-with_streams streams (s ∷ ss) k =
    among-with_streams (with_stream streams s) ss k ∙ ap (λ b. b || is_among ss k) (among-with_stream streams s k) ∙ or_assoc (is_among streams k) (s == k) (is_among ss k)

pub drawn-once : (streams : List ℕ) (draws : List (ℕ × ℕ)) → drawn_from (with_streams [] streams) draws ≡ drawn_from streams draws
drawn-once streams draws = ap (λ (test : ℕ → Bool). map (λ ((s, v) : ℕ × ℕ). v) (filter (λ ((s, v) : ℕ × ℕ). test s) draws)) (λ i k. among-with_streams [] streams k i)
