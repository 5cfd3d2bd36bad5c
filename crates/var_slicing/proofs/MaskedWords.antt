-- How many words were taken from each stream, with 0 at the streams from which neither a variable that stays nor a delay is drawn.
use Rattle.std.proofs.Common.{◌≡◌, ℕ, zero, suc, ◌+◌, Bool, true, false, cond, List, [], ◌∷◌, slice_set, refl, sym, ap, ◌∙◌}
use Rattle.std.specs.Prelude.{replicate}
use Rattle.model_core.specs.Run.Changes.{taken_from, one_more}
use Rattle.model_core.specs.Rules.MarkedPlaces.{is_marked}
use Rattle.mark_laws.proofs.Marks.{Marked}

abbrev pub words_left : List Bool → List ℕ → List ℕ
words_left live [] = []
words_left [] (n ∷ ns) = 0 ∷ words_left [] ns
words_left (b ∷ live) (n ∷ ns) = cond b n 0 ∷ words_left live ns

pub words_left-from : (live : List Bool) (ns : List ℕ) (k : ℕ) → Marked live k → taken_from (words_left live ns) k ≡ taken_from ns k
words_left-from live [] k marked = refl
words_left-from [] (n ∷ ns) k marked = cc
words_left-from (true ∷ live) (n ∷ ns) zero marked = refl
words_left-from (false ∷ live) (n ∷ ns) zero marked = cc
words_left-from (b ∷ live) (n ∷ ns) (suc k) marked = words_left-from live ns k marked

pub words_left-set : (live : List Bool) (ns : List ℕ) (k x : ℕ) → Marked live k → words_left live (slice_set ns k x) ≡ slice_set (words_left live ns) k x
words_left-set live [] k x marked = refl
words_left-set [] (n ∷ ns) k x marked = cc
words_left-set (true ∷ live) (n ∷ ns) zero x marked = refl
words_left-set (false ∷ live) (n ∷ ns) zero x marked = cc
words_left-set (b ∷ live) (n ∷ ns) (suc k) x marked = ap (λ ns. cond b n 0 ∷ ns) (words_left-set live ns k x marked)

pub words_left-more : (live : List Bool) (ns : List ℕ) (k : ℕ) → Marked live k → words_left live (one_more ns k) ≡ one_more (words_left live ns) k
words_left-more live ns k marked = words_left-set live ns k (taken_from ns k + 1) marked ∙ ap (λ (n : ℕ). slice_set (words_left live ns) k (n + 1)) (sym (words_left-from live ns k marked))

pub words_left-skip : (live : List Bool) (ns : List ℕ) (k x : ℕ) → is_marked live k ≡ false → words_left live (slice_set ns k x) ≡ words_left live ns
words_left-skip live [] k x dead = refl
words_left-skip [] (n ∷ ns) zero x dead = refl
words_left-skip [] (n ∷ ns) (suc k) x dead = ap (λ ns. 0 ∷ ns) (words_left-skip [] ns k x refl)
words_left-skip (true ∷ live) (n ∷ ns) zero x dead = cc
words_left-skip (false ∷ live) (n ∷ ns) zero x dead = refl
words_left-skip (b ∷ live) (n ∷ ns) (suc k) x dead = ap (λ ns. cond b n 0 ∷ ns) (words_left-skip live ns k x dead)

pub words_left-none : (live : List Bool) (n : ℕ) → words_left live (replicate n 0) ≡ replicate n 0
words_left-none live zero = refl
words_left-none [] (suc n) = ap (λ ns. 0 ∷ ns) (words_left-none [] n)
words_left-none (true ∷ live) (suc n) = ap (λ ns. 0 ∷ ns) (words_left-none live n)
words_left-none (false ∷ live) (suc n) = ap (λ ns. 0 ∷ ns) (words_left-none live n)
