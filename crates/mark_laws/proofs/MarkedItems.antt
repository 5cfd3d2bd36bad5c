-- The marked ones of some items: one after the other, and with a function applied to each.
use Rattle.std.proofs.Common.{◌≡◌, ℕ, suc, Bool, true, false, cond, List, [], ◌∷◌, ◌++◌, map, drop, refl, sym, ap, ◌∙◌}
use Rattle.model_core.specs.Rules.MarkedPlaces.{is_marked, marked_of}
use Rattle.mark_laws.proofs.Marks.{marked_of-drop}

pub marked-at : {A : Type 0} (marks : List Bool) (i : ℕ) (b : Bool) → b ≡ is_marked marks i → (x : A) (rest : List A) → marked_of (drop i marks) (x ∷ rest) ≡ cond b (x ∷ []) [] ++ marked_of (drop (suc i) marks) rest
marked-at marks i b stays x rest = marked_of-drop marks i x rest ∙ ap (λ (b : Bool). cond b (x ∷ []) [] ++ marked_of (drop (suc i) marks) rest) (sym stays)

pub marked-none : {A : Type 0} (marks : List Bool) → marked_of {A = A} marks [] ≡ []
marked-none [] = refl
marked-none (b ∷ bs) = refl

pub marked_of-map : {A B : Type 0} (f : A → B) (marks : List Bool) (xs : List A) → marked_of marks (map f xs) ≡ map f (marked_of marks xs)
marked_of-map f [] xs = refl
marked_of-map f (b ∷ bs) [] = refl
marked_of-map f (true ∷ bs) (x ∷ xs) = ap (λ ys. f x ∷ ys) (marked_of-map f bs xs)
marked_of-map f (false ∷ bs) (x ∷ xs) = marked_of-map f bs xs
