-- Lines of which one is taken away or changed are no longer.
use Rattle.std.proofs.Common.{ℕ, suc, zero, List, [], ◌∷◌, arith, length-append}
use Rattle.std.specs.List.{flat_map, remove}
use Rattle.model_core.specs.Rules.PlacedEdges.{with_place}
use Rattle.model_core.proofs.NoLongerTexts.{NoLonger, no_longer-after, no_longer-both, no_longer-each}

pub lines_remove : {A : Type 0} (f : A → List ℕ) (xs : List A) (k : ℕ) → NoLonger (flat_map f (remove xs k)) (flat_map f xs)
lines_remove f [] zero = record { at_most = omega arith }
lines_remove f [] (suc k) = record { at_most = omega arith }
lines_remove f (x ∷ xs) zero = record { at_most = omega (arith, length-append (f x) (flat_map f xs)) }
lines_remove f (x ∷ xs) (suc k) = no_longer-after (f x) (lines_remove f xs k)

pub lines_with_place : {A : Type 0} (old new : A → List ℕ) (f : A → A) → ((x : A) → NoLonger (new (f x)) (old x)) → ((x : A) → NoLonger (new x) (old x)) → (k : ℕ) (xs : List A) → NoLonger (flat_map new (with_place f k xs)) (flat_map old xs)
lines_with_place old new f changed same k [] = record { at_most = omega arith }
lines_with_place old new f changed same zero (x ∷ xs) = no_longer-both (changed x) (no_longer-each old new same xs)
lines_with_place old new f changed same (suc k) (x ∷ xs) = no_longer-both (same x) (lines_with_place old new f changed same k xs)
