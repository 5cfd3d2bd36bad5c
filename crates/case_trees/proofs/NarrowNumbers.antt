-- A number that has room keeps its value in 64 bits.
use Rattle.std.proofs.Common.{◌≡◌, ℤ, true, FitsSigned, w64, to_z, of_z, ap, ◌∙◌, arith}
use Rattle.std.specs.Int.{w128}
use Rattle.std.proofs.lemmas.Int.{ints, to_z-of_z}
use Rattle.tree_laws.specs.Limits.{up_to}
use Rattle.case_trees.specs.Rooms.{COEFFICIENT_ROOM}
use Rattle.case_trees.proofs.RoomForSums.{true-up_to}

in_bits : (x : ℤ) → up_to COEFFICIENT_ROOM x ≡ true → FitsSigned w64 x
in_bits x e = let h = true-up_to COEFFICIENT_ROOM x e in let low = h.low in let high = h.high in omega (arith, ints, low, high)

pub narrow-same : (x : ℤ) → FitsSigned w128 x → up_to COEFFICIENT_ROOM x ≡ true → to_z w64 (of_z w64 (to_z w128 (of_z w128 x))) ≡ x
narrow-same x wide e = ap (λ (y : ℤ). to_z w64 (of_z w64 y)) (to_z-of_z _ x wide) ∙ to_z-of_z w64 x (in_bits x e)
