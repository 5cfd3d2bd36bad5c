-- The lines of what the other vertices do stay through a merge, and the number of bytes of the first one's is a sum that stops at
-- the greatest number.
use Rattle.std.proofs.Common.{◌≡◌, ℕ, ◌+◌, ◌-◌, ◌≤◌, ◌==◌, false, min, refl, arith}
use Rattle.model_core.specs.EventGraph.{EventGraph}
use Rattle.model_core.specs.Run.Step.{vertex_at}
use Rattle.model_core.specs.Rules.Merge.{merged_with, merged}
use Rattle.vertex_laws.specs.BodyLines.{body_lines}
use Rattle.vertex_laws.proofs.ChangedLines.{body_elsewhere}
use Rattle.merge_rules.specs.Hollowed.{hollow, merged_leaving}
use Rattle.merge_rules.specs.declared.taking_over.SecondVertex.{SecondVertex}
use Rattle.merge_rules.specs.declared.taking_over.SecondVertex.TheVariants as seconds
use Rattle.vertex_laws.proofs.MergedNames.{name_stays}

-- those of all but the first
pub others-merged : (g : EventGraph) (first second k : ℕ) → (k == first) ≡ false → body_lines (merged g first second) (vertex_at (merged g first second) k) ≡ body_lines g (vertex_at g k)
others-merged g first second = let b = vertex_at g second in body_elsewhere g (merged_with b) (name_stays b) first

-- and those of all but the second, where less is left of that
pub others-left : (left : SecondVertex) (g : EventGraph) (first second k : ℕ) → (k == second) ≡ false → body_lines (merged_leaving left g first second) (vertex_at (merged_leaving left g first second) k) ≡ body_lines (merged g first second) (vertex_at (merged g first second) k)
others-left seconds.Stays g first second k apart = refl
others-left seconds.GivesAway g first second k apart = body_elsewhere (merged g first second) hollow (λ v. refl) second k apart

-- ---- numbers that stop at the greatest one

-- a part is taken off
pub taken_from : (top body gone seen gone_seen : ℕ) → gone ≤ body → seen ≡ min body top → gone_seen ≡ min gone top → gone_seen ≤ seen
taken_from top body gone seen gone_seen within seen_is gone_is = omega (arith, within, seen_is, gone_is)

-- and something is added, where the whole didn't stop there
pub body_sum : (top body gone added whole seen gone_seen added_seen : ℕ) → whole + gone ≡ body + added → gone ≤ body → seen ≡ min body top → (seen ≡ top → ⊥) → gone_seen ≡ min gone top → added_seen ≡ min added top
    → min (seen - gone_seen + added_seen) top ≡ min whole top
body_sum top body gone added whole seen gone_seen added_seen is within seen_is short gone_is added_is =
    let exact : seen ≡ body = omega (arith, seen_is, short) in
    omega (arith, is, within, exact, seen_is, gone_is, added_is)
