-- The cast keeps the number.
use Rattle.std.proofs.Common.{◌≡◌, ℤ, true, sym, subst}
use Rattle.tree_laws.specs.Limits.{up_to}
use Rattle.case_trees.specs.Rooms.{COEFFICIENT_ROOM}
use Rattle.case_trees.proofs.NarrowNumbers.{narrow-same}
use Rattle.case_trees.proofs.limited.narrowed.Goals as goal

pub returns : goal.returns
returns c = narrow-same c.args.value c.ranges.value c.requires

pub invariant_of-result : goal.invariant_of-result
invariant_of-result c =
    record { roomy = subst (λ (v : ℤ). up_to COEFFICIENT_ROOM v ≡ true) (sym (narrow-same c.args.value c.ranges.value c.requires)) c.requires }
