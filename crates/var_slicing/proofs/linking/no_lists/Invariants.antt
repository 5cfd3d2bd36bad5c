use Rattle.std.proofs.Common.{◌≡◌}
use Rattle.var_slicing.specs.Inner.Linking.{no_lists}
use Rattle.var_slicing.proofs.linking.no_lists.Given as goal

abbrev pub invariant-loop-place : goal.invariant-loop-place
invariant-loop-place l = l.next.items ≡ no_lists l._place
