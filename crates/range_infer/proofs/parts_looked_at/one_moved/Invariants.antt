use Rattle.std.proofs.Common.{◌≡◌, drop}
use Rattle.std.specs.List.{list_any}
use Rattle.range_infer.specs.Inner.Moved.{is_moved}
use Rattle.range_infer.proofs.parts_looked_at.one_moved.Given as goal

abbrev pub invariant-loop-var : goal.invariant-loop-var
invariant-loop-var l = list_any (is_moved l.moved) (drop l.var-index l.vars) ≡ list_any (is_moved l.moved) l.vars
