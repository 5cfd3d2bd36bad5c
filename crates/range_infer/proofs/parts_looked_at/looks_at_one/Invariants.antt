use Rattle.std.proofs.Common.{◌≡◌, drop}
use Rattle.std.specs.List.{list_any}
use Rattle.range_infer.specs.Inner.LookedAt.{looks_at_value}
use Rattle.range_infer.proofs.parts_looked_at.looks_at_one.Given as goal

abbrev pub invariant-loop-value : goal.invariant-loop-value
invariant-loop-value l = list_any (looks_at_value l.look.all l.look.moved.now) (drop l.value-index l.reads) ≡ list_any (looks_at_value l.look.all l.look.moved.now) l.reads
