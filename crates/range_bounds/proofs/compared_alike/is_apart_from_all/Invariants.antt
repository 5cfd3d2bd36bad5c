use Rattle.std.proofs.Common.{◌≡◌, drop}
use Rattle.std.specs.List.{list_all}
use Rattle.range_bounds.specs.Inner.ComparedAlike.{never_both}
use Rattle.range_bounds.proofs.compared_alike.is_apart_from_all.Given as goal

abbrev pub invariant-loop-other : goal.invariant-loop-other
invariant-loop-other l = list_all (never_both l.one) (drop l.other-index l.others) ≡ list_all (never_both l.one) l.others
