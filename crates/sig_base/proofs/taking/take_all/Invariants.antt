-- The bytes before `filled` are those that were taken from the front.
use Rattle.std.proofs.Common.{◌≡◌, ◌+◌, ◌-◌, ◌≤◌, vec_len}
use Rattle.sig_base.specs.Source.{Takes, Shows}
use Rattle.sig_base.proofs.taking.take_all.Given as goal

abbrev pub invariant-loop-filled : goal.invariant-loop-filled
invariant-loop-filled g l = record {
  filled : l.filled ≤ vec_len l.bytes;
  bounded : vec_len l.bytes ≤ l.limit + 1;
  takes : Takes (g.S.Source.seen l.initial.source).left (g.S.Source.seen l.source).left l.filled;
  shows : Shows (g.S.Source.seen l.initial.source).left l.filled l.bytes.items;
  steady : (g.S.Source.seen l.source).faults ≡ (g.S.Source.seen l.initial.source).faults;
}

abbrev pub decreases-loop-filled : goal.decreases-loop-filled
decreases-loop-filled g l = l.limit + 1 - l.filled
