-- What the sink has taken are the bytes before `done`.
use Rattle.std.proofs.Common.{◌≡◌, ◌-◌, ◌<◌, ◌≤◌, false, length, take}
use Rattle.sig_base.specs.Sink.{GrowsBy}
use Rattle.sig_base.proofs.putting.put.Given as goal

abbrev pub invariant-loop-done : goal.invariant-loop-done
invariant-loop-done g l = record {
  within : l.done ≤ length l.bytes;
  grown : GrowsBy (g.K.Sink.seen l.initial.sink).written (g.K.Sink.seen l.sink).written (take l.done l.bytes);
  steady : (g.K.Sink.seen l.sink).faults ≡ (g.K.Sink.seen l.initial.sink).faults;
  unchanged : l.done ≡ 0 → (g.K.Sink.seen l.sink).settled ≡ (g.K.Sink.seen l.initial.sink).settled;
  unsettled : 0 < l.done → (g.K.Sink.seen l.sink).settled ≡ false;
}

abbrev pub decreases-loop-done : goal.decreases-loop-done
decreases-loop-done g l = length l.bytes - l.done
