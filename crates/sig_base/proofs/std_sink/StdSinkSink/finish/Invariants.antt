-- Tries that were interrupted change nothing.
use Rattle.std.proofs.Common.{◌≡◌}
use Rattle.sig_base.specs.Source.{Stays}
use Rattle.sig_base.proofs.std_sink.StdSinkSink.finish.Given as goal

abbrev pub invariant-loop : goal.invariant-loop
invariant-loop g l = record {
  stays : Stays (g.W.Write.contents l.initial.self.inner) (g.W.Write.contents l.self.inner);
  steady : l.self.faults ≡ l.initial.self.faults;
  unchanged : l.self.settled ≡ l.initial.self.settled;
}
