-- Tries that were interrupted change nothing.
use Rattle.std.proofs.Common.{◌≡◌, false}
use Rattle.sig_base.specs.Source.{Stays}
use Rattle.sig_base.proofs.std_sink.StdSinkSink.write.Given as goal

abbrev pub invariant-loop : goal.invariant-loop
invariant-loop g l = record {
  stays : Stays (g.W.Write.contents l.initial.self.inner) (g.W.Write.contents l.self.inner);
  steady : l.self.faults ≡ l.initial.self.faults;
  unsettled : l.self.settled ≡ false;
}
