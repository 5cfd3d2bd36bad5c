-- Tries that were interrupted change nothing.
use Rattle.std.proofs.Common.{◌≡◌, length}
use Rattle.sig_base.specs.Source.{Stays}
use Rattle.sig_base.proofs.std_source.StdSourceSource.read.Given as goal

abbrev pub invariant-loop : goal.invariant-loop
invariant-loop g l = record {
  stays : Stays (g.R.Read.remaining l.initial.self.inner) (g.R.Read.remaining l.self.inner);
  steady : l.self.faults ≡ l.initial.self.faults;
  same_room : length l.into ≡ length l.initial.into;
}
