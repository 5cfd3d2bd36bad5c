use Rattle.std.proofs.Common.{◌≡◌, ◌-◌, ◌≤◌, length}
use Rattle.sig_base.specs.declared.limits.TheConstants.{VERTICES_MAX}
use Rattle.twin_rules.proofs.SkippedPlaces.{SkipsFrom}
use Rattle.twin_rules.proofs.pair_search.PairSearch.find_next.Given as goal

abbrev pub invariant-loop-step : goal.invariant-loop-step
invariant-loop-step l = record {
  keep : l.self.keep ≡ l.initial.self.keep;
  gone : l.self.gone ≡ l.initial.self.gone;
  changed : l.self.changed ≡ l.initial.self.changed;
  small : l.next ≤ VERTICES_MAX;
  long : length l.self.next ≡ VERTICES_MAX;
  skips : SkipsFrom l.initial.self.changed l.self.next (VERTICES_MAX - l.step) l.next;
}
