use Rattle.std.proofs.Common.{◌≡◌, ℕ, length}
use Rattle.sig_base.specs.declared.limits.TheConstants.{VERTICES_MAX}
use Rattle.model_core.specs.Code.Views.{graph_of}
use Rattle.twin_rules.specs.Inner.ComparedPairs.{some_leads}
use Rattle.twin_rules.proofs.Marking.{MarkedSoFar}
use Rattle.twin_rules.proofs.pair_search.PairSearch.mark.Given as goal

abbrev pub invariant-loop-place : goal.invariant-loop-place
invariant-loop-place l = record {
  keep : l.self.keep ≡ l.initial.self.keep;
  gone : l.self.gone ≡ l.initial.self.gone;
  long : length l.initial.self.changed ≡ VERTICES_MAX;
  marked : MarkedSoFar (λ (k : ℕ). some_leads (graph_of l.model) k l.gone) l.gone l.initial.self.changed l.self.changed l.place;
}
