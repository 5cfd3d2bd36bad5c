use Rattle.std.proofs.Common.{drop, zip, IsTrue}
use Rattle.model_core.specs.Run.State.{in_range}
use Rattle.model_core.specs.Run.Changes.{store}
use Rattle.model_core.specs.Code.Views.{graph_of}
use Rattle.run_laws.proofs.MadeSoFar.{MadeSoFar}
use Rattle.sig_expr.proofs.storing.store_all.Given as goal

abbrev pub invariant-loop-i : goal.invariant-loop-i
invariant-loop-i l = record {
  stored : MadeSoFar (store (graph_of l.model)) (λ p t. t) (zip l.places l.values) l.initial.state (drop l.i (zip l.places l.values)) l.state;
  inside : IsTrue (in_range (graph_of l.model) l.state);
}
