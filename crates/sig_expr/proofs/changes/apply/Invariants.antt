use Rattle.std.proofs.Common.{◌≡◌, ℕ, ◌+◌, ◌≤◌, drop, map, IsTrue}
use Rattle.model_core.specs.Run.State.{in_range}
use Rattle.model_core.specs.Run.Changes.{make_change, taken_from}
use Rattle.model_core.specs.Run.LeftByFaults.{left_by_change}
use Rattle.model_core.specs.Code.Views.{graph_of, change_of}
use Rattle.run_laws.proofs.MadeSoFar.{MadeSoFar}
use Rattle.sig_expr.proofs.changes.apply.Given as goal

abbrev pub invariant-loop-change : goal.invariant-loop-change
invariant-loop-change l = record {
  made : MadeSoFar (make_change (graph_of l.model) l.initial.streams.seed l.clk) (left_by_change (graph_of l.model) l.initial.streams.seed l.clk) (map change_of l.changes)
      (record { state = l.initial.state; taken = l.initial.streams.taken }) (map change_of (drop l.change-index l.changes)) (record { state = l.state; taken = l.streams.taken });
  inside : IsTrue (in_range (graph_of l.model) l.state);
  seed : l.streams.seed ≡ l.initial.streams.seed;
  countable : (stream : ℕ) → taken_from l.streams.taken stream ≤ taken_from l.initial.streams.taken stream + l.change-index;
}
