use Rattle.model_core.specs.Code.Views.{graph_of}
use Rattle.run_snapshot.proofs.FilledStates.{Filled}
use Rattle.run_snapshot.proofs.parts_from_snapshot.state_of.Given as goal

abbrev pub invariant-loop-var : goal.invariant-loop-var
invariant-loop-var l = Filled (graph_of l.model).variables l.values l.var l.from l.state
