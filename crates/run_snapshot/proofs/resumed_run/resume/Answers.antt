use Rattle.std.proofs.Common.{◌∙◌, sym, subst, IsTrue}
use Rattle.model_core.specs.Run.State.{State, in_range}
use Rattle.model_core.specs.Code.Views.{graph_of}
use Rattle.model_core.specs.Saved.SavedRun.{SavedRun, IsGood}
use Rattle.run_snapshot.proofs.ResumedParts.{state-in_range, noted-fit, entries-known}
use Rattle.run_snapshot.proofs.resumed_run.resume.Goals as goal

pub tracer_of-requires : goal.tracer_of-requires
tracer_of-requires g c =
    let good = subst (λ (s : SavedRun). IsGood (graph_of c.args.model.now) s) (sym c.snapshot.view_is) c.requires.good in
    noted-fit (graph_of c.args.model.now) c.snapshot.inside.noted c.requires.watch good.noted

pub from_parts-run-requires-clause-inside : goal.from_parts-run-requires-clause-inside
from_parts-run-requires-clause-inside g c =
    let good = subst (λ (s : SavedRun). IsGood (graph_of c.args.model.now) s) (sym c.snapshot.view_is) c.requires.good in
    subst (λ (s : State). IsTrue (in_range (graph_of c.args.model.now) s)) (sym c.in_ok-state.ensures) (rw c.as_slice-2.ensures (state-in_range (graph_of c.args.model.now) c.snapshot.inside.values good.values))

pub from_parts-run-requires-clause-of_vertices : goal.from_parts-run-requires-clause-of_vertices
from_parts-run-requires-clause-of_vertices g c =
    let good = subst (λ (s : SavedRun). IsGood (graph_of c.args.model.now) s) (sym c.snapshot.view_is) c.requires.good in
    entries-known c.args.model.now c.snapshot.inside.clock _ c.snapshot.inside.pending (c.schedule_all.ensures.entries ∙ c.as_slice.ensures) good.pending
