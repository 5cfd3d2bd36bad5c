use Rattle.std.proofs.Common.{◌∙◌, List, sym, subst}
use Rattle.model_core.specs.Run.Machine.{Note}
use Rattle.model_core.specs.Code.Views.{graph_of}
use Rattle.watch_trace.proofs.Due.{taken_on, note_of_turn, no_note_of_turn}
use Rattle.watch_trace.proofs.noted_moves.complete.Goals as goal

pub returns-in-Some : goal.returns-in-Some
returns-in-Some g c =
    let r = c.args.run.now in
    let found = rw c.requires.one_model at c.completed.ensures in
    let model = c.model.ensures ∙ c.requires.one_model in
    subst (λ (notes : List Note). g.T.NoteTaker.takes (graph_of r.model) notes (c.args.taker.now, c.args.onto.now) (c.take_on.new.self, c.take_on.new.onto))
    (note_of_turn (graph_of r.model) c.args.turn.now r.now c.in-Some.place (sym found ∙ c.in-Some.is))
    (taken_on _ _ _ _ _ _ model c.state.ensures.value c.clock.ensures g.T.NoteTaker.takes _ _ c.in-Some.place c.take_on.ensures)

pub returns-in_default : goal.returns-in_default
returns-in_default g c =
    let r = c.args.run.now in
    let found = rw c.requires.one_model at c.completed.ensures in
    subst (λ (notes : List Note). g.T.NoteTaker.takes (graph_of r.model) notes (c.args.taker.now, c.args.onto.now) (c.args.taker.now, c.args.onto.now))
    (no_note_of_turn (graph_of r.model) c.args.turn.now r.now (sym found ∙ c.in_default.is)) (g.met.T.NoteTaker.nothing (graph_of r.model) _)
