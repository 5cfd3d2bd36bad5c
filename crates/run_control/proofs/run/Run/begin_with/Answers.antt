use Rattle.std.proofs.Common.{rules, sym, ◌∙◌, arith, List, [], ◌∷◌, ◌++◌, ap, subst, length, IsTrue}
use Rattle.std.proofs.lemmas.List.{length-map}
use Rattle.model_core.specs.declared.model.Model.{Model}
use Rattle.model_core.specs.Code.Views.{graph_of, vertex_of}
use Rattle.model_core.specs.Run.History.{allowed}
use Rattle.model_core.specs.Run.Pending.{Entry}
use Rattle.run_laws.proofs.WordsTaken.{none_taken}
use Rattle.run_control.specs.PossibleModel.{PossibleModel}
use Rattle.run_control.proofs.run.Run.begin_with.Goals as goal

pub invariant_of-result : goal.invariant_of-result
invariant_of-result g c =
    let model = sym c.model-model.ensures.model in
    let possible = subst (λ (m : Model). PossibleModel (graph_of m)) model c.requires.possible in
    let none = c.in_ok-reserve.ensures.entries ∙ c.requires.empty in
    let one = c.schedule_first.ensures.entries ∙ ap (λ (xs : List Entry). xs ++ record { time = 0; priority = 5; vertex = 0; values = c.carried_starts.result.items } ∷ []) none in
    record {
      possible = possible;
      inside = rw c.in_ok-state.ensures (c.runs_stay_in_range.ensures.begins (graph_of c.model-model.result.now) possible.initial);
      words = λ stream. rw c.begin-2.ensures (omega (arith, none_taken 64 stream));
      numbers = omega (arith, c.schedule_first.ensures.numbered);
      made_for = c.schedule_first.ensures.vertices ∙ c.in_ok-reserve.ensures.vertices ∙ c.requires.made_for ∙ ap (λ (m : Model). length m.vertices) model ∙ sym (length-map c.model-model.result.now.vertices vertex_of);
      of_vertices = rw one (possible.begins, tt);
    }

pub returns : goal.returns
returns g c =
    let model = c.model-model.ensures.model in
    let takes = subst (λ (m : Model). IsTrue (allowed (graph_of m) c.args.starts.now.values)) (sym model) c.model-model.ensures.takes in
    rw (← model) (search rules)
