-- The code's equality of models without names decides what the definition's does.
use Rattle.std.proofs.Common.{◌≡◌, subst}
use Rattle.std.specs.Bool.{Decides}
use Rattle.std.proofs.lemmas.Bool.Decides.{same_from_decides}
use Rattle.model_core.specs.EventGraph.{EventGraph}
use Rattle.model_core.specs.Code.Views.{graph_of}
use Rattle.model_core.proofs.SameGraphs.{graphs_decide}
use Rattle.alike_laws.specs.Nameless.{nameless}
use Rattle.normal_form.specs.OneForm.{equal_but_names}
use Rattle.normal_form.proofs.one_form.same_but_names.Goals as goal

pub returns : goal.returns
returns c =
    let g = graph_of c.args.first in
    let h = graph_of c.args.second in
    let same = c.same_model.result in
    same_from_decides same (equal_but_names g h)
    (subst (λ (m : EventGraph). Decides same (m ≡ nameless h)) c.forget_names.ensures
    (subst (λ (m : EventGraph). Decides same (graph_of c.forget_names.new.model ≡ m)) c.forget_names-2.ensures c.same_model.ensures))
    (graphs_decide (nameless g) (nameless h))
