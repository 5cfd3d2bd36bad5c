-- The forms of the copies are those of the models.
use Rattle.std.proofs.Common.{subst}
use Rattle.model_core.specs.EventGraph.{EventGraph}
use Rattle.model_core.specs.Code.Views.{graph_of}
use Rattle.normal_form.specs.Normal.{Normal}
use Rattle.normal_form.proofs.one_form.have_one_form.Goals as goal

pub returns : goal.returns
returns c = (
  record {
    first = graph_of c.in_ok-one.one;
    second = graph_of c.in_ok-other.other;
    of_first = subst (λ (g : EventGraph). Normal g (graph_of c.in_ok-one.one)) c.in_ok-copy_model.ensures c.in_ok-one.ensures;
    of_second = subst (λ (g : EventGraph). Normal g (graph_of c.in_ok-other.other)) c.in_ok-copy_model-2.ensures c.in_ok-other.ensures;
  },
  c.same_but_names.ensures,
)
