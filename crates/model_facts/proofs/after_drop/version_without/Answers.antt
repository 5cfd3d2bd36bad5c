-- Where none of them needs version 2 of a text, the law says that nothing has changed.
use Rattle.std.proofs.Common.{◌≡◌, ◌∙◌, Bool, Option, Some, None, sym}
use Rattle.model_core.specs.EventGraph.{EventGraph}
use Rattle.model_core.specs.Text.VersionNeeded.{needs_version_two}
use Rattle.model_core.specs.Code.Views.{graph_of}
use Rattle.model_core.specs.Rules.Drop.{dropped}
use Rattle.model_facts.specs.FactsOfModel.{VersionIsRight}
use Rattle.model_facts.proofs.after_drop.version_without.Goals as goal

as_before : (g h : EventGraph) (two : Option Bool) → needs_version_two h ≡ needs_version_two g → VersionIsRight g two → VersionIsRight h two
as_before g h None same right = tt
as_before g h (Some two) same right = right ∙ sym same

pub returns-clause-right : goal.returns-clause-right
returns-clause-right c = λ holds.
    as_before (graph_of c.args.model.now) (dropped (graph_of c.args.model.now) c.args.vertices.now) c.args.version_two
    (c.dropping_takes_lines.ensures.version (graph_of c.args.model.now) c.args.vertices.now holds (sym c.one_is_later.ensures ∙ c.if-one_is_later.false)) c.requires
