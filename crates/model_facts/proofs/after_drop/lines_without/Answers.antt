-- The law says what is left.
use Rattle.std.proofs.Common.{sym, ◌∙◌}
use Rattle.model_core.specs.Code.Views.{graph_of}
use Rattle.model_core.specs.Rules.Drop.{dropped}
use Rattle.model_facts.proofs.LengthLeft.{length_left, lines-counted}
use Rattle.model_facts.proofs.after_drop.lines_without.Goals as goal

pub returns-clause-right : goal.returns-clause-right
returns-clause-right c = λ holds.
    let law = c.dropping_takes_lines.ensures.lines (graph_of c.args.model.now) c.args.vertices.now holds in
    let counted = lines-counted (graph_of c.args.model.now) c.args.vertices.now _ (sym c.lines_length.ensures ∙ c.in_ok-lines_length.was) in
    length_left (graph_of c.args.model.now) (dropped (graph_of c.args.model.now) c.args.vertices.now) c.args.lines _ _ _ c.checked_sub.result c.in_ok-lines.was c.requires counted law c.checked_sub.ensures
