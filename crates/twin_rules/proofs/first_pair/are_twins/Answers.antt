-- Vertices that aren't alike may not be fused.
use Rattle.std.proofs.Common.{sym, ◌∙◌}
use Rattle.model_core.specs.Code.Views.{graph_of}
use Rattle.twin_rules.proofs.PairsSearched.{no-twins}
use Rattle.twin_rules.proofs.first_pair.are_twins.Goals as goal

pub returns-then-not-may_be_alike-clause-twins : goal.returns-then-not-may_be_alike-clause-twins
returns-then-not-may_be_alike-clause-twins c =
    let g = graph_of c.args.model.now in
    no-twins g c.args.keep c.args.gone (c.may_be_alike.ensures g c.args.keep c.requires.prints c.requires.row c.if-not-may_be_alike.true)

pub returns-then-not-may_be_alike-clause-none_alike : goal.returns-then-not-may_be_alike-clause-none_alike
returns-then-not-may_be_alike-clause-none_alike c = λ none_alike. (none_alike, λ out. c.may_be_alike.ensures (graph_of c.args.model.now) c.args.keep c.requires.prints c.requires.row c.if-not-may_be_alike.true)

pub returns-then-not-are_alike-clause-twins : goal.returns-then-not-are_alike-clause-twins
returns-then-not-are_alike-clause-twins c = no-twins (graph_of c.args.model.now) c.args.keep c.args.gone (sym c.are_alike.ensures ∙ c.if-not-are_alike.true)
