-- Where every variable is watched, none is left to be looked for.
use Rattle.std.proofs.Common.{◌∙◌, sym}
use Rattle.std.proofs.lemmas.List.{nil_from_length}
use Rattle.model_core.specs.Code.Views.{graph_of}
use Rattle.var_slicing.proofs.AllWatched.{all-needed}
use Rattle.var_slicing.proofs.marking.unneeded.Goals as goal

pub returns-then-len-eq0 : goal.returns-then-len-eq0
returns-then-len-eq0 c =
    let none = nil_from_length c.in_ok-unwatched.unwatched (sym c.len.ensures ∙ c.if-len-eq0.true) in
    none ∙ sym (all-needed (graph_of c.args.model.now) (sym c.in_ok-unwatched.ensures ∙ none))
