-- The variable is added exactly where it isn't marked and the store isn't known to be quiet.
use Rattle.std.proofs.Common.{Bool, [], ◌∷◌, ◌++◌, cond, sym, ap, ap₂, ◌∙◌, append-nil}
use Rattle.model_core.specs.Rules.BoundsOfParts.{quiet_set}
use Rattle.model_core.specs.Code.Views.{graph_of, location_of, expression_of}
use Rattle.var_slicing.proofs.faults.add_faulting_target.Goals as goal

pub returns-then-is_marked : goal.returns-then-is_marked
returns-then-is_marked c =
    let quiet = quiet_set (graph_of c.args.model.now) (location_of c.args.target.now) (expression_of c.args.value.now) in
    sym (append-nil c.args.out.now.items)
    ∙ ap (λ (marked : Bool). c.args.out.now.items ++ cond marked [] (cond quiet [] (c.args.target.now.var ∷ []))) (sym c.if-is_marked.true ∙ c.is_marked.ensures)

pub returns-in_ok-push : goal.returns-in_ok-push
returns-in_ok-push c =
    c.in_ok-push.ensures.items
    ∙ ap₂ (λ (marked quiet : Bool). c.args.out.now.items ++ cond marked [] (cond quiet [] (c.args.target.now.var ∷ []))) (sym c.if-is_marked.false ∙ c.is_marked.ensures) (sym c.if-not-quiet_set.true ∙ c.quiet_set.ensures)

pub returns-else-not-quiet_set : goal.returns-else-not-quiet_set
returns-else-not-quiet_set c =
    sym (append-nil c.args.out.now.items)
    ∙ ap₂ (λ (marked quiet : Bool). c.args.out.now.items ++ cond marked [] (cond quiet [] (c.args.target.now.var ∷ []))) (sym c.if-is_marked.false ∙ c.is_marked.ensures) (sym c.if-not-quiet_set.false ∙ c.quiet_set.ensures)
