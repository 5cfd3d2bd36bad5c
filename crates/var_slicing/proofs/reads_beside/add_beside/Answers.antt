-- The pair is added exactly where its second place isn't marked.
use Rattle.std.proofs.Common.{Bool, [], ◌∷◌, ◌++◌, cond, sym, ap, ◌∙◌}
use Rattle.var_slicing.proofs.reads_beside.add_beside.Goals as goal

pub returns-in_ok-push : goal.returns-in_ok-push
returns-in_ok-push c =
    let pairs = c.args.pairs.now.items in
    c.in_ok-push.ensures.items ∙ ap (λ (marked : Bool). cond marked pairs (pairs ++ (c.args.var, c.args.read) ∷ [])) (sym c.if-not-is_marked.true ∙ c.is_marked.ensures)

pub returns-else-not-is_marked : goal.returns-else-not-is_marked
returns-else-not-is_marked c =
    let pairs = c.args.pairs.now.items in
    ap (λ (marked : Bool). cond marked pairs (pairs ++ (c.args.var, c.args.read) ∷ [])) (sym c.if-not-is_marked.false ∙ c.is_marked.ensures)
