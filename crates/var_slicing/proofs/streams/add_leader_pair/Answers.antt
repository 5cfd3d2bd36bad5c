-- A pair and its turn are added where the stream has a leader.
use Rattle.std.proofs.Common.{ℕ, List, [], ◌∷◌, ◌++◌, Option, sym, ap, ◌∙◌, append_assoc, append-nil}
use Rattle.std.specs.Option.{option_map_or}
use Rattle.var_slicing.proofs.streams.add_leader_pair.Goals as goal

pub returns-in_ok-push-in-Some-2 : goal.returns-in_ok-push-in-Some-2
returns-in_ok-push-in-Some-2 c =
    let pairs = c.args.pairs.now.items in
    let v = c.args.var in
    let first = c.in-Some.first in
    c.in_ok-push-in-Some-2.ensures.items ∙ ap (λ (ps : List (ℕ × ℕ)). ps ++ (v, first) ∷ []) c.in_ok-push-in-Some.ensures.items ∙ append_assoc pairs ((first, v) ∷ []) ((v, first) ∷ [])
    ∙ ap (λ (led : Option ℕ). pairs ++ option_map_or (λ l. (l, v) ∷ (v, l) ∷ []) led []) (sym c.in-Some.is ∙ c.leader.ensures)

pub returns-in-None : goal.returns-in-None
returns-in-None c =
    let pairs = c.args.pairs.now.items in
    let v = c.args.var in
    sym (append-nil pairs) ∙ ap (λ (led : Option ℕ). pairs ++ option_map_or (λ l. (l, v) ∷ (v, l) ∷ []) led []) (sym c.in-None.is ∙ c.leader.ensures)
