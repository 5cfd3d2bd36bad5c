-- One vertex alone is gone, or nothing is known of the others.
use Rattle.std.proofs.Common.{◌≡◌, ℕ, [], ◌∷◌, List, get_or, slice_index_or, None, sym, ap, subst, ◌∙◌}
use Rattle.std.specs.List.{remove}
use Rattle.model_core.specs.Run.Step.{no_vertex, vertex_at}
use Rattle.model_core.specs.Rules.Conditions.{first_failed}
use Rattle.model_core.specs.Rules.Drop.{drop_conditions, dropped}
use Rattle.vertex_laws.specs.BodyLines.{body_lines}
use Rattle.model_facts.specs.KnownLengths.{BodiesAreRight}
use Rattle.model_facts.specs.FactsAfterDrop.{bodies_after_drop}
use Rattle.model_facts.proofs.BodiesLeft.{only, none-without, bodies-left}
use Rattle.model_facts.proofs.after_drop.keep_bodies_without.Goals as goal

pub returns-then-vertices-eq1-clause-are : goal.returns-then-vertices-eq1-clause-are
returns-then-vertices-eq1-clause-are c = λ g are holds.
    let vs = c.args.vertices.now in
    let gone = get_or vs 0 0 in
    let one : vs ≡ gone ∷ [] = only vs c.if-vertices-eq1.true in
    subst (BodiesAreRight (dropped g vs)) (sym c.take_away.ensures)
    (bodies-left g (dropped g vs) gone c.args.bodies.now
    (λ k. subst (λ (ks : List ℕ). body_lines (dropped g ks) (vertex_at (dropped g ks) k) ≡ body_lines g (slice_index_or (remove g.vertices gone) k no_vertex)) (sym one)
    (c.dropping_one_leaves_lines.ensures g gone k (subst (λ (ks : List ℕ). first_failed (drop_conditions g ks) ≡ None) one holds)))
    are)

pub returns-else-vertices-eq1-clause-are : goal.returns-else-vertices-eq1-clause-are
returns-else-vertices-eq1-clause-are c = λ g are holds. subst (BodiesAreRight (dropped g c.args.vertices.now)) (sym c.forget.ensures) (λ k. tt)

-- one alone goes
pub returns-then-vertices-eq1-clause-is : goal.returns-then-vertices-eq1-clause-is
returns-then-vertices-eq1-clause-is c = c.take_away.ensures ∙ sym (ap (bodies_after_drop c.args.bodies.now) (only c.args.vertices.now c.if-vertices-eq1.true))

pub returns-else-vertices-eq1-clause-is : goal.returns-else-vertices-eq1-clause-is
returns-else-vertices-eq1-clause-is c = c.forget.ensures ∙ sym (none-without c.args.bodies.now c.args.vertices.now c.if-vertices-eq1.false)
