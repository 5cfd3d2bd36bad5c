-- Each turn makes one round more, or ends.
use Rattle.std.proofs.Common.{◌≡◌, ◌∙◌, sym, ap, subst, length, refl, arith}
use Rattle.std.proofs.lemmas.Bool.{false≢true}
use Rattle.std.proofs.lemmas.List.{length-map}
use Rattle.model_core.specs.Code.Views.{graph_of, variable_of}
use Rattle.model_core.specs.Ranges.Inference.{IsInferred}
use Rattle.range_infer.proofs.OneRound.{variables_given}
use Rattle.range_infer.proofs.OneTurn.{first_turn, as_many, few, is_round, many_next, inferred, next_turn}
use Rattle.range_infer.proofs.inferring.make_rounds.Goals as goal

pub incoming-requires-clause-many : goal.incoming-requires-clause-many
incoming-requires-clause-many c =
    ap length (c.as_slice.ensures.value ∙ c.in_ok-ranges.ensures) ∙ (variables_given (graph_of c.args.model.now) _ ∙ length-map c.args.model.now.vars variable_of)

pub loop-takes-init : goal.loop-takes-init
loop-takes-init c = first_turn (graph_of c.args.model.now) c.in_ok-ranges.ranges.items c.as_slice.result.now c.in_ok-takes.takes.items c.in_ok-ranges.ensures c.as_slice.ensures.value c.in_ok-takes.ensures

pub next_round-requires : goal.next_round-requires
next_round-requires c =
    let g = graph_of c.args.model.now in
    let keeps = ((c.validity_is_by_parts.ensures.by_parts g).0 c.requires.valid).0.parts in
    let turn = c.loop-takes in
    record { many = ap length c.as_slice-before.ensures.value ∙ (as_many g keeps turn.rounds turn.ranges.items turn.takes.items turn.invariant ∙ length-map c.args.model.now.vars variable_of) }

pub same_ranges-requires : goal.same_ranges-requires
same_ranges-requires c =
    let g = graph_of c.args.model.now in
    let keeps = ((c.validity_is_by_parts.ensures.by_parts g).0 c.requires.valid).0.parts in
    let turn = c.loop-takes in
    let made = is_round g keeps turn.rounds turn.ranges.items turn.takes.items turn.invariant _ c.as_slice-before.result.now c.as_slice-in-loop-takes.result.now c.in_ok-next.next.items refl c.as_slice-before.ensures.value c.as_slice-in-loop-takes.ensures.value c.in_ok-next.ensures in
    ap length c.as_slice-after.ensures.value ∙ (many_next g keeps turn.rounds turn.ranges.items turn.takes.items turn.invariant c.in_ok-next.next.items made ∙ sym (ap length c.as_slice-before.ensures.value ∙ as_many g keeps turn.rounds turn.ranges.items turn.takes.items turn.invariant))

pub returns-then-same_ranges : goal.returns-then-same_ranges
returns-then-same_ranges c =
    let g = graph_of c.args.model.now in
    let keeps = ((c.validity_is_by_parts.ensures.by_parts g).0 c.requires.valid).0.parts in
    let turn = c.loop-takes in
    let made = is_round g keeps turn.rounds turn.ranges.items turn.takes.items turn.invariant _ c.as_slice-before.result.now c.as_slice-in-loop-takes.result.now c.in_ok-next.next.items refl c.as_slice-before.ensures.value c.as_slice-in-loop-takes.ensures.value c.in_ok-next.ensures in
    let stays = sym c.as_slice-after.ensures.value ∙ (c.same_ranges.ensures.0 c.if-same_ranges.true ∙ c.as_slice-before.ensures.value) in
    subst (IsInferred g) (sym c.from_vec.ensures) (inferred g keeps turn.rounds turn.ranges.items turn.takes.items turn.invariant c.in_ok-next.next.items made stays)

pub taken_by_moved_readers-requires-clause-many_old : goal.taken_by_moved_readers-requires-clause-many_old
taken_by_moved_readers-requires-clause-many_old c =
    let g = graph_of c.args.model.now in
    let keeps = ((c.validity_is_by_parts.ensures.by_parts g).0 c.requires.valid).0.parts in
    let turn = c.loop-takes in
    ap length c.as_slice-before.ensures.value ∙ (as_many g keeps turn.rounds turn.ranges.items turn.takes.items turn.invariant ∙ length-map c.args.model.now.vars variable_of)

pub taken_by_moved_readers-requires-clause-many : goal.taken_by_moved_readers-requires-clause-many
taken_by_moved_readers-requires-clause-many c =
    let g = graph_of c.args.model.now in
    ap length (c.as_slice-after.ensures.value ∙ c.in_ok-next.ensures) ∙ (variables_given g _ ∙ length-map c.args.model.now.vars variable_of)

pub overflow_add-rounds : goal.overflow_add-rounds
overflow_add-rounds c =
    let g = graph_of c.args.model.now in
    let keeps = ((c.validity_is_by_parts.ensures.by_parts g).0 c.requires.valid).0.parts in
    let turn = c.loop-takes in
    let few_so = few g keeps turn.rounds turn.ranges.items turn.takes.items turn.invariant in
    omega (arith, few_so)

pub loop-takes-preserved : goal.loop-takes-preserved
loop-takes-preserved c =
    let g = graph_of c.args.model.now in
    let keeps = ((c.validity_is_by_parts.ensures.by_parts g).0 c.requires.valid).0.parts in
    let turn = c.loop-takes in
    let made = is_round g keeps turn.rounds turn.ranges.items turn.takes.items turn.invariant _ c.as_slice-before.result.now c.as_slice-in-loop-takes.result.now c.in_ok-next.next.items refl c.as_slice-before.ensures.value c.as_slice-in-loop-takes.ensures.value c.in_ok-next.ensures in
    let changes : c.in_ok-next.next.items ≡ turn.ranges.items → ⊥ = λ same. false≢true (sym c.if-same_ranges.false ∙ c.same_ranges.ensures.1 (c.as_slice-after.ensures.value ∙ (same ∙ sym c.as_slice-before.ensures.value))) in
    next_turn g keeps turn.rounds turn.ranges.items turn.takes.items turn.invariant c.in_ok-next.next.items made changes c.as_slice-before.result.now c.as_slice-after.result.now c.in_ok-takes-2.takes.items c.as_slice-before.ensures.value c.as_slice-after.ensures.value c.in_ok-takes-2.ensures
