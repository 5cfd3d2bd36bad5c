use Rattle.std.proofs.Common.{◌+◌, ◌-◌, ◌<◌, List, ℤ, length, take, drop, slice_set, sym, ap, subst, arith}
use Rattle.std.proofs.lemmas.List.{length-map}
use Rattle.model_core.specs.Run.State.{State}
use Rattle.model_core.specs.Code.Views.{graph_of, variable_of}
use Rattle.run_snapshot.proofs.FilledStates.{Filled, piece_fits, piece_inside, one_filled}
use Rattle.run_snapshot.proofs.parts_from_snapshot.state_of.Goals as goal

pub slice_bounds-put_variable-end : goal.slice_bounds-put_variable-end
slice_bounds-put_variable-end c =
    let below : c.loop-var.var < length (graph_of c.args.model.now).variables = omega (arith, c.loop-var-test.true, length-map c.args.model.now.vars variable_of) in
    let fits = piece_fits (graph_of c.args.model.now).variables c.args.values.now c.loop-var.var c.loop-var.from c.loop-var.state below c.loop-var.invariant in
    rw c.cells.ensures fits

pub put_variable-requires-clause-inside : goal.put_variable-requires-clause-inside
put_variable-requires-clause-inside c =
    let below : c.loop-var.var < length (graph_of c.args.model.now).variables = omega (arith, c.loop-var-test.true, length-map c.args.model.now.vars variable_of) in
    piece_inside (graph_of c.args.model.now).variables c.args.values.now c.loop-var.var c.loop-var.from c.loop-var.state below c.loop-var.invariant
    (take (c.loop-var.from + length c.cells.result.now - c.loop-var.from) (drop c.loop-var.from c.args.values.now))
    (ap (λ (xs : List ℤ). take (c.loop-var.from + length xs - c.loop-var.from) (drop c.loop-var.from c.args.values.now)) c.cells.ensures)

pub loop-var-preserved : goal.loop-var-preserved
loop-var-preserved c =
    let below : c.loop-var.var < length (graph_of c.args.model.now).variables = omega (arith, c.loop-var-test.true, length-map c.args.model.now.vars variable_of) in
    let piece = take (c.loop-var.from + length c.cells.result.now - c.loop-var.from) (drop c.loop-var.from c.args.values.now) in
    let filled = one_filled (graph_of c.args.model.now).variables c.args.values.now c.loop-var.var c.loop-var.from c.loop-var.state below c.loop-var.invariant piece
    (ap (λ (xs : List ℤ). take (c.loop-var.from + length xs - c.loop-var.from) (drop c.loop-var.from c.args.values.now)) c.cells.ensures) in
    subst (λ (s : State). Filled (graph_of c.args.model.now).variables c.args.values.now (c.loop-var.var + 1) (c.loop-var.from + length c.cells.result.now) s) (sym c.put_variable.ensures)
    (subst (λ (xs : List ℤ). Filled (graph_of c.args.model.now).variables c.args.values.now (c.loop-var.var + 1) (c.loop-var.from + length xs) (slice_set c.loop-var.state c.loop-var.var piece)) (sym c.cells.ensures) filled)
