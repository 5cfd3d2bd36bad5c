use Rattle.std.proofs.Common.{arith}
use Rattle.std.proofs.lemmas.Bool.Decides.{nat_tests}
use Rattle.sig_expr.proofs.PieceLaws.{ends_inside}
use Rattle.sig_expr.proofs.state.State.cells.Goals as goal

pub part-requires : goal.part-requires
part-requires c =
    let spans = c.as_slice.ensures.value in
    let found = c.in-Some.ensures.lookup in
    rw (c.as_slice-in-Some.ensures.value)
    (ends_inside c.as_slice.result.now _ c.args.var c.in-Some.span.now _ (rw (← spans) at c.self.invariant) (grind (arith, nat_tests, found.0)) found.1)
