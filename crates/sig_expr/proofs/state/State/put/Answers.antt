use Rattle.std.proofs.Common.{w64}
use Rattle.std.proofs.lemmas.Int.{to_z-of_z}
use Rattle.sig_expr.proofs.PieceLaws.{written}
use Rattle.sig_expr.proofs.state.State.put.Goals as goal

pub returns : goal.returns
returns c =
    let w = written c.self.inside.cells.items c.self.inside.spans.items c.args.var c.args.index c.args.value c.index.result.now c.self.invariant c.index.ensures (rw c.self.view_is c.requires.exists) (rw c.self.view_is c.requires.inside) in
    rw (← c.self.view_is, to_z-of_z w64 c.args.value c.ranges.value) w
