use Rattle.std.proofs.Common.{w64}
use Rattle.std.proofs.lemmas.Int.{to_z-of_z}
use Rattle.run_laws.proofs.CellsThere.{indexed_is_there}
use Rattle.sig_expr.proofs.evaluation.cell.Goals as goal

pub cell-requires-clause-inside : goal.cell-requires-clause-inside
cell-requires-clause-inside c = indexed_is_there c.args.model.now c.args.state.now c.args.var c.args.index c.in_ok-index.index c.requires.inside c.requires.declared (rw (to_z-of_z w64 c.args.index c.ranges.index) at c.in_ok-index.ensures)
