use Rattle.run_laws.proofs.CellsThere.{scalar_is_there}
use Rattle.sig_expr.proofs.evaluation.scalar.Goals as goal

pub cell-requires-clause-inside : goal.cell-requires-clause-inside
cell-requires-clause-inside c = scalar_is_there c.args.model.now c.args.state.now c.args.var c.requires.inside c.requires.declared
