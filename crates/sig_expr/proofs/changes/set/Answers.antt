use Rattle.std.proofs.Common.{rules}
use Rattle.model_core.specs.Code.Views.{graph_of, location_of}
use Rattle.sig_expr.specs.Possible.{PossibleLocation}
use Rattle.sig_base.proofs.Lists.{holds_of_each}
use Rattle.sig_expr.proofs.changes.set.Goals as goal

pub set_one-requires-clause-location : goal.set_one-requires-clause-location
set_one-requires-clause-location c = holds_of_each (PossibleLocation (graph_of c.args.model.now)) location_of c.args.targets.now 0 c.target-item.result c.requires.possible.locations (search rules) c.target-item.is
