use Rattle.std.proofs.Common.{arith}
use Rattle.model_core.specs.Code.Views.{graph_of, location_of}
use Rattle.sig_expr.specs.Possible.{PossibleLocation}
use Rattle.sig_base.proofs.Lists.{holds_of_each}
use Rattle.sig_expr.proofs.lists.put_places.Goals as goal

pub place-requires-clause-possible : goal.place-requires-clause-possible
place-requires-clause-possible c = holds_of_each (PossibleLocation (graph_of c.args.model.now)) location_of c.args.targets.now c.loop-target.target-index c.target-item.result c.requires.possible (omega arith) c.target-item.is
