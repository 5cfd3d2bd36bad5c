-- The edges before the place, and those after it.
use Rattle.model_core.specs.Code.Views.{edge_of}
use Rattle.merge_rules.proofs.ConditionsAsked.AllButOne.{parts_left}
use Rattle.merge_rules.proofs.other_edges.all_but.Goals as goal

pub returns-then-place-edges : goal.returns-then-place-edges
returns-then-place-edges c = parts_left edge_of c.args.edges.now c.args.place
