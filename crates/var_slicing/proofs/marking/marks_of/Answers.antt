-- The list of each place is empty.
use Rattle.std.proofs.Common.{◌∙◌}
use Rattle.std.proofs.lemmas.Result.{IfOk-weaker}
use Rattle.var_slicing.proofs.AllWatched.{unlinked-marked}
use Rattle.var_slicing.proofs.marking.marks_of.Goals as goal

pub returns : goal.returns
returns c = IfOk-weaker c.entailed.result _ _ (λ marks found. found ∙ unlinked-marked c.args.vars.now c.in_ok-next.next.lists.items c.args.count c.in_ok-next.ensures) c.entailed.ensures
