-- All parts are looked at.
use Rattle.std.proofs.Common.{◌∙◌, []}
use Rattle.std.proofs.lemmas.Result.{IfOk-weaker}
use Rattle.model_core.specs.Code.Views.{graph_of}
use Rattle.range_infer.proofs.AllSeen.{all_seen}
use Rattle.range_infer.proofs.collecting.incoming.Goals as goal

pub returns : goal.returns
returns c = IfOk-weaker c.incoming_seen.result _ _ (λ takes is. is ∙ all_seen (graph_of c.args.model.now) [] c.args.ranges.now) c.incoming_seen.ensures
