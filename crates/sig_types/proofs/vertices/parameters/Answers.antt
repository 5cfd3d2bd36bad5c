use Rattle.std.proofs.Common.{map}
use Rattle.model_core.specs.Code.WrittenViews.{written_name}
use Rattle.model_core.specs.Static.Meanings.{meaning_of}
use Rattle.static_laws.proofs.VertexParts.{parameters_checked}
use Rattle.sig_types.proofs.vertices.parameters.Goals as goal

pub returns : goal.returns
returns c = parameters_checked (meaning_of c.args.names.now) _ _ _ _ (map written_name c.args.raws.now) _ c.report_too_many.ensures c.in_ok-vars.ensures c.in_ok-report_repeats.ensures
