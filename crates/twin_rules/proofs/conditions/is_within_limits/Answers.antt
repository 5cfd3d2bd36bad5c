-- A name that is no longer makes no longer text.
use Rattle.std.proofs.Common.{sym, ap, length, arith}
use Rattle.model_core.specs.Code.Views.{graph_of}
use Rattle.twin_rules.proofs.AlikeVertices.{conditions-alike}
use Rattle.twin_rules.proofs.NoLongerFused.{still-short}
use Rattle.twin_rules.proofs.conditions.is_within_limits.Goals as goal

pub returns-then-vertex_name : goal.returns-then-vertex_name
returns-then-vertex_name c =
    let g = graph_of c.args.model.now in
    let are = conditions-alike g c.args.keep c.args.gone c.requires.holds in
    sym (still-short g c.args.keep c.args.gone are.first are.gone_unwatched
    (let a = ap length c.vertex_name.ensures in let b = ap length c.vertex_name-then-short.ensures in let e = c.if-vertex_name.true in omega (arith, a, b, e))
    (c.requires.short c.if-short.true))
