-- Some whole number meets both if one of the numbers, or one beside them, does.
use Rattle.std.proofs.Common.{◌≡◌, ◌∙◌, true, not, ◌||◌, rules, ap}
use Rattle.model_core.specs.EventGraph.{Truth}
use Rattle.model_core.specs.Code.Views.{operator_of}
use Rattle.model_core.proofs.SignedBits.{signed_bits}
use Rattle.range_bounds.specs.Near.{one_beside_meets}
use Rattle.range_bounds.proofs.ComparedNumbers.{meets-some_both}
use Rattle.range_bounds.proofs.compared_alike.is_apart.Goals as goal

pub returns-in_default : goal.returns-in_default
returns-in_default c =
    let p = operator_of c.args.a.op in
    let q = operator_of c.args.b.op in
    let m = c.args.a.number in
    let n = c.args.b.number in
    let met : c.some_meets_both.result ≡ (one_beside_meets p m q n m || one_beside_meets p m q n n) = search (rules, signed_bits) in
    ap not (met ∙ meets-some_both p q (Truth true) (Truth true) m n)
