-- What is left beside an operator, by the value that its left operand is known to have.
use Rattle.std.proofs.Common.{◌≡◌, Bool, true, false, List, Some, None, refl}
use Rattle.model_core.specs.EventGraph.{Variable, Operator, And, Or, Expression}
use Rattle.model_core.specs.Rules.BoundsOf.{beside}
use Rattle.model_core.specs.Ranges.Refined.{refined}
use Rattle.range_infer.specs.Inner.Postfix.{guard_of}

pub beside-no_guard : (op : Operator) (a : Expression) (rs : List Variable) → guard_of op ≡ None → beside refined op a rs ≡ rs
beside-no_guard And a rs is = cc
beside-no_guard Or a rs is = cc
beside-no_guard op a rs is = refl

pub beside-guard : (op : Operator) (b : Bool) (a : Expression) (rs : List Variable) → guard_of op ≡ Some b → beside refined op a rs ≡ refined a b rs
beside-guard And true a rs is = refl
beside-guard And false a rs is = cc
beside-guard Or true a rs is = cc
beside-guard Or false a rs is = refl
beside-guard op b a rs is = cc
