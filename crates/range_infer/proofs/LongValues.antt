-- Of a long value the postfix form is kept, and of no other one.
use Rattle.std.proofs.Common.{◌≡◌, ◌==◌, Bool, true, false, cond, List, [], length, None, sym, ◌∙◌, ap}
use Rattle.model_core.specs.EventGraph.{Expression}
use Rattle.range_infer.specs.declared.postfix.PostfixItem.{PostfixItem}
use Rattle.range_infer.specs.Inner.Postfix.{postfix_of}
use Rattle.range_infer.specs.Inner.PartReads.{is_long, long_postfix}

pub long_has : (e : Expression) (xs : List PostfixItem) → xs ≡ long_postfix e → (length xs == 0) ≡ false → xs ≡ postfix_of e None
long_has e xs are some = by (is_long e) are where
  by : (b : Bool) → xs ≡ cond b (postfix_of e None) [] → xs ≡ postfix_of e None
  by true is = is
  by false is = let no : true ≡ false = sym (ap (λ (ys : List PostfixItem). length ys == 0) is) ∙ some in let never : ⊥ = cc in absurd never
