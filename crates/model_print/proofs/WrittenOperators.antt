-- The texts of operators and sizes, where the code has found out which they are.
use Rattle.std.proofs.Common.{◌≡◌, ◌∙◌, ℕ, zero, suc, List, ◌++◌, append_assoc, ap, sym, refl, arith}
use Rattle.std.specs.Prelude.{codes, decimal}
use Rattle.model_core.specs.EventGraph.{Operator, Add, Subtract, Multiply, Divide, Remainder, Least, Greatest, Equal, NotEqual, Below, AtMost, Above, AtLeast, And, Or, Expression}
use Rattle.model_core.specs.Text.Canonical.{operator_level, operator_text, binary_text, infix_text, size_text}

pub size_written : (n : ℕ) → ¬ n ≡ 0 → size_text n ≡ codes "[" ++ decimal n ++ codes "]"
size_written zero other = absurd (other refl)
size_written (suc n) other = refl

-- the text between two operands is put in one piece
pub put_at_once : (left space op right : List ℕ) → left ++ (space ++ op ++ space) ++ right ≡ left ++ space ++ op ++ space ++ right
put_at_once left space op right = ap (λ x. x ++ right) (sym (append_assoc left (space ++ op) space) ∙ ap (λ x. x ++ space) (sym (append_assoc left space op)))

module _ (a : Expression) (left : List ℕ) (b : Expression) (right : List ℕ) where
  -- an operator of the tightest level is before its operands
  pub before_both : (op : Operator) → operator_level op ≡ 8 → binary_text op a left b right ≡ operator_text op ++ codes "(" ++ left ++ codes ", " ++ right ++ codes ")"
  before_both Add e = absurd (omega (arith, e))
  before_both Subtract e = absurd (omega (arith, e))
  before_both Multiply e = absurd (omega (arith, e))
  before_both Divide e = absurd (omega (arith, e))
  before_both Remainder e = absurd (omega (arith, e))
  before_both Least e = refl
  before_both Greatest e = refl
  before_both Equal e = absurd (omega (arith, e))
  before_both NotEqual e = absurd (omega (arith, e))
  before_both Below e = absurd (omega (arith, e))
  before_both AtMost e = absurd (omega (arith, e))
  before_both Above e = absurd (omega (arith, e))
  before_both AtLeast e = absurd (omega (arith, e))
  before_both And e = absurd (omega (arith, e))
  before_both Or e = absurd (omega (arith, e))

  -- an operator of another level is between its operands
  pub between : (op : Operator) → ¬ operator_level op ≡ 8 → binary_text op a left b right ≡ infix_text op a left b right
  between Add n = refl
  between Subtract n = refl
  between Multiply n = refl
  between Divide n = refl
  between Remainder n = refl
  between Least n = absurd (n refl)
  between Greatest n = absurd (n refl)
  between Equal n = refl
  between NotEqual n = refl
  between Below n = refl
  between AtMost n = refl
  between Above n = refl
  between AtLeast n = refl
  between And n = refl
  between Or n = refl
