-- Expressions without faults, from their operands.
use Rattle.std.proofs.Common.{◌≡◌, ℕ, false, List, [], ◌++◌, Option, Some, None, refl}
use Rattle.model_core.specs.declared.model.Kind.{Kind}
use Rattle.model_core.specs.declared.model.Kind.TheVariants as kinds
use Rattle.model_core.specs.EventGraph as graph
use Rattle.model_core.specs.Text.Written as written
use Rattle.model_core.specs.Text.Written.{WrittenName, WrittenExpression}
use Rattle.model_core.specs.Text.Expressions.{place, moved, of_name, joining}
use Rattle.model_core.specs.Text.Numbering.{declared_place}
use Rattle.model_core.specs.Static.Meanings.{Meaning, AsScalar, AsArray}
use Rattle.model_core.specs.Static.Kinds.{kinds_differ, operand_kind, result_kind, right_operand_kind, known_or, kind_in_role, expression_kind}
use Rattle.model_core.specs.Static.PartFaults.{use_faults, expression_faults, kind_faults}
use Rattle.static_laws.specs.Checked.{NumberedAs}
use Rattle.static_laws.proofs.StaticTwins.Twins.{both_empty}
use Rattle.one_pass.specs.Inner.ReadOperands.{IsOperand}

module _ (means : List ℕ → Option Meaning) where
  -- an operand of the kind that is wanted
  pub fitting : (e : WrittenExpression) (x : graph.Expression) (kind wanted : Option Kind) → IsOperand means e x kind → kinds_differ wanted kind ≡ false → expression_faults means e ++ kind_faults means wanted e ≡ []
  fitting e x kind wanted is fits = both_empty (expression_faults means e) (kind_faults means wanted e) is.unbroken (rw (← is.has_kind, fits) refl)

  two : (at : ℕ) (op : graph.Operator) (a b : WrittenExpression) (x y : graph.Expression) (k l : Option Kind) → IsOperand means a x k → IsOperand means b y l
      → kinds_differ (operand_kind op) k ≡ false → kinds_differ (right_operand_kind op k) l ≡ false → IsOperand means (written.Binary at op a b) (graph.Binary op x y) (Some (result_kind op))
  two at op a b x y k l left right fits also = record {
    unbroken = both_empty (expression_faults means a ++ kind_faults means (operand_kind op) a) (expression_faults means b ++ kind_faults means (right_operand_kind op (expression_kind means a)) b)
        (fitting a x k (operand_kind op) left fits) (fitting b y l (right_operand_kind op (expression_kind means a)) right (rw left.has_kind at also));
    numbers = λ d p. rw (left.numbers d p, right.numbers d p) refl;
    has_kind = refl;
  }

  -- two operands with an operator between them, as the code joins them
  pub joined_operand : (op : graph.Operator) (a b : WrittenExpression) (x y z : graph.Expression) (k l m : Option Kind) → IsOperand means a x k → IsOperand means b y l
      → kinds_differ (operand_kind op) k ≡ false → kinds_differ (right_operand_kind op k) l ≡ false → z ≡ graph.Binary op x y → m ≡ Some (result_kind op) → IsOperand means (joining a (op, b)) z m
  joined_operand op a b x y z k l m left right fits also is kind = rw (is, kind) (two (place a) op a b x y k l left right fits also)

  -- two operands after a name
  pub called_operand : (at : ℕ) (op : graph.Operator) (a b : WrittenExpression) (x y z : graph.Expression) (k l m : Option Kind) → IsOperand means a x k → IsOperand means b y l
      → kinds_differ (operand_kind op) k ≡ false → kinds_differ (right_operand_kind op k) l ≡ false → z ≡ graph.Binary op x y → m ≡ Some (result_kind op) → IsOperand means (written.Binary at op a b) z m
  called_operand at op a b x y z k l m left right fits also is kind = rw (is, kind) (two at op a b x y k l left right fits also)

  pub negated_operand : (at : ℕ) (a : WrittenExpression) (x y : graph.Expression) (k : Option Kind) → IsOperand means a x k → kinds_differ (Some kinds.Truth) k ≡ false → y ≡ x
      → IsOperand means (written.Not at a) (graph.Not y) (Some kinds.Truth)
  negated_operand at a x y k is fits same = record { unbroken = fitting a x k (Some kinds.Truth) is fits; numbers = λ d p. rw (same, is.numbers d p) refl; has_kind = refl }

  pub negative_operand : (at : ℕ) (a : WrittenExpression) (x y : graph.Expression) (k : Option Kind) → IsOperand means a x k → kinds_differ (Some kinds.Range) k ≡ false → y ≡ x
      → IsOperand means (written.Negative at a) (graph.Negative y) (Some kinds.Range)
  negative_operand at a x y k is fits same = record { unbroken = fitting a x k (Some kinds.Range) is fits; numbers = λ d p. rw (same, is.numbers d p) refl; has_kind = refl }

  pub scalar_operand : (n : WrittenName) (v : ℕ) (k : Option Kind) → use_faults means AsScalar n ≡ [] → NumberedAs means (λ d. declared_place n.name d.variables) v → k ≡ kind_in_role AsScalar (means n.name)
      → IsOperand means (of_name n None) (graph.Scalar v) k
  scalar_operand n v k unbroken numbers kind = record { unbroken = unbroken; numbers = λ d p. rw (numbers d p) refl; has_kind = kind }

  pub cell_operand : (n : WrittenName) (a : WrittenExpression) (v : ℕ) (x y : graph.Expression) (k l : Option Kind) → use_faults means AsArray n ≡ [] → NumberedAs means (λ d. declared_place n.name d.variables) v
      → k ≡ kind_in_role AsArray (means n.name) → IsOperand means a x l → kinds_differ (Some kinds.Range) l ≡ false → y ≡ x → IsOperand means (of_name n (Some a)) (graph.Cell v y) k
  cell_operand n a v x y k l unbroken numbers kind index fits same = record {
    unbroken = both_empty (use_faults means AsArray n) (expression_faults means a ++ kind_faults means (Some kinds.Range) a) unbroken (fitting a x l (Some kinds.Range) index fits);
    numbers = λ d p. rw (same, numbers d p, index.numbers d p) refl;
    has_kind = kind;
  }

  pub chosen_operand : (at : ℕ) (c a b : WrittenExpression) (x y z w : graph.Expression) (k l m n : Option Kind) → IsOperand means c x k → IsOperand means a y l → IsOperand means b z m
      → kinds_differ (Some kinds.Truth) k ≡ false → kinds_differ l m ≡ false → w ≡ graph.If x y z → n ≡ known_or l m → IsOperand means (written.If at c a b) w n
  chosen_operand at c a b x y z w k l m n test first second fits also is kind = record {
    unbroken = both_empty ((expression_faults means c ++ kind_faults means (Some kinds.Truth) c) ++ expression_faults means a) (expression_faults means b ++ kind_faults means (expression_kind means a) b)
        (both_empty (expression_faults means c ++ kind_faults means (Some kinds.Truth) c) (expression_faults means a) (fitting c x k (Some kinds.Truth) test fits) first.unbroken)
        (fitting b z m (expression_kind means a) second (rw first.has_kind at also));
    numbers = λ d p. rw (is, test.numbers d p, first.numbers d p, second.numbers d p) refl;
    has_kind = rw (kind, first.has_kind, second.has_kind) refl;
  }

  -- an expression at another place
  pub moved_operand : (at : ℕ) (a : WrittenExpression) (x : graph.Expression) (k : Option Kind) → IsOperand means a x k → IsOperand means (moved at a) x k
  moved_operand at (written.Number j n) x k is = record { unbroken = is.unbroken; numbers = is.numbers; has_kind = is.has_kind }
  moved_operand at (written.Truth j b) x k is = record { unbroken = is.unbroken; numbers = is.numbers; has_kind = is.has_kind }
  moved_operand at (written.Clock j) x k is = record { unbroken = is.unbroken; numbers = is.numbers; has_kind = is.has_kind }
  moved_operand at (written.Scalar j n) x k is = record { unbroken = is.unbroken; numbers = is.numbers; has_kind = is.has_kind }
  moved_operand at (written.Cell j n b) x k is = record { unbroken = is.unbroken; numbers = is.numbers; has_kind = is.has_kind }
  moved_operand at (written.Negative j b) x k is = record { unbroken = is.unbroken; numbers = is.numbers; has_kind = is.has_kind }
  moved_operand at (written.Not j b) x k is = record { unbroken = is.unbroken; numbers = is.numbers; has_kind = is.has_kind }
  moved_operand at (written.Binary j op b c) x k is = record { unbroken = is.unbroken; numbers = is.numbers; has_kind = is.has_kind }
  moved_operand at (written.If j b c e) x k is = record { unbroken = is.unbroken; numbers = is.numbers; has_kind = is.has_kind }
