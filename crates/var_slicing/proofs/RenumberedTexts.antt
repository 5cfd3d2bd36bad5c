-- Expressions whose variables go by other numbers, in a model that declares these there: their kinds, texts and openings.
use Rattle.std.proofs.Common.{◌≡◌, ℕ, suc, ◌<◌, ◌+◌, pos, negsuc, Bool, true, false, nat_lt, List, [], ◌++◌, Option, Some, None, option_map, slice_get, refl, ap, ap₂, ◌∙◌}
use Rattle.std.specs.Prelude.{codes, if◌then◌else◌}
use Rattle.std.specs.Option.{option_map_or}
use Rattle.std.specs.List.{AllByRecursion}
use Rattle.model_core.specs.declared.model.Kind.{Kind}
use Rattle.model_core.specs.declared.model.Kind.TheVariants as kinds
use Rattle.model_core.specs.EventGraph.{EventGraph, Variable, Operator, Least, Greatest, Expression, Number, Truth, Clock, Scalar, Cell, Negative, Not, Binary, If, Delay, Fixed, Drawn}
use Rattle.model_core.specs.Text.Canonical.{operator_text, level, left_operand_level, right_operand_level, operand, binary_text, variable_name, expression_text, index_text, condition_text}
use Rattle.model_core.specs.Text.Spellable.{operand_openings, binary_openings, expression_openings, index_openings, delay_openings, SpellableExpression}
use Rattle.model_core.specs.Static.Kinds.{operand_kind}
use Rattle.model_core.specs.Static.HasKind.{IsVariable, FitOperands, HasKind}
use Rattle.model_core.specs.Rules.Uses.{variables_in, index_reads}
use Rattle.model_core.specs.Rules.Slice.{expression_renumbered, delay_renumbered}
use Rattle.model_core.proofs.EachOne.{every-front, every-after}

level-renumbered : (f : ℕ → ℕ) (e : Expression) → level (expression_renumbered f e) ≡ level e
level-renumbered f (Number n) = refl
level-renumbered f (Truth b) = refl
level-renumbered f Clock = refl
level-renumbered f (Scalar v) = refl
level-renumbered f (Cell v e) = refl
level-renumbered f (Negative a) = refl
level-renumbered f (Not a) = refl
level-renumbered f (Binary op a b) = refl
level-renumbered f (If c a b) = refl

-- ---- openings

operand_openings-same : (asked : ℕ) (a b : Expression) (m n : ℕ) → level a ≡ level b → m ≡ n → operand_openings asked a m ≡ operand_openings asked b n
operand_openings-same asked a b m n levels same = ap₂ (λ (k l : ℕ). if nat_lt k asked then suc l else l) levels same

binary_openings-same : (f : ℕ → ℕ) (op : Operator) (a b : Expression) (i j m n : ℕ) → i ≡ m → j ≡ n → binary_openings op (expression_renumbered f a) i (expression_renumbered f b) j ≡ binary_openings op a m b n
binary_openings-same f Least a b i j m n left right = ap₂ (λ (k l : ℕ). suc (suc (k + l))) left right
binary_openings-same f Greatest a b i j m n left right = ap₂ (λ (k l : ℕ). suc (suc (k + l))) left right
binary_openings-same f op a b i j m n left right =
    ap₂ (λ (k l : ℕ). suc (k + l)) (operand_openings-same (left_operand_level op) (expression_renumbered f a) a i m (level-renumbered f a) left) (operand_openings-same (right_operand_level op) (expression_renumbered f b) b j n (level-renumbered f b) right)

pub openings-renumbered : (f : ℕ → ℕ) (e : Expression) → expression_openings (expression_renumbered f e) ≡ expression_openings e
openings-renumbered f (Number n) = refl
openings-renumbered f (Truth b) = refl
openings-renumbered f Clock = refl
openings-renumbered f (Scalar v) = refl
openings-renumbered f (Cell v e) = ap suc (openings-renumbered f e)
openings-renumbered f (Negative a) = ap suc (operand_openings-same 7 (expression_renumbered f a) a (expression_openings (expression_renumbered f a)) (expression_openings a) (level-renumbered f a) (openings-renumbered f a))
openings-renumbered f (Not a) = ap suc (operand_openings-same 3 (expression_renumbered f a) a (expression_openings (expression_renumbered f a)) (expression_openings a) (level-renumbered f a) (openings-renumbered f a))
openings-renumbered f (Binary op a b) = binary_openings-same f op a b (expression_openings (expression_renumbered f a)) (expression_openings (expression_renumbered f b)) (expression_openings a) (expression_openings b) (openings-renumbered f a) (openings-renumbered f b)
openings-renumbered f (If c a b) = ap₂ (λ (k l : ℕ). suc (k + l)) (openings-renumbered f c) (ap₂ (λ (k l : ℕ). k + l) (openings-renumbered f a) (openings-renumbered f b))

pub index_openings-renumbered : (f : ℕ → ℕ) (i : Option Expression) → index_openings (option_map (expression_renumbered f) i) ≡ index_openings i
index_openings-renumbered f None = refl
index_openings-renumbered f (Some e) = ap suc (openings-renumbered f e)

pub delay_openings-renumbered : (f : ℕ → ℕ) (delay : Delay) → delay_openings (delay_renumbered f delay) ≡ delay_openings delay
delay_openings-renumbered f (Fixed e) = openings-renumbered f e
delay_openings-renumbered f (Drawn stream choice) = refl

-- ---- what a text can write

pub spellable-renumbered : (f : ℕ → ℕ) (m n : ℕ) (e : Expression) → AllByRecursion (λ v. f v < m) (variables_in e) → SpellableExpression n e → SpellableExpression m (expression_renumbered f e)
spellable-renumbered f m n (Number (pos k)) below s = s
spellable-renumbered f m n (Number (negsuc k)) below s = s
spellable-renumbered f m n (Truth b) below s = tt
spellable-renumbered f m n Clock below s = tt
spellable-renumbered f m n (Scalar v) below s = below.0
spellable-renumbered f m n (Cell v e) below s = (below.0, spellable-renumbered f m n e below.1 s.1)
spellable-renumbered f m n (Negative a) below s = spellable-renumbered f m n a below s
spellable-renumbered f m n (Not a) below s = spellable-renumbered f m n a below s
spellable-renumbered f m n (Binary op a b) below s = (spellable-renumbered f m n a (every-front (λ v. f v < m) (variables_in a) (variables_in b) below) s.0, spellable-renumbered f m n b (every-after (λ v. f v < m) (variables_in a) (variables_in b) below) s.1)
spellable-renumbered f m n (If c a b) below s =
    let first = every-front (λ v. f v < m) (variables_in c ++ variables_in a) (variables_in b) below in
    (spellable-renumbered f m n c (every-front (λ v. f v < m) (variables_in c) (variables_in a) first) s.0, spellable-renumbered f m n a (every-after (λ v. f v < m) (variables_in c) (variables_in a) first) s.1, spellable-renumbered f m n b (every-after (λ v. f v < m) (variables_in c ++ variables_in a) (variables_in b) below) s.2)

-- ---- variables that are declared at their new numbers

module _ (g h : EventGraph) (f : ℕ → ℕ) where
  abbrev pub IsDeclared : ℕ → Type 0
  IsDeclared v = slice_get h.variables (f v) ≡ slice_get g.variables v

  pub variable-declared : (v : ℕ) (array : Bool) (k : Kind) → IsDeclared v → IsVariable g.variables v array k → IsVariable h.variables (f v) array k
  variable-declared v array k declared is = record { variable = is.variable; there = declared ∙ is.there; shape = is.shape; of_kind = is.of_kind }

  pub kind-renumbered : (e : Expression) (k : Kind) → AllByRecursion IsDeclared (variables_in e) → HasKind g.variables e k → HasKind h.variables (expression_renumbered f e) k
  kind-renumbered (Number n) k declared has = has
  kind-renumbered (Truth b) k declared has = has
  kind-renumbered Clock k declared has = has
  kind-renumbered (Scalar v) k declared has = variable-declared v false k declared.0 has
  kind-renumbered (Cell v e) k declared has = (variable-declared v true k declared.0 has.0, kind-renumbered e kinds.Range declared.1 has.1)
  kind-renumbered (Negative a) k declared has = (has.0, kind-renumbered a kinds.Range declared has.1)
  kind-renumbered (Not a) k declared has = (has.0, kind-renumbered a kinds.Truth declared has.1)
  kind-renumbered (Binary op a b) k declared has =
      (has.0, fit-operands (operand_kind op) (λ k. kind-renumbered a k (every-front IsDeclared (variables_in a) (variables_in b) declared)) (λ k. kind-renumbered b k (every-after IsDeclared (variables_in a) (variables_in b) declared)) has.1) where
        fit-operands : (o : Option Kind) → ((k : Kind) → HasKind g.variables a k → HasKind h.variables (expression_renumbered f a) k) → ((k : Kind) → HasKind g.variables b k → HasKind h.variables (expression_renumbered f b) k) → FitOperands o (HasKind g.variables a) (HasKind g.variables b) → FitOperands o (HasKind h.variables (expression_renumbered f a)) (HasKind h.variables (expression_renumbered f b))
        fit-operands None left right fit = (fit.0, left fit.0 fit.1, right fit.0 fit.2)
        fit-operands (Some k) left right fit = (left k fit.0, right k fit.1)
  kind-renumbered (If c a b) k declared has =
      let first = every-front IsDeclared (variables_in c ++ variables_in a) (variables_in b) declared in
      (kind-renumbered c kinds.Truth (every-front IsDeclared (variables_in c) (variables_in a) first) has.0, kind-renumbered a k (every-after IsDeclared (variables_in c) (variables_in a) first) has.1, kind-renumbered b k (every-after IsDeclared (variables_in c ++ variables_in a) (variables_in b) declared) has.2)

  -- ---- texts

  pub name-renumbered : (v : ℕ) → IsDeclared v → variable_name h (f v) ≡ variable_name g v
  name-renumbered v declared = ap (λ (o : Option Variable). option_map_or (λ (x : Variable). x.name) o []) declared

  operand-same : (asked : ℕ) (a : Expression) (x y : List ℕ) → x ≡ y → operand asked (expression_renumbered f a) x ≡ operand asked a y
  operand-same asked a x y same = ap₂ (λ (k : ℕ) (t : List ℕ). if nat_lt k asked then codes "(" ++ t ++ codes ")" else t) (level-renumbered f a) same

  binary_text-same : (op : Operator) (a b : Expression) (x y z w : List ℕ) → x ≡ z → y ≡ w → binary_text op (expression_renumbered f a) x (expression_renumbered f b) y ≡ binary_text op a z b w
  binary_text-same Least a b x y z w left right = ap₂ (λ (s t : List ℕ). codes "min(" ++ s ++ codes ", " ++ t ++ codes ")") left right
  binary_text-same Greatest a b x y z w left right = ap₂ (λ (s t : List ℕ). codes "max(" ++ s ++ codes ", " ++ t ++ codes ")") left right
  binary_text-same op a b x y z w left right = ap₂ (λ (s t : List ℕ). s ++ codes " " ++ operator_text op ++ codes " " ++ t) (operand-same (left_operand_level op) a x z left) (operand-same (right_operand_level op) b y w right)

  pub text-renumbered : (e : Expression) → AllByRecursion IsDeclared (variables_in e) → expression_text h (expression_renumbered f e) ≡ expression_text g e
  text-renumbered (Number n) declared = refl
  text-renumbered (Truth b) declared = refl
  text-renumbered Clock declared = refl
  text-renumbered (Scalar v) declared = name-renumbered v declared.0
  text-renumbered (Cell v e) declared = ap₂ (λ (n t : List ℕ). n ++ codes "[" ++ t ++ codes "]") (name-renumbered v declared.0) (text-renumbered e declared.1)
  text-renumbered (Negative a) declared = ap (λ t. codes "-" ++ t) (operand-same 7 a (expression_text h (expression_renumbered f a)) (expression_text g a) (text-renumbered a declared))
  text-renumbered (Not a) declared = ap (λ t. codes "not " ++ t) (operand-same 3 a (expression_text h (expression_renumbered f a)) (expression_text g a) (text-renumbered a declared))
  text-renumbered (Binary op a b) declared =
      binary_text-same op a b (expression_text h (expression_renumbered f a)) (expression_text h (expression_renumbered f b)) (expression_text g a) (expression_text g b) (text-renumbered a (every-front IsDeclared (variables_in a) (variables_in b) declared)) (text-renumbered b (every-after IsDeclared (variables_in a) (variables_in b) declared))
  text-renumbered (If c a b) declared =
      let first = every-front IsDeclared (variables_in c ++ variables_in a) (variables_in b) declared in
      ap₂ (λ (s t : List ℕ). s ++ codes " else " ++ t)
      (ap₂ (λ (s t : List ℕ). codes "if " ++ s ++ codes " then " ++ t) (text-renumbered c (every-front IsDeclared (variables_in c) (variables_in a) first)) (text-renumbered a (every-after IsDeclared (variables_in c) (variables_in a) first)))
      (text-renumbered b (every-after IsDeclared (variables_in c ++ variables_in a) (variables_in b) declared))

  pub index_text-renumbered : (i : Option Expression) → AllByRecursion IsDeclared (index_reads i) → index_text h (option_map (expression_renumbered f) i) ≡ index_text g i
  index_text-renumbered None declared = refl
  index_text-renumbered (Some e) declared = ap (λ t. codes "[" ++ t ++ codes "]") (text-renumbered e declared)

  -- `when true` is left out of both
  pub condition_text-renumbered : (e : Expression) → AllByRecursion IsDeclared (variables_in e) → condition_text h (expression_renumbered f e) ≡ condition_text g e
  condition_text-renumbered (Truth true) declared = refl
  condition_text-renumbered e declared = ap (λ t. codes " when " ++ t) (text-renumbered e declared)
