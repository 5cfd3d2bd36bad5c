-- Expressions: nothing of one is broken exactly where what it is numbered as has a kind, which is then its own.
use Rattle.std.proofs.Common.{◌≡◌, ◌↔◌, ℕ, suc, true, false, List, [], ◌∷◌, ◌++◌, map, length, Option, Some, None, refl, sym, ap, subst, arith}
use Rattle.std.specs.List.{AllZip}
use Rattle.std.specs.Option.{option_map}
use Rattle.std.proofs.lemmas.Option.{same_Some}
use Rattle.model_core.specs.declared.model.Kind.{Kind}
use Rattle.model_core.specs.declared.model.Kind.TheVariants as kinds
use Rattle.model_core.specs.EventGraph as graph
use Rattle.model_core.specs.EventGraph.{Variable, Expression}
use Rattle.model_core.specs.Text.Written as written
use Rattle.model_core.specs.Text.Written.{WrittenExpression}
use Rattle.model_core.specs.Text.Expressions.{place}
use Rattle.model_core.specs.Text.Numbering as numbering
use Rattle.model_core.specs.Text.Numbering.{each_numbered, declared_place, Declared}
use Rattle.model_core.specs.Static.Meanings.{Meaning, AsArray}
use Rattle.model_core.specs.Static.Kinds.{known_or, result_kind, operand_kind, expression_kind}
use Rattle.model_core.specs.Static.RuleTable.{kind_mismatch}
use Rattle.model_core.specs.Static.PartFaults.{use_faults, kind_faults, expression_faults, operand_faults, values_faults}
use Rattle.model_core.specs.Static.HasKind.{FitOperands, HasKind}
use Rattle.model_core.proofs.EmptyLists.{left_empty, right_empty}
use Rattle.static_laws.proofs.StaticTwins.MadeOf.{of_one, of_two, of_three}
use Rattle.static_laws.proofs.StaticTwins.Twins.{both_empty, Twin, twin_two}
use Rattle.static_laws.proofs.StaticTwins.RowTwins.{same_kind, valued}
use Rattle.static_laws.proofs.StaticTwins.NamesAgree.{NamesAgree, variable_kept, variable_unbroken}

module _ (means : List ℕ → Option Meaning) (d : Declared) (variables : List Variable) (tables vertices : ℕ) (agree : NamesAgree means d variables tables vertices) where
  -- an expression that is numbered as this is of this kind, and so is what it is numbered as
  pub record Kinded (e : WrittenExpression) (y : Expression) (kind : Kind) : Type 0 where
    pub is : numbering.expression d e ≡ Some y
    pub known : expression_kind means e ≡ Some kind
    pub has : HasKind variables y kind

  pub record Kept (e : WrittenExpression) : Type 0 where
    pub expression : Expression
    pub kind : Kind
    pub kinded : Kinded e expression kind

  pub record Unbroken (e : WrittenExpression) (kind : Kind) : Type 0 where
    pub none : expression_faults means e ≡ []
    pub known : expression_kind means e ≡ Some kind

  -- a part whose kind is known, beside the kind that is wanted
  wanted_kind : (wanted : Kind) (e : WrittenExpression) (o : Option Kind) (kind : Kind) → o ≡ Some kind → kind_mismatch (Some wanted) o (place e) ≡ [] ↔ wanted ≡ kind
  wanted_kind wanted e None kind s = cc
  wanted_kind wanted e (Some k) kind s = rw (some_same s) (same_kind wanted kind (place e))
    where
      some_same : Some k ≡ Some kind → k ≡ kind
      some_same p = cc

  -- the same for an expression of which the two halves are known
  operand_kept : (e : WrittenExpression) → (expression_faults means e ≡ [] → Kept e) → (wanted : Kind) → operand_faults means (Some wanted) e ≡ [] → (y : Expression) × Kinded e y wanted
  operand_kept e kept wanted h =
      let k = kept (left_empty (expression_faults means e) (kind_faults means (Some wanted) e) h) in
      let same = (wanted_kind wanted e (expression_kind means e) k.kind k.kinded.known).0 (right_empty (expression_faults means e) (kind_faults means (Some wanted) e) h) in
      (k.expression, subst (Kinded e k.expression) (sym same) k.kinded)

  operand_unbroken : (e : WrittenExpression) (wanted : Kind) → Unbroken e wanted → operand_faults means (Some wanted) e ≡ []
  operand_unbroken e wanted u = both_empty (expression_faults means e) (kind_faults means (Some wanted) e) u.none ((wanted_kind wanted e (expression_kind means e) wanted u.known).1 refl)

  -- both operands of an operator that asks for this kind, or for none
  record BothKept (asked : Option Kind) (a b : WrittenExpression) : Type 0 where
    left : Expression
    right : Expression
    is_left : numbering.expression d a ≡ Some left
    is_right : numbering.expression d b ≡ Some right
    fit : FitOperands asked (HasKind variables left) (HasKind variables right)

  both_kept : (asked : Option Kind) (a b : WrittenExpression) → (expression_faults means a ≡ [] → Kept a) → (expression_faults means b ≡ [] → Kept b)
      → operand_faults means asked a ++ operand_faults means (known_or asked (expression_kind means a)) b ≡ [] → BothKept asked a b
  both_kept (Some wanted) a b keep_a keep_b h =
      let (x, p) = operand_kept a keep_a wanted (left_empty (operand_faults means (Some wanted) a) (operand_faults means (Some wanted) b) h) in
      let (y, q) = operand_kept b keep_b wanted (right_empty (operand_faults means (Some wanted) a) (operand_faults means (Some wanted) b) h) in
      record { left = x; right = y; is_left = p.is; is_right = q.is; fit = (p.has, q.has) }
  both_kept None a b keep_a keep_b h =
      let k = keep_a (left_empty (expression_faults means a) (kind_faults means None a) (left_empty (operand_faults means None a) (operand_faults means (expression_kind means a) b) h)) in
      let h' : operand_faults means (Some k.kind) b ≡ [] = rw k.kinded.known at (right_empty (operand_faults means None a) (operand_faults means (expression_kind means a) b) h) in
      let (y, q) = operand_kept b keep_b k.kind h' in
      record { left = k.expression; right = y; is_left = k.kinded.is; is_right = q.is; fit = (k.kind, k.kinded.has, q.has) }

  both_unbroken : (asked : Option Kind) (a b : WrittenExpression) (x y : Expression) → ((kind : Kind) → HasKind variables x kind → Unbroken a kind) → ((kind : Kind) → HasKind variables y kind → Unbroken b kind)
      → FitOperands asked (HasKind variables x) (HasKind variables y) → operand_faults means asked a ++ operand_faults means (known_or asked (expression_kind means a)) b ≡ []
  both_unbroken (Some wanted) a b x y un_a un_b (p, q) =
      both_empty (operand_faults means (Some wanted) a) (operand_faults means (Some wanted) b) (operand_unbroken a wanted (un_a wanted p)) (operand_unbroken b wanted (un_b wanted q))
  both_unbroken None a b x y un_a un_b (kind, p, q) =
      let u = un_a kind p in
      both_empty (operand_faults means None a) (operand_faults means (expression_kind means a) b)
      (both_empty (expression_faults means a) [] u.none refl)
      (rw u.known (operand_unbroken b kind (un_b kind q)))

  -- ---- every form

  pub expression_kept : (e : WrittenExpression) → expression_faults means e ≡ [] → Kept e
  expression_kept (written.Number at n) h =
      let (z, is, _) = (valued n).kept h in
      record { expression = graph.Number z; kind = kinds.Range; kinded = record { is = ap (option_map graph.Number) is; known = refl; has = refl } }
  expression_kept (written.Truth at b) h = record { expression = graph.Truth b; kind = kinds.Truth; kinded = record { is = refl; known = refl; has = refl } }
  expression_kept (written.Clock at) h = record { expression = graph.Clock; kind = kinds.Range; kinded = record { is = refl; known = refl; has = refl } }
  expression_kept (written.Scalar at n) h =
      let (v, kind, is, shape, known) = variable_kept means d variables tables vertices agree false n h in
      record { expression = graph.Scalar v; kind = kind; kinded = record { is = rw is refl; known = known; has = shape } }
  expression_kept (written.Cell at n i) h =
      let (v, kind, is, shape, known) = variable_kept means d variables tables vertices agree true n (left_empty (use_faults means AsArray n) (operand_faults means (Some kinds.Range) i) h) in
      let (y, k) = operand_kept i (expression_kept i) kinds.Range (right_empty (use_faults means AsArray n) (operand_faults means (Some kinds.Range) i) h) in
      record { expression = graph.Cell v y; kind = kind; kinded = record { is = rw (is, k.is) refl; known = known; has = (shape, k.has) } }
  expression_kept (written.Negative at a) h =
      let (y, k) = operand_kept a (expression_kept a) kinds.Range h in
      record { expression = graph.Negative y; kind = kinds.Range; kinded = record { is = rw k.is refl; known = refl; has = (refl, k.has) } }
  expression_kept (written.Not at a) h =
      let (y, k) = operand_kept a (expression_kept a) kinds.Truth h in
      record { expression = graph.Not y; kind = kinds.Truth; kinded = record { is = rw k.is refl; known = refl; has = (refl, k.has) } }
  expression_kept (written.Binary at op a b) h =
      let k = both_kept (operand_kind op) a b (expression_kept a) (expression_kept b) h in
      record { expression = graph.Binary op k.left k.right; kind = result_kind op; kinded = record { is = rw (k.is_left, k.is_right) refl; known = refl; has = (refl, k.fit) } }
  expression_kept (written.If at c a b) h =
      let front = left_empty (operand_faults means (Some kinds.Truth) c ++ expression_faults means a) (operand_faults means (expression_kind means a) b) h in
      let (x, k) = operand_kept c (expression_kept c) kinds.Truth (left_empty (operand_faults means (Some kinds.Truth) c) (expression_faults means a) front) in
      let l = expression_kept a (right_empty (operand_faults means (Some kinds.Truth) c) (expression_faults means a) front) in
      let h' : operand_faults means (Some l.kind) b ≡ [] = rw l.kinded.known at (right_empty (operand_faults means (Some kinds.Truth) c ++ expression_faults means a) (operand_faults means (expression_kind means a) b) h) in
      let (y, m) = operand_kept b (expression_kept b) l.kind h' in
      record { expression = graph.If x l.expression y; kind = l.kind; kinded = record { is = rw (k.is, l.kinded.is, m.is) refl; known = ap (λ o. known_or o (expression_kind means b)) l.kinded.known; has = (k.has, l.kinded.has, m.has) } }

  pub expression_unbroken : (e : WrittenExpression) (y : Expression) (kind : Kind) → numbering.expression d e ≡ Some y → HasKind variables y kind → Unbroken e kind
  expression_unbroken (written.Number at n) y kind is has =
      let p = of_one graph.Number n.value y is in
      let q = subst (λ z. HasKind variables z kind) (sym p.made) has in
      record { none = (valued n).unbroken p.a p.is_a tt; known = ap Some (sym q) }
  expression_unbroken (written.Truth at b) y kind is has = record { none = refl; known = ap Some (sym (subst (λ z. HasKind variables z kind) (sym (same_Some (graph.Truth b) y is)) has)) }
  expression_unbroken (written.Clock at) y kind is has = record { none = refl; known = ap Some (sym (subst (λ z. HasKind variables z kind) (sym (same_Some graph.Clock y is)) has)) }
  expression_unbroken (written.Scalar at n) y kind is has =
      let p = of_one graph.Scalar (declared_place n.name d.variables) y is in
      let (none, known) = variable_unbroken means d variables tables vertices agree false n p.a kind p.is_a (subst (λ z. HasKind variables z kind) (sym p.made) has) in
      record { none = none; known = known }
  expression_unbroken (written.Cell at n i) y kind is has =
      let p = of_two graph.Cell (declared_place n.name d.variables) (numbering.expression d i) y is in
      let q = subst (λ z. HasKind variables z kind) (sym p.made) has in
      let (none, known) = variable_unbroken means d variables tables vertices agree true n p.a kind p.is_a q.0 in
      record { none = both_empty (use_faults means AsArray n) (operand_faults means (Some kinds.Range) i) none (operand_unbroken i kinds.Range (expression_unbroken i p.b kinds.Range p.is_b q.1)); known = known }
  expression_unbroken (written.Negative at a) y kind is has =
      let p = of_one graph.Negative (numbering.expression d a) y is in
      let q = subst (λ z. HasKind variables z kind) (sym p.made) has in
      record { none = operand_unbroken a kinds.Range (expression_unbroken a p.a kinds.Range p.is_a q.1); known = ap Some (sym q.0) }
  expression_unbroken (written.Not at a) y kind is has =
      let p = of_one graph.Not (numbering.expression d a) y is in
      let q = subst (λ z. HasKind variables z kind) (sym p.made) has in
      record { none = operand_unbroken a kinds.Truth (expression_unbroken a p.a kinds.Truth p.is_a q.1); known = ap Some (sym q.0) }
  expression_unbroken (written.Binary at op a b) y kind is has =
      let p = of_two (graph.Binary op) (numbering.expression d a) (numbering.expression d b) y is in
      let q = subst (λ z. HasKind variables z kind) (sym p.made) has in
      record {
        none = both_unbroken (operand_kind op) a b p.a p.b (λ k. expression_unbroken a p.a k p.is_a) (λ k. expression_unbroken b p.b k p.is_b) q.1;
        known = ap Some (sym q.0);
      }
  expression_unbroken (written.If at c a b) y kind is has =
      let p = of_three graph.If (numbering.expression d c) (numbering.expression d a) (numbering.expression d b) y is in
      let q = subst (λ z. HasKind variables z kind) (sym p.made) has in
      let u = expression_unbroken a p.b kind p.is_b q.1 in
      record {
        none = both_empty (operand_faults means (Some kinds.Truth) c ++ expression_faults means a) (operand_faults means (expression_kind means a) b)
            (both_empty (operand_faults means (Some kinds.Truth) c) (expression_faults means a) (operand_unbroken c kinds.Truth (expression_unbroken c p.a kinds.Truth p.is_a q.0)) u.none)
            (rw u.known (operand_unbroken b kind (expression_unbroken b p.c kind p.is_c q.2)));
        known = ap (λ o. known_or o (expression_kind means b)) u.known;
      }

  -- ---- operands and values

  -- an expression of a kind that is wanted
  pub operand_twin : (wanted : Kind) (e : WrittenExpression) → Twin (operand_faults means (Some wanted) e) (numbering.expression d e) (λ y. HasKind variables y wanted)
  operand_twin wanted e = record {
    kept = λ h. let (y, k) = operand_kept e (expression_kept e) wanted h in (y, k.is, k.has);
    unbroken = λ y is has. operand_unbroken e wanted (expression_unbroken e y wanted is has);
  }

  -- as many values as there are kinds, each of its kind
  pub values_twin : (kinds : List Kind) (es : List WrittenExpression) → length kinds ≡ length es → Twin (values_faults means (map Some kinds) es) (each_numbered (numbering.expression d) es) (λ ys. AllZip (HasKind variables) ys kinds)
  values_twin [] [] h = record { kept = λ e. ([], refl, tt); unbroken = λ y s q. refl }
  values_twin [] (e ∷ es) h = cc
  values_twin (k ∷ ks) [] h = cc
  values_twin (k ∷ ks) (e ∷ es) h =
      twin_two (λ y ys. y ∷ ys) (operand_faults means (Some k) e) (values_faults means (map Some ks) es) (numbering.expression d e) (each_numbered (numbering.expression d) es) _ _ _
      (λ y ys p q. (p, q)) (λ y ys r. r) (operand_twin k e) (values_twin ks es (suc_same h))
    where
      suc_same : {m n : ℕ} → suc m ≡ suc n → m ≡ n
      suc_same p = omega arith
