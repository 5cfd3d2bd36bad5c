-- The check of an expression from those of its operands.
use Rattle.std.proofs.Common.{◌≡◌, ℕ, List, Option, Some, None, refl, subst, append-nil}
use Rattle.model_core.specs.declared.model.Kind.{Kind}
use Rattle.model_core.specs.declared.model.Kind.TheVariants as kinds
use Rattle.model_core.specs.declared.raw.RawForm.{RawForm}
use Rattle.model_core.specs.declared.raw.RawForm.TheVariants as raw
use Rattle.model_core.specs.EventGraph as graph
use Rattle.model_core.specs.Code.WrittenViews.{written_form}
use Rattle.model_core.specs.Text.Written as written
use Rattle.model_core.specs.Text.Written.{WrittenName, WrittenExpression}
use Rattle.model_core.specs.Text.Expressions.{place}
use Rattle.model_core.specs.Text.Numbering.{expression, declared_place}
use Rattle.model_core.specs.Static.FaultOrder.{StaticFault}
use Rattle.model_core.specs.Static.Meanings.{Meaning, AsArray}
use Rattle.model_core.specs.Static.Kinds.{operand_kind, right_operand_kind, expression_kind}
use Rattle.model_core.specs.Static.PartFaults.{use_faults, expression_faults, operand_faults}
use Rattle.static_laws.specs.Checked.{CheckedPart}
use Rattle.static_laws.proofs.Checks.{both, made, two_numbered, three_numbered}

pub place-written : (at : ℕ) (f : RawForm) → place (written_form at f) ≡ at
place-written at (raw.Int n) = refl
place-written at (raw.Truth b) = refl
place-written at raw.Clk = refl
place-written at (raw.Scalar n) = refl
place-written at (raw.Cell' n p k i) = refl
place-written at (raw.Neg' p k a) = refl
place-written at (raw.Not' p k a) = refl
place-written at (raw.Binary' op p k a q l b) = refl
place-written at (raw.If' p j c q k a r l b) = refl

module _ (means : List ℕ → Option Meaning) (at : ℕ) where
  abbrev Whole : Option StaticFault → Option StaticFault → WrittenExpression → graph.Expression → Type 0
  Whole t0 t1 e x = CheckedPart means t0 t1 (expression_faults means e) (λ d. expression d e) x

  abbrev Operand : Option StaticFault → Option StaticFault → Option Kind → WrittenExpression → graph.Expression → Type 0
  Operand t0 t1 wanted e x = CheckedPart means t0 t1 (operand_faults means wanted e) (λ d. expression d e) x

  pub cell : (t0 t1 t2 : Option StaticFault) (n : WrittenName) (i : WrittenExpression) (k : ℕ) (x : graph.Expression)
      → CheckedPart means t0 t1 (use_faults means AsArray n) (λ d. declared_place n.name d.variables) k → Operand t1 t2 (Some kinds.Range) i x
      → Whole t0 t2 (written.Cell at n i) (graph.Cell k x)
  cell t0 t1 t2 n i k x p q = made (λ h. two_numbered means graph.Cell (λ d. declared_place n.name d.variables) (λ d. expression d i) h.0 h.1) (both p q)

  pub negative : (t0 t1 : Option StaticFault) (a : WrittenExpression) (x : graph.Expression) → Operand t0 t1 (Some kinds.Range) a x → Whole t0 t1 (written.Negative at a) (graph.Negative x)
  negative t0 t1 a x p = made (λ h d q. rw (h d q) refl) p

  pub negated : (t0 t1 : Option StaticFault) (a : WrittenExpression) (x : graph.Expression) → Operand t0 t1 (Some kinds.Truth) a x → Whole t0 t1 (written.Not at a) (graph.Not x)
  negated t0 t1 a x p = made (λ h d q. rw (h d q) refl) p

  pub binary : (t0 t1 t2 : Option StaticFault) (op : graph.Operator) (a b : WrittenExpression) (x y : graph.Expression) (w v k : Option Kind)
      → w ≡ operand_kind op → k ≡ expression_kind means a → v ≡ right_operand_kind op k → Operand t0 t1 w a x → Operand t1 t2 v b y
      → Whole t0 t2 (written.Binary at op a b) (graph.Binary op x y)
  binary t0 t1 t2 op a b x y w v k ww kk vv p q =
      let p2 : Operand t0 t1 (operand_kind op) a x = rw (← ww) p in
      let q2 : Operand t1 t2 (right_operand_kind op (expression_kind means a)) b y = rw (← kk, ← vv) q in
      made (λ h. two_numbered means (graph.Binary op) (λ d. expression d a) (λ d. expression d b) h.0 h.1) (both p2 q2)

  -- an operand of any kind
  of_any_kind : (t0 t1 : Option StaticFault) (e : WrittenExpression) (x : graph.Expression) → Operand t0 t1 None e x → Whole t0 t1 e x
  of_any_kind t0 t1 e x p = subst (λ fs. CheckedPart means t0 t1 fs (λ d. expression d e) x) (append-nil (expression_faults means e)) p

  pub choice : (t0 t1 t2 t3 : Option StaticFault) (c a b : WrittenExpression) (x y z : graph.Expression) (k : Option Kind)
      → k ≡ expression_kind means a → Operand t0 t1 (Some kinds.Truth) c x → Operand t1 t2 None a y → Operand t2 t3 k b z
      → Whole t0 t3 (written.If at c a b) (graph.If x y z)
  choice t0 t1 t2 t3 c a b x y z k kk p q r =
      let r2 : Operand t2 t3 (expression_kind means a) b z = rw (← kk) r in
      made (λ h. three_numbered means graph.If (λ d. expression d c) (λ d. expression d a) (λ d. expression d b) h.0.0 h.0.1 h.1) (both (both p (of_any_kind t1 t2 a y q)) r2)
