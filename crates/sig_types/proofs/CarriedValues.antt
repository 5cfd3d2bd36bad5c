-- Values beside the kinds that they must have.
use Rattle.std.proofs.Common.{◌≡◌, ℕ, ◌+◌, ◌<◌, List, [], ◌∷◌, ◌++◌, length, get_or, take, map, Option, None, sym, ap, ◌∙◌, append_assoc, arith}
use Rattle.std.proofs.lemmas.List.{length-map, length-take}
use Rattle.sig_base.proofs.Lists.{seen_more}
use Rattle.model_core.specs.declared.model.Kind.{Kind}
use Rattle.model_core.specs.EventGraph as graph
use Rattle.model_core.specs.Text.Written.{WrittenExpression}
use Rattle.model_core.specs.Text.Numbering.{each_numbered, expression}
use Rattle.model_core.specs.Static.FaultOrder.{StaticFault}
use Rattle.model_core.specs.Static.Meanings.{Meaning}
use Rattle.model_core.specs.Static.PartFaults.{expression_faults, operand_faults, values_faults}
use Rattle.static_laws.specs.Checked.{CheckedPart}
use Rattle.static_laws.specs.Wanted.{wanted}
use Rattle.static_laws.proofs.Checks.{both, made}
use Rattle.std.proofs.lemmas.List.{append-nil}
use Rattle.static_laws.proofs.ListChecks.{one_numbered_more}

module _ (means : List ℕ → Option Meaning) where
  -- where no kind is wanted, no kind differs
  any_kind : (e : WrittenExpression) → operand_faults means None e ≡ expression_faults means e
  any_kind e = append-nil (expression_faults means e)

  values_faults-push : (ks : List (Option Kind)) (es : List WrittenExpression) (e : WrittenExpression)
      → values_faults means ks (es ++ e ∷ []) ≡ values_faults means ks es ++ operand_faults means (wanted ks (length es)) e
  values_faults-push [] [] e = append-nil (expression_faults means e) ∙ sym (any_kind e)
  values_faults-push (k ∷ ks) [] e = append-nil (operand_faults means k e)
  values_faults-push [] (f ∷ es) e =
      ap (λ fs. expression_faults means f ++ fs) (values_faults-push [] es e) ∙ sym (append_assoc (expression_faults means f) (values_faults means [] es) (operand_faults means None e))
  values_faults-push (k ∷ ks) (f ∷ es) e =
      ap (λ fs. operand_faults means k f ++ fs) (values_faults-push ks es e) ∙ sym (append_assoc (operand_faults means k f) (values_faults means ks es) (operand_faults means (wanted ks (length es)) e))

  -- a turn of a loop that checks values
  pub value_turn : {X : Type 0} (w : X → WrittenExpression) (t0 t1 t2 : Option StaticFault) (ks : List (Option Kind)) (raws : List X) (i : ℕ) (k : Option Kind) (x : X) (ys after : List graph.Expression) (y : graph.Expression)
      → i < length raws → x ≡ get_or raws i x → k ≡ wanted ks i → after ≡ ys ++ y ∷ []
      → CheckedPart means t0 t1 (values_faults means ks (map w (take i raws))) (λ d. each_numbered (expression d) (map w (take i raws))) ys
      → CheckedPart means t1 t2 (operand_faults means k (w x)) (λ d. expression d (w x)) y
      → CheckedPart means t0 t2 (values_faults means ks (map w (take (i + 1) raws))) (λ d. each_numbered (expression d) (map w (take (i + 1) raws))) after
  value_turn w t0 t1 t2 ks raws i k x ys after y lt is kind put c d =
      let es = map w (take i raws) in
      let long : length es ≡ i = simp (length-map, length-take) (omega arith) in
      let d2 : CheckedPart means t1 t2 (operand_faults means (wanted ks (length es)) (w x)) (λ g. expression g (w x)) y = rw (long, ← kind) d in
      rw (seen_more w raws i x lt is, values_faults-push ks es (w x))
      (rw put (made (λ h d p. one_numbered_more (expression d) es (w x) ys y (h.0 d p) (h.1 d p)) (both c d2)))
