-- The check of a change from those of its targets, values and draws.
use Rattle.std.proofs.Common.{◌≡◌, ℕ, ℤ, Bool, List, [], ◌∷◌, ◌++◌, length, map, Option, Some, None, is_some, refl, ap, append_assoc}
use Rattle.std.specs.List.{flat_map}
use Rattle.std.specs.Option.{option_map}
use Rattle.sig_base.specs.declared.limits.TheConstants.{TARGETS_MAX}
use Rattle.model_core.specs.declared.model.Kind.{Kind}
use Rattle.model_core.specs.declared.model.Kind.TheVariants as kinds
use Rattle.model_core.specs.EventGraph as graph
use Rattle.model_core.specs.Text.Written as written
use Rattle.model_core.specs.Text.Written.{WrittenNumber, WrittenSigned, WrittenExpression, WrittenTarget, WrittenChoice}
use Rattle.model_core.specs.Text.Numbering as numbering
use Rattle.model_core.specs.Text.Numbering.{each_numbered, written_or, declared_place, expression, location, natural, signed}
use Rattle.model_core.specs.Static.FaultOrder.{StaticFault, earliest_fault}
use Rattle.model_core.specs.Static.Meanings.{Meaning}
use Rattle.model_core.specs.Static.RuleTable.{kind_mismatch, value_count, literal_too_large, empty_range, draw_outside, too_many}
use Rattle.model_core.specs.Static.PartFaults.{if_written, use_faults, operand_faults, values_faults, target_role, target_kind, target_faults, choice_faults, source_faults, change_faults}
use Rattle.static_laws.specs.Checked.{Checked, NumberedAs, CheckedPart, CheckedPlain}
use Rattle.static_laws.specs.Roles.{variable_role}
use Rattle.sig_types.specs.Inner.Stored.{stored_faults}
use Rattle.static_laws.proofs.Checks.{earliest_in_turn, both, made, before, after_faults, two_numbered, three_numbered}
use Rattle.std.proofs.lemmas.List.{append-nil}

role_of_index : (o : Option WrittenExpression) → variable_role (is_some o) ≡ target_role o
role_of_index None = refl
role_of_index (Some e) = refl

pub is_some-map : {A B : Type 0} (f : A → B) (o : Option A) (b : Bool) → b ≡ is_some o → b ≡ is_some (option_map f o)
is_some-map f None b e = e
is_some-map f (Some x) b e = e

module _ (means : List ℕ → Option Meaning) where
  pub target_checked : (t0 t1 t2 : Option StaticFault) (t : WrittenTarget) (b : Bool) (k : ℕ) (x : Option graph.Expression) → b ≡ is_some t.index
      → CheckedPart means t0 t1 (use_faults means (variable_role b) t.name) (λ d. declared_place t.name.name d.variables) k
      → CheckedPart means t1 t2 (if_written (operand_faults means (Some kinds.Range)) t.index) (λ d. written_or (λ i. option_map (λ e. Some e) (expression d i)) None t.index) x
      → CheckedPart means t0 t2 (target_faults means t) (λ d. location d t) (record { variable = k; index = x })
  target_checked t0 t1 t2 t b k x is c i =
      let named : CheckedPart means t0 t1 (use_faults means (target_role t.index) t.name) (λ d. declared_place t.name.name d.variables) k = rw (← role_of_index t.index, ← is) c in
      made (λ h. two_numbered means (λ v e. record { variable = v; index = e }) (λ d. declared_place t.name.name d.variables) (λ d. written_or (λ e. option_map (λ y. Some y) (expression d e)) None t.index) h.0 h.1) (both named i)

  pub stored_checked : (t2 t3 t4 : Option StaticFault) (ts : List WrittenTarget) (es : List WrittenExpression) (xs : List graph.Location) (ys : List graph.Expression) (ks : List (Option Kind))
      → ks ≡ map (target_kind means) ts
      → CheckedPart means t2 t3 (flat_map (target_faults means) ts) (λ d. each_numbered (location d) ts) xs
      → CheckedPart means t3 t4 (values_faults means ks es) (λ d. each_numbered (expression d) es) ys
      → CheckedPart means t2 t4 (stored_faults means ts es) (λ d. numbering.change d (written.Set 0 ts es)) (graph.Set xs ys)
  stored_checked t2 t3 t4 ts es xs ys ks kinds c v =
      let v2 : CheckedPart means t3 t4 (values_faults means (map (target_kind means) ts) es) (λ d. each_numbered (expression d) es) ys = rw (← kinds) v in
      made (λ h. two_numbered means graph.Set (λ d. each_numbered (location d) ts) (λ d. each_numbered (expression d) es) h.0 h.1) (both c v2)

  -- one target is a list of targets
  pub one_stored : (t2 t3 t4 : Option StaticFault) (t : WrittenTarget) (es : List WrittenExpression) (x : graph.Location) (ys : List graph.Expression) (k : Option Kind)
      → k ≡ target_kind means t
      → CheckedPart means t2 t3 (target_faults means t) (λ d. location d t) x
      → CheckedPart means t3 t4 (values_faults means (k ∷ []) es) (λ d. each_numbered (expression d) es) ys
      → CheckedPart means t2 t4 (stored_faults means (t ∷ []) es) (λ d. numbering.change d (written.Set 0 (t ∷ []) es)) (graph.Set (x ∷ []) ys)
  one_stored t2 t3 t4 t es x ys k kind c v =
      let whole : CheckedPart means t2 t3 (flat_map (target_faults means) (t ∷ [])) (λ d. each_numbered (location d) (t ∷ [])) (x ∷ [])
      = rw (append-nil (target_faults means t)) (made (λ h d p. rw (h d p) refl) c) in
      stored_checked t2 t3 t4 (t ∷ []) es (x ∷ []) ys (k ∷ []) (ap (λ j. j ∷ []) kind) whole v

  pub set_checked : (t0 t1 t2 t3 : Option StaticFault) (at : ℕ) (ts : List WrittenTarget) (es : List WrittenExpression) (x : graph.StateChange)
      → t1 ≡ earliest_fault t0 (value_count (length ts) (length es) at) → t2 ≡ earliest_fault t1 (too_many TARGETS_MAX (map (λ (t : WrittenTarget). t.at) ts))
      → CheckedPart means t2 t3 (stored_faults means ts es) (λ d. numbering.change d (written.Set 0 ts es)) x
      → CheckedPart means t0 t3 (change_faults means (written.Set at ts es)) (λ d. numbering.change d (written.Set at ts es)) x
  set_checked t0 t1 t2 t3 at ts es x counted short c =
      let lists = value_count (length ts) (length es) at ++ too_many TARGETS_MAX (map (λ (t : WrittenTarget). t.at) ts) in
      rw (append_assoc lists (flat_map (target_faults means) ts) (values_faults means (map (target_kind means) ts) es))
      (after_faults t0 lists (earliest_in_turn t0 t1 t2 (value_count (length ts) (length es) at) (too_many TARGETS_MAX (map (λ (t : WrittenTarget). t.at) ts)) counted short) c)

  pub draw_checked : (t0 t1 t2 t3 : Option StaticFault) (at : ℕ) (t : WrittenTarget) (s : WrittenNumber) (from : WrittenChoice) (x : graph.Location) (n : ℕ) (y : graph.Choice)
      → CheckedPart means t0 t1 (target_faults means t) (λ d. location d t) x
      → t2 ≡ earliest_fault t1 (kind_mismatch (Some kinds.Range) (target_kind means t) t.name.at)
      → Checked t2 t3 (source_faults means s from) ((natural s ≡ Some n) × NumberedAs means (λ d. numbering.choice d from) y)
      → CheckedPart means t0 t3 (change_faults means (written.Draw at t s from)) (λ d. numbering.change d (written.Draw at t s from)) (graph.Draw x n y)
  draw_checked t0 t1 t2 t3 at t s from x n y c kind source =
      let mismatch = kind_mismatch (Some kinds.Range) (target_kind means t) t.name.at in
      made (λ h. three_numbered means graph.Draw (λ d. location d t) (λ d. natural s) (λ d. numbering.choice d from) h.0 (λ d p. h.1.0) h.1.1)
      (both (before t2 mismatch c kind) source)

  pub uniform_checked : (t0 t1 t2 t3 t4 : Option StaticFault) (lo hi : WrittenSigned) (x y : ℤ)
      → CheckedPlain t0 t1 (literal_too_large lo) (signed lo) x → CheckedPlain t1 t2 (literal_too_large hi) (signed hi) y
      → t3 ≡ earliest_fault t2 (empty_range lo hi) → t4 ≡ earliest_fault t3 (draw_outside lo hi)
      → CheckedPart means t0 t4 (choice_faults means (written.Uniform lo hi)) (λ d. numbering.choice d (written.Uniform lo hi)) (graph.Uniform x y)
  uniform_checked t0 t1 t2 t3 t4 lo hi x y c e empty wide =
      made (λ h. two_numbered means graph.Uniform (λ d. signed lo) (λ d. signed hi) (λ d p. h.0) (λ d p. h.1))
      (before t4 (draw_outside lo hi) (before t3 (empty_range lo hi) (both c e) empty) wide)
