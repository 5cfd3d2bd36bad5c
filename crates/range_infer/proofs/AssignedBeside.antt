-- What variables take of the values beside them, one after the other.
use Rattle.std.proofs.Common.{◌≡◌, ℕ, zero, suc, ◌+◌, ◌<◌, ◌≤◌, Bool, true, false, cond, List, [], ◌∷◌, ◌++◌, append_assoc, append-nil, length, map, drop, slice_index_or, refl, sym, ◌∙◌, ap, ap₂, arith}
use Rattle.std.specs.List.{list_any}
use Rattle.std.proofs.Math.Seq.{drop-cons}
use Rattle.std.proofs.lemmas.List.{drop_all, length-map}
use Rattle.model_core.specs.declared.vertex.Target.{Target}
use Rattle.model_core.specs.EventGraph.{Variable, Expression, Location}
use Rattle.model_core.specs.declared.incoming.Incoming.{Incoming}
use Rattle.model_core.specs.declared.bounds.Bounds.{Bounds}
use Rattle.model_core.specs.declared.expr.Expr.{Expr}
use Rattle.model_core.specs.Code.Views.{expression_of, location_of}
use Rattle.model_core.specs.Rules.BoundsOf.{bounds_under}
use Rattle.model_core.specs.Rules.Uses.{variables_in}
use Rattle.model_core.specs.Ranges.Refined.{refined}
use Rattle.model_core.proofs.EachOne.{either_false}
use Rattle.range_infer.specs.Inner.PartReads.{each_reads}
use Rattle.range_infer.specs.Inner.LookedAt.{looks_at, looks_at_value, assigned_seen}

module _ (all : Bool) (moved : List Bool) (rs : List Variable) where
  abbrev seen : List ℕ → List Expression → List Incoming
  seen = assigned_seen all moved rs

  abbrev one : ℕ → Expression → List Incoming
  one v e = cond (looks_at all moved (variables_in e)) (record { variable = v; bounds = bounds_under refined rs e } ∷ []) []

  none_seen : (vs : List ℕ) → seen vs [] ≡ []
  none_seen [] = refl
  none_seen (v ∷ vs) = refl

  -- where no value is looked at nothing is seen
  pub nothing_seen : (vs : List ℕ) (es : List Expression) → list_any (looks_at_value all moved) (each_reads es) ≡ false → seen vs es ≡ []
  nothing_seen [] es none = refl
  nothing_seen (v ∷ vs) [] none = refl
  nothing_seen (v ∷ vs) (e ∷ es) none =
      let (here, later) = either_false (looks_at all moved (variables_in e)) (list_any (looks_at_value all moved) (each_reads es)) none in
      ap₂ (λ (b : Bool) (is : List Incoming). cond b (record { variable = v; bounds = bounds_under refined rs e } ∷ []) [] ++ is) here (nothing_seen vs es later)

  -- the first variable, and then the others
  split : (v : ℕ) (vs : List ℕ) (es : List Expression) (p : ℕ) → seen (v ∷ vs) (drop p es) ≡ seen (v ∷ []) (drop p es) ++ seen vs (drop (suc p) es)
  split v vs [] zero = sym (none_seen vs)
  split v vs [] (suc p) = sym (none_seen vs)
  split v vs (e ∷ es) zero = ap (λ (is : List Incoming). is ++ seen vs es) (sym (append-nil (one v e)))
  split v vs (e ∷ es) (suc p) = split v vs es p

  pub one_seen : (ns : List ℕ) (es : List Expression) (p v : ℕ) (before new whole : List Incoming) → p < length ns → slice_index_or ns p 0 ≡ v → new ≡ before ++ seen (v ∷ []) (drop p es) → before ++ seen (drop p ns) (drop p es) ≡ whole → new ++ seen (drop (p + 1) ns) (drop (p + 1) es) ≡ whole
  one_seen ns es p v before new whole small is added so =
      let next : p + 1 ≡ suc p = omega arith in
      let first : drop p ns ≡ v ∷ drop (suc p) ns = drop-cons ns p 0 small ∙ ap (λ (w : ℕ). w ∷ drop (suc p) ns) is in
      ap (λ (k : ℕ). new ++ seen (drop k ns) (drop k es)) next ∙
      (ap (λ (xs : List Incoming). xs ++ seen (drop (suc p) ns) (drop (suc p) es)) added ∙
      (append_assoc before (seen (v ∷ []) (drop p es)) (seen (drop (suc p) ns) (drop (suc p) es)) ∙
      (ap (λ (xs : List Incoming). before ++ xs) (sym (split v (drop (suc p) ns) es p) ∙ ap (λ (vs : List ℕ). seen vs (drop p es)) (sym first)) ∙ so)))

  -- at the end of the variables
  pub all_given : (ns : List ℕ) (es : List Expression) (p : ℕ) (out whole : List Incoming) → length ns ≤ p → out ++ seen (drop p ns) (drop p es) ≡ whole → out ≡ whole
  all_given ns es p out whole past so = sym (append-nil out) ∙ (ap (λ (vs : List ℕ). out ++ seen vs (drop p es)) (sym (drop_all p ns past)) ∙ so)

  -- the value at a place
  there : (v : ℕ) (values : List Expr) (p : ℕ) (x : Expr) → p < length values → x ≡ slice_index_or values p x → seen (v ∷ []) (drop p (map expression_of values)) ≡ one v (expression_of x)
  there v [] p x small is = absurd (omega arith)
  there v (y ∷ values) zero x small is = append-nil (one v (expression_of y)) ∙ ap (λ (y : Expr). one v (expression_of y)) (sym is)
  there v (y ∷ values) (suc p) x small is = there v values p x (omega arith) is

  -- it is looked at, is passed over, or is missing
  pub value_seen : (v : ℕ) (values : List Expr) (p : ℕ) (x : Expr) (vars : List ℕ) (b : Bounds) (before new : List Incoming) → p < length values → x ≡ slice_index_or values p x → vars ≡ variables_in (expression_of x) → looks_at all moved vars ≡ true → b ≡ bounds_under refined rs (expression_of x) → new ≡ before ++ record { variable = v; bounds = b } ∷ [] → new ≡ before ++ seen (v ∷ []) (drop p (map expression_of values))
  value_seen v values p x vars b before new small is read looked found added =
      added ∙ ap (λ (is : List Incoming). before ++ is)
      (ap (λ (b : Bounds). record { variable = v; bounds = b } ∷ []) found
      ∙ sym (there v values p x small is ∙ ap (λ (t : Bool). cond t (record { variable = v; bounds = bounds_under refined rs (expression_of x) } ∷ []) []) (ap (looks_at all moved) (sym read) ∙ looked)))

  pub value_passed : (v : ℕ) (values : List Expr) (p : ℕ) (x : Expr) (vars : List ℕ) (before : List Incoming) → p < length values → x ≡ slice_index_or values p x → vars ≡ variables_in (expression_of x) → looks_at all moved vars ≡ false → before ≡ before ++ seen (v ∷ []) (drop p (map expression_of values))
  value_passed v values p x vars before small is read passed =
      sym (append-nil before) ∙ ap (λ (is : List Incoming). before ++ is)
      (sym (there v values p x small is ∙ ap (λ (t : Bool). cond t (record { variable = v; bounds = bounds_under refined rs (expression_of x) } ∷ []) []) (ap (looks_at all moved) (sym read) ∙ passed)))

  pub no_value : (v : ℕ) (values : List Expr) (p : ℕ) (before : List Incoming) → length values ≤ p → before ≡ before ++ seen (v ∷ []) (drop p (map expression_of values))
  no_value v values p before past = sym (append-nil before) ∙ ap (λ (es : List Expression). before ++ seen (v ∷ []) es) (sym (drop_all p (map expression_of values) (omega (arith, past, length-map values expression_of))))

-- ---- targets

-- the variable of the target at a place
pub target_at : (targets : List Target) (p : ℕ) (t : Target) → p < length targets → t ≡ slice_index_or targets p t → slice_index_or (map (λ (l : Location). l.variable) (map location_of targets)) p 0 ≡ t.var
target_at [] p t small is = absurd (omega arith)
target_at (x ∷ targets) zero t small is = ap (λ (t : Target). t.var) (sym is)
target_at (x ∷ targets) (suc p) t small is = target_at targets p t (omega arith) is

pub many_targets : (targets : List Target) → length (map (λ (l : Location). l.variable) (map location_of targets)) ≡ length targets
many_targets [] = refl
many_targets (t ∷ targets) = ap suc (many_targets targets)
