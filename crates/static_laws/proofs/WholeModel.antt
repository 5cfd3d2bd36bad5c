-- The check of a whole model from those of its parts, and its first fault.
use Rattle.std.proofs.Common.{◌≡◌, List, [], ◌∷◌, ◌++◌, Option, Some, None, refl, sym, ap, ◌∙◌}
use Rattle.std.specs.List.{flat_map}
use Rattle.sig_base.specs.declared.limits.TheConstants.{TEXT_MAX}
use Rattle.model_core.specs.EventGraph as graph
use Rattle.model_core.specs.EventGraph.{EventGraph}
use Rattle.model_core.specs.Text.Canonical.{canonical}
use Rattle.model_core.specs.Text.Written.{WrittenModel}
use Rattle.model_core.specs.Text.Numbering as numbering
use Rattle.model_core.specs.Text.Numbering.{each_numbered, written_or, declared_by, numbered}
use Rattle.model_core.specs.Static.FaultOrder.{StaticFault, earliest_fault}
use Rattle.model_core.specs.Static.RuleTable.{model_too_long}
use Rattle.model_core.specs.Static.PartFaults.{written_items, variable_faults, table_faults, vertex_faults}
use Rattle.model_core.specs.Static.ModelFaults.{model_meaning, model_takes, watch_faults, faults_of_parts, or_too_long, model_faults, first_fault, Accepted}
use Rattle.model_core.specs.Static.VersionFaults.{version_faults}
use Rattle.model_core.proofs.EmptyLists.{left_empty}
use Rattle.static_laws.proofs.NamedPlaces.{placed_as}
use Rattle.static_laws.proofs.EarliestFaults.{earliest_fault-none}
use Rattle.static_laws.proofs.OneFirstFault.{either_order, accepted_or_first_fault}
use Rattle.static_laws.specs.Checked.{Checked, CheckedPart, CheckedPlain}
use Rattle.static_laws.specs.DeclaredFaults.{faults_of_declared}
use Rattle.static_laws.proofs.LeftOut.{each_numbered-items}
use Rattle.static_laws.proofs.Checks.{both, made, after_faults}

module _ (m : WrittenModel) where
  pub model_checked : (t0 t1 t2 t3 t4 t5 : Option StaticFault) (xs : List graph.Variable) (ts : List graph.WeightTable) (ws : List graph.Watched) (vs : List graph.EventVertex)
      → t1 ≡ earliest_fault t0 (faults_of_declared m)
      → CheckedPlain t1 t2 (flat_map variable_faults m.variables) (each_numbered numbering.variable m.variables) xs
      → CheckedPlain t2 t3 (flat_map table_faults m.tables) (each_numbered numbering.table m.tables) ts
      → CheckedPart (model_meaning m) t3 t4 (watch_faults m (written_items m.watch)) (λ d. each_numbered (numbering.watched d) (written_items m.watch)) ws
      → CheckedPart (model_meaning m) t4 t5 (flat_map (vertex_faults (model_meaning m) (model_takes m)) m.vertices) (λ d. each_numbered (numbering.vertex d) m.vertices) vs
      → Checked t0 t5 (faults_of_parts m) (numbered m ≡ Some (record { name = m.name.name; variables = xs; tables = ts; watch = ws; vertices = vs }))
  model_checked t0 t1 t2 t3 t4 t5 xs ts ws vs head variables tables watch vertices =
      made (λ h.
      let d = declared_by m in
      let w : written_or (each_numbered (numbering.watched d)) [] m.watch ≡ Some ws = sym (each_numbered-items (numbering.watched d) m.watch) ∙ h.0.1 d (placed_as m) in
      rw (h.0.0.0, h.0.0.1, w, h.1 d (placed_as m)) refl)
      (both (both (both (after_faults t0 (faults_of_declared m) head variables) tables) watch) vertices)

  -- the fault of the length, where there is no other
  or_too_long-none : (g : EventGraph) → numbered m ≡ Some g → (fs : List StaticFault) → fs ≡ [] → or_too_long m TEXT_MAX fs ≡ model_too_long TEXT_MAX (canonical g) m.end_at
  or_too_long-none g is fs none = ap (or_too_long m TEXT_MAX) none ∙ rw (or_too_long, is) refl

  or_too_long-some : (fs : List StaticFault) (f : StaticFault) → earliest_fault None fs ≡ Some f → or_too_long m TEXT_MAX fs ≡ fs
  or_too_long-some [] f e = cc
  or_too_long-some (x ∷ fs) f e = refl

  -- the faults of the version may come before those of the parts
  pub version_first : {P : Type 0} (t0 t1 : Option StaticFault) → t0 ≡ earliest_fault None (version_faults m) → Checked t0 t1 (faults_of_parts m) P → Checked None t1 (faults_of_parts m ++ version_faults m) P
  version_first t0 t1 e c =
      let b = after_faults None (version_faults m) e c in
      record { earliest = b.earliest ∙ either_order (version_faults m) (faults_of_parts m); unbroken = λ n. c.unbroken (left_empty (faults_of_parts m) (version_faults m) n) }

  -- with the fault of the length where there is no other, the first fault is that of the model
  pub first_fault-in_turn : (g : EventGraph) (t1 t2 : Option StaticFault) → Checked None t1 (faults_of_parts m ++ version_faults m) (numbered m ≡ Some g)
      → (t1 ≡ None → t2 ≡ earliest_fault None (model_too_long TEXT_MAX (canonical g) m.end_at)) → ((f : StaticFault) → t1 ≡ Some f → t2 ≡ t1) → t2 ≡ first_fault m
  first_fault-in_turn g None t2 c none some =
      let nothing = earliest_fault-none (faults_of_parts m ++ version_faults m) (sym c.earliest) in
      none refl ∙ ap (earliest_fault None) (sym (or_too_long-none g (c.unbroken nothing) (faults_of_parts m ++ version_faults m) nothing))
  first_fault-in_turn g (Some f) t2 c none some = some f refl ∙ c.earliest ∙ ap (earliest_fault None) (sym (or_too_long-some (faults_of_parts m ++ version_faults m) f (sym c.earliest)))

  -- the parts of a model without a fault are numbered
  parts_unbroken : (fs : List StaticFault) → or_too_long m TEXT_MAX fs ≡ [] → fs ≡ []
  parts_unbroken [] e = refl
  parts_unbroken (f ∷ fs) e = cc

  pub is_accepted : (g : EventGraph) → (faults_of_parts m ≡ [] → numbered m ≡ Some g) → first_fault m ≡ None → Accepted m g
  is_accepted g numbers none =
      let (h, accepted) = (accepted_or_first_fault m).0 none in
      let is : numbered m ≡ Some g = numbers (left_empty (faults_of_parts m) (version_faults m) (parts_unbroken (faults_of_parts m ++ version_faults m) (earliest_fault-none (model_faults m) none))) in
      record { unbroken = accepted.unbroken; numbers = is }
