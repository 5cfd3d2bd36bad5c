-- The check of an edge from those of its target, values, delay, priority and condition.
use Rattle.std.proofs.Common.{◌≡◌, ℕ, true, pos, List, [], Option, Some, None, refl, sym, ap, ◌∙◌}
use Rattle.std.specs.Option.{option_map, unwrap_or}
use Rattle.model_core.specs.declared.model.Kind.{Kind}
use Rattle.model_core.specs.declared.model.Kind.TheVariants as kinds
use Rattle.model_core.specs.EventGraph as graph
use Rattle.model_core.specs.Text.Written as written
use Rattle.model_core.specs.Text.Written.{WrittenNumber, WrittenExpression, WrittenChoice, WrittenDelay, WrittenEdge}
use Rattle.model_core.specs.Text.Numbering as numbering
use Rattle.model_core.specs.Text.Numbering.{each_numbered, written_or, declared_place, expression, natural}
use Rattle.model_core.specs.Static.FaultOrder.{StaticFault}
use Rattle.model_core.specs.Static.Meanings.{Meaning, MeansVariable, MeansTable, MeansVertex, AsVertex}
use Rattle.model_core.specs.Static.PartFaults.{if_written, use_faults, operand_faults, priority_faults, target_takes, carried_faults, source_faults, delay_faults, schedule_faults, edge_faults, values_faults, written_items}
use Rattle.static_laws.specs.Checked.{Checked, NumberedAs, CheckedPart, CheckedPlain}
use Rattle.static_laws.specs.Roles.{vertex_meant}
use Rattle.sig_types.specs.Inner.Stored.{taken_by}
use Rattle.static_laws.proofs.LeftOut.{each_numbered-items}
use Rattle.static_laws.proofs.Checks.{both, made, two_numbered, four_numbered}

takes_by_place : (means : List ℕ → Option Meaning) (taken : List (List (Option Kind))) (w : Option Meaning) → target_takes means taken w ≡ taken_by taken (vertex_meant w)
takes_by_place means taken None = refl
takes_by_place means taken (Some (MeansVariable k kind array)) = refl
takes_by_place means taken (Some (MeansTable k)) = refl
takes_by_place means taken (Some (MeansVertex k)) = refl

module _ (means : List ℕ → Option Meaning) (taken : List (List (Option Kind))) where
  pub fixed_checked : (t0 t1 : Option StaticFault) (e : WrittenExpression) (x : graph.Expression)
      → CheckedPart means t0 t1 (operand_faults means (Some kinds.Range) e) (λ d. expression d e) x
      → CheckedPart means t0 t1 (delay_faults means taken (written.Fixed e)) (λ d. numbering.delay d (written.Fixed e)) (graph.Fixed x)
  fixed_checked t0 t1 e x c = made (λ h d p. ap (option_map graph.Fixed) (h d p)) c

  pub drawn_checked : (t0 t1 : Option StaticFault) (at : ℕ) (stream : WrittenNumber) (from : WrittenChoice) (n : ℕ) (y : graph.Choice)
      → Checked t0 t1 (source_faults means stream from) ((natural stream ≡ Some n) × NumberedAs means (λ d. numbering.choice d from) y)
      → CheckedPart means t0 t1 (delay_faults means taken (written.Drawn at stream from)) (λ d. numbering.delay d (written.Drawn at stream from)) (graph.Drawn n y)
  drawn_checked t0 t1 at stream from n y source = made (λ h. two_numbered means graph.Drawn (λ d. natural stream) (λ d. numbering.choice d from) (λ d p. h.0) h.1) source

  pub schedule_checked : (t0 t1 t2 : Option StaticFault) (after : Option WrittenDelay) (priority : Option WrittenNumber) (x : graph.Delay) (n : ℕ)
      → CheckedPart means t0 t1 (if_written (delay_faults means taken) after) (λ d. written_or (numbering.delay d) (graph.Fixed (graph.Number (pos 0))) after) x
      → CheckedPlain t1 t2 (if_written priority_faults priority) (written_or natural 5 priority) n
      → CheckedPart means t0 t2 (schedule_faults means taken (written.Schedule after priority)) (λ d. numbering.edge_kind d (written.Schedule after priority)) (graph.Schedule x n)
  schedule_checked t0 t1 t2 after priority x n c p =
      made (λ h. two_numbered means graph.Schedule (λ d. written_or (numbering.delay d) (graph.Fixed (graph.Number (pos 0))) after) (λ d. written_or natural 5 priority) h.0 (λ d q. h.1)) (both c p)

  -- values that may be left out
  pub values_left_out : (t0 t1 : Option StaticFault) (wanted : List (Option Kind)) (values : Option (List WrittenExpression)) (xs : List graph.Expression)
      → CheckedPart means t0 t1 (values_faults means wanted (written_items values)) (λ d. each_numbered (expression d) (written_items values)) xs
      → CheckedPart means t0 t1 (values_faults means wanted (written_items values)) (λ d. written_or (each_numbered (expression d)) [] values) xs
  values_left_out t0 t1 wanted values xs c = made (λ h d p. sym (each_numbered-items (expression d) values) ∙ h d p) c

  there : (o : Option ℕ) (k : Option ℕ) (n : ℕ) → option_map (λ j. Some j) o ≡ Some k → n ≡ unwrap_or k 0 → o ≡ Some n
  there None k n e h = cc
  there (Some j) k n e h = let is : k ≡ Some j = cc in ap Some (sym (h ∙ ap (λ p. unwrap_or p 0) is))

  pub edge_checked : (t0 t1 t2 t3 t4 : Option StaticFault) (e : WrittenEdge) (k : Option ℕ) (n : ℕ) (xs : List graph.Expression) (f : graph.EdgeKind) (x : graph.Expression)
      → k ≡ vertex_meant (means e.target.name) → n ≡ unwrap_or k 0
      → CheckedPart means t0 t1 (use_faults means AsVertex e.target) (λ d. option_map (λ j. Some j) (declared_place e.target.name d.vertices)) k
      → CheckedPart means t1 t2 (carried_faults means taken e (taken_by taken k)) (λ d. written_or (each_numbered (expression d)) [] e.values) xs
      → CheckedPart means t2 t3 (schedule_faults means taken e.kind) (λ d. numbering.edge_kind d e.kind) f
      → CheckedPart means t3 t4 (if_written (operand_faults means (Some kinds.Truth)) e.condition) (λ d. written_or (expression d) (graph.Truth true) e.condition) x
      → CheckedPart means t0 t4 (edge_faults means taken e) (λ d. numbering.edge d e) (record { target = n; values = xs; condition = x; kind = f })
  edge_checked t0 t1 t2 t3 t4 e k n xs f x is place target values form condition =
      let named : taken_by taken k ≡ target_takes means taken (means e.target.name) = ap (taken_by taken) is ∙ sym (takes_by_place means taken (means e.target.name)) in
      let values2 : CheckedPart means t1 t2 (carried_faults means taken e (target_takes means taken (means e.target.name))) (λ d. written_or (each_numbered (expression d)) [] e.values) xs = rw (← named) values in
      made (λ h. four_numbered means (λ (a : ℕ) (b : List graph.Expression) (c : graph.Expression) (g : graph.EdgeKind). record { target = a; values = b; condition = c; kind = g })
      (λ d. declared_place e.target.name d.vertices) (λ d. written_or (each_numbered (expression d)) [] e.values) (λ d. written_or (expression d) (graph.Truth true) e.condition) (λ d. numbering.edge_kind d e.kind)
      (λ d p. there (declared_place e.target.name d.vertices) k n (h.0.0.0 d p) place) h.0.0.1 h.1 h.0.1)
      (both (both (both target values2) form) condition)
