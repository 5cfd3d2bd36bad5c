-- Vertices with their parameters and edges: nothing of one is broken exactly where what it is numbered as keeps the rules.
use Rattle.std.proofs.Common.{◌≡◌, ◌↔◌, ℕ, zero, suc, ◌≤◌, ◌<◌, pos, true, false, List, [], ◌∷◌, ◌++◌, map, length, Option, Some, None, nat_eq, lit≤, refl, sym, ap, subst, ◌∙◌, arith}
use Rattle.std.specs.Prelude.{slice_get}
use Rattle.std.specs.List.{flat_map, AllByRecursion, AllZip, IsDistinct}
use Rattle.std.proofs.lemmas.Option.{same_Some}
use Rattle.std.proofs.lemmas.List.{length-map}
use Rattle.sig_base.specs.declared.limits.TheConstants.{PARAMETERS_MAX, CHANGES_MAX, EDGES_MAX}
use Rattle.model_core.specs.declared.model.Kind.{Kind}
use Rattle.model_core.specs.declared.model.Kind.TheVariants as kinds
use Rattle.model_core.specs.EventGraph as graph
use Rattle.model_core.specs.EventGraph.{Variable, Expression, EdgeKind, EventEdge, EventVertex}
use Rattle.model_core.specs.Text.Lexing.{same_bytes}
use Rattle.model_core.specs.Text.Written as written
use Rattle.model_core.specs.Text.Written.{WrittenName, WrittenExpression, WrittenDelay, WrittenEdgeKind, WrittenEdge, WrittenVertex}
use Rattle.model_core.specs.Text.Numbering as numbering
use Rattle.model_core.specs.Text.Numbering.{each_numbered, written_or, declared_place, Declared, natural}
use Rattle.model_core.specs.Static.FaultOrder.{StaticFault}
use Rattle.model_core.specs.Static.Meanings.{Meaning, MeansVertex, AsScalar, AsVertex}
use Rattle.model_core.specs.Static.RuleTable.{name_too_long, value_count, too_many}
use Rattle.model_core.specs.Static.PartFaults.{if_written, written_items, repeated_names, change_place, use_faults, operand_faults, values_faults, count_faults, priority_faults, change_faults, parameter_kind, kinds_taken, target_takes, carried_faults, delay_faults, schedule_faults, edge_faults, parameters_faults, vertex_faults}
use Rattle.model_core.specs.Static.HasKind.{IsVariable, HasKind}
use Rattle.model_core.specs.Static.OwnRules.{CarriedFitKinds, CarriesValues, KeepsDelay, KeepsTiming, KeepsEdge, KeepsVertex, KeepsChange}
use Rattle.model_core.proofs.EmptyLists.{left_empty, right_empty}
use Rattle.static_laws.proofs.StaticTwins.MadeOf.{of_two, of_three, of_four, of_each, each_length}
use Rattle.static_laws.proofs.StaticTwins.Zips.{zip_length}
use Rattle.static_laws.proofs.StaticTwins.Twins.{both_empty, Twin, twin_map, twin_two, twin_each, twin_or}
use Rattle.static_laws.proofs.StaticTwins.RowTwins.{short_name, same_count, priority_twin}
use Rattle.static_laws.proofs.StaticTwins.DeclarationTwins.{few_items}
use Rattle.static_laws.proofs.StaticTwins.NamesAgree.{NamesAgree, one_shape, variable_kept, variable_unbroken, vertex_kept, vertex_unbroken}
use Rattle.static_laws.proofs.StaticTwins.RepeatedNames.{names_of, distinct_names, distinct_along, distinct_back}
use Rattle.static_laws.proofs.StaticTwins.NumberedPlaces.{same_place, each_zip}
use Rattle.static_laws.proofs.StaticTwins.ExpressionTwins.{operand_twin, values_twin}
use Rattle.static_laws.proofs.StaticTwins.ChangeTwins.{source_twin, change_twin}

-- the parameters of a vertex, as they are numbered
abbrev pub numbered_parameters : Declared → WrittenVertex → Option (List ℕ)
numbered_parameters d v = written_or (each_numbered (numbering.numbered_parameter d)) [] v.parameters

-- the edge that is made of these
abbrev pub edge_made : ℕ → List Expression → Expression → EdgeKind → EventEdge
edge_made target values condition kind = record { target = target; values = values; condition = condition; kind = kind }

-- the vertex that is made of these
abbrev pub vertex_made : List ℕ → List ℕ → List graph.StateChange → List EventEdge → EventVertex
vertex_made name parameters changes edges = record { name = name; parameters = parameters; changes = changes; edges = edges }

module _ (means : List ℕ → Option Meaning) (d : Declared) (variables : List Variable) (tables vertices : ℕ) (agree : NamesAgree means d variables tables vertices) where
  -- ---- parameters

  parameter_twin : (n : WrittenName) → Twin (use_faults means AsScalar n) (numbering.numbered_parameter d n) (λ v. (kind : Kind) × IsVariable variables v false kind)
  parameter_twin n = record {
    kept = λ e. let (v, kind, is, shape, known) = variable_kept means d variables tables vertices agree false n e in (v, is, (kind, shape));
    unbroken = λ v s q. (variable_unbroken means d variables tables vertices agree false n v q.0 s q.1).0;
  }

  -- names of a list and the places of their declarations
  names_zip : (ns : List WrittenName) (vs : List ℕ) → AllZip (λ n v. numbering.numbered_parameter d n ≡ Some v) ns vs → AllZip (λ a v. declared_place a d.variables ≡ Some v) (names_of ns) vs
  names_zip [] [] z = tt
  names_zip [] (v ∷ vs) z = absurd z
  names_zip (n ∷ ns) [] z = absurd z
  names_zip (n ∷ ns) (v ∷ vs) z = (z.0, names_zip ns vs z.1)

  once : (ns : List WrittenName) (vs : List ℕ) → each_numbered (numbering.numbered_parameter d) ns ≡ Some vs → repeated_names [] ns ≡ [] ↔ IsDistinct nat_eq vs
  once ns vs e =
      let z = names_zip ns vs (each_zip (numbering.numbered_parameter d) ns vs e) in (
        λ h. distinct_along _ same_bytes nat_eq (λ a b j k p q. same_place d.variables a b j k p q) (names_of ns) vs z ((distinct_names ns).0 h),
        λ h. (distinct_names ns).1 (distinct_back _ same_bytes nat_eq (λ a b j k p q. same_place d.variables a b j k p q) (names_of ns) vs z h),
      )

  abbrev pub KeepsParameters : List ℕ → Type 0
  KeepsParameters vs = ((length vs ≤ PARAMETERS_MAX) × AllByRecursion (λ v. (kind : Kind) × IsVariable variables v false kind) vs) × IsDistinct nat_eq vs

  items_twin : (ns : List WrittenName) → Twin (too_many PARAMETERS_MAX (map (λ (n : WrittenName). n.at) ns) ++ flat_map (use_faults means AsScalar) ns ++ repeated_names [] ns) (each_numbered (numbering.numbered_parameter d) ns) KeepsParameters
  items_twin ns = record {
    kept = λ e.
        let (vs, s, q) = each.kept (right_empty (too_many PARAMETERS_MAX (map (λ (n : WrittenName). n.at) ns)) (flat_map (use_faults means AsScalar) ns) (left_empty _ (repeated_names [] ns) e)) in
        (vs, s, (((few_items PARAMETERS_MAX (λ (n : WrittenName). n.at) (numbering.numbered_parameter d) ns vs s).0 (left_empty (too_many PARAMETERS_MAX (map (λ (n : WrittenName). n.at) ns)) (flat_map (use_faults means AsScalar) ns) (left_empty _ (repeated_names [] ns) e)), q), (once ns vs s).0 (right_empty _ (repeated_names [] ns) e)));
    unbroken = λ vs s q.
        both_empty (too_many PARAMETERS_MAX (map (λ (n : WrittenName). n.at) ns) ++ flat_map (use_faults means AsScalar) ns) (repeated_names [] ns)
        (both_empty (too_many PARAMETERS_MAX (map (λ (n : WrittenName). n.at) ns)) (flat_map (use_faults means AsScalar) ns) ((few_items PARAMETERS_MAX (λ (n : WrittenName). n.at) (numbering.numbered_parameter d) ns vs s).1 q.0.0) (each.unbroken vs s q.0.1))
        ((once ns vs s).1 q.1);
  }
    where
      each : Twin (flat_map (use_faults means AsScalar) ns) (each_numbered (numbering.numbered_parameter d) ns) (AllByRecursion (λ v. (kind : Kind) × IsVariable variables v false kind))
      each = twin_each (use_faults means AsScalar) (numbering.numbered_parameter d) _ parameter_twin ns

  abbrev all_parameters_faults : List WrittenName → List StaticFault
  all_parameters_faults ns = too_many PARAMETERS_MAX (map (λ (n : WrittenName). n.at) ns) ++ flat_map (use_faults means AsScalar) ns ++ repeated_names [] ns

  pub parameters_twin : (o : Option (List WrittenName)) → Twin (all_parameters_faults (written_items o)) (written_or (each_numbered (numbering.numbered_parameter d)) [] o) KeepsParameters
  parameters_twin None = items_twin []
  parameters_twin (Some ns) = items_twin ns

  -- ---- the kinds that a vertex takes

  -- kinds of parameters are one for each, and known
  record KindsKnown (ns : List WrittenName) (vs : List ℕ) : Type 0 where
    kinds : List Kind
    known : map (parameter_kind means) ns ≡ map Some kinds
    are : AllZip (λ v kind. IsVariable variables v false kind) vs kinds

  kinds_known : (ns : List WrittenName) (vs : List ℕ) → each_numbered (numbering.numbered_parameter d) ns ≡ Some vs → AllByRecursion (λ v. (kind : Kind) × IsVariable variables v false kind) vs → KindsKnown ns vs
  kinds_known [] vs s h = none vs (same_Some [] vs s)
    where
      none : (vs : List ℕ) → [] ≡ vs → KindsKnown [] vs
      none [] e = record { kinds = []; known = refl; are = tt }
      none (v ∷ vs) e = cc
  kinds_known (n ∷ ns) vs s h =
      let p = of_each (numbering.numbered_parameter d) n ns vs s in
      let q = subst (AllByRecursion (λ v. (kind : Kind) × IsVariable variables v false kind)) (sym p.made) h in
      let u = variable_unbroken means d variables tables vertices agree false n p.a q.0.0 p.is_a q.0.1 in
      let l = kinds_known ns p.b p.is_b q.1 in
      subst (KindsKnown (n ∷ ns)) p.made (record { kinds = q.0.0 ∷ l.kinds; known = rw (u.1, l.known) refl; are = (q.0.1, l.are) })

  -- what the vertex at a place takes is known, with the kinds of its parameters
  pub record TakesKnown (taken : List (List (Option Kind))) (takes : List (List ℕ)) (k : ℕ) : Type 0 where
    pub kinds : List Kind
    pub parameters : List ℕ
    pub known : slice_get taken k ≡ Some (map Some kinds)
    pub there : slice_get takes k ≡ Some parameters
    pub are : AllZip (λ v kind. IsVariable variables v false kind) parameters kinds

  one_takes : (o : Option (List WrittenName)) (vs : List ℕ) → written_or (each_numbered (numbering.numbered_parameter d)) [] o ≡ Some vs → AllByRecursion (λ v. (kind : Kind) × IsVariable variables v false kind) vs → KindsKnown (written_items o) vs
  one_takes None vs s h = kinds_known [] vs s h
  one_takes (Some ns) vs s h = kinds_known ns vs s h

  pub takes_known : (vs : List WrittenVertex) (takes : List (List ℕ)) → each_numbered (numbered_parameters d) vs ≡ Some takes → AllByRecursion (AllByRecursion (λ v. (kind : Kind) × IsVariable variables v false kind)) takes → (k : ℕ) → k < length vs → TakesKnown (map (kinds_taken means) vs) takes k
  takes_known [] takes s h k lt = absurd (omega arith)
  takes_known (v ∷ vs) takes s h k lt =
      let p = of_each (numbered_parameters d) v vs takes s in
      let q = subst (AllByRecursion (AllByRecursion (λ v. (kind : Kind) × IsVariable variables v false kind))) (sym p.made) h in
      subst (λ ts. TakesKnown (map (kinds_taken means) (v ∷ vs)) ts k) p.made (at_place k lt p.a p.b (one_takes v.parameters p.a p.is_a q.0) (takes_known vs p.b p.is_b q.1))
    where
      at_place : (k : ℕ) → k < length (v ∷ vs) → (first : List ℕ) (rest : List (List ℕ)) → KindsKnown (written_items v.parameters) first → ((j : ℕ) → j < length vs → TakesKnown (map (kinds_taken means) vs) rest j) → TakesKnown (map (kinds_taken means) (v ∷ vs)) (first ∷ rest) k
      at_place zero lt first rest here later = record { kinds = here.kinds; parameters = first; known = ap Some here.known; there = refl; are = here.are }
      at_place (suc j) lt first rest here later = let t = later j (omega arith) in record { kinds = t.kinds; parameters = t.parameters; known = t.known; there = t.there; are = t.are }

  -- parameters are of one kind each
  one_kinds : (vs : List ℕ) (js ks : List Kind) → AllZip (λ v kind. IsVariable variables v false kind) vs js → AllZip (λ v kind. IsVariable variables v false kind) vs ks → js ≡ ks
  one_kinds [] [] [] y z = refl
  one_kinds [] [] (k ∷ ks) y z = absurd z
  one_kinds [] (j ∷ js) ks y z = absurd y
  one_kinds (v ∷ vs) [] ks y z = absurd y
  one_kinds (v ∷ vs) (j ∷ js) [] y z = absurd z
  one_kinds (v ∷ vs) (j ∷ js) (k ∷ ks) y z = rw ((one_shape y.0 z.0).1, one_kinds vs js ks y.1 z.1) refl

  -- ---- edges

  module _ (taken : List (List (Option Kind))) (takes : List (List ℕ)) (known : (k : ℕ) → k < vertices → TakesKnown taken takes k) where
    -- values for parameters of these kinds
    values_of : (ks : List Kind) (o : Option (List WrittenExpression)) → length ks ≡ length (written_items o) → Twin (values_faults means (map Some ks) (written_items o)) (written_or (each_numbered (numbering.expression d)) [] o) (λ ys. AllZip (HasKind variables) ys ks)
    values_of ks None h = values_twin means d variables tables vertices agree ks [] h
    values_of ks (Some es) h = values_twin means d variables tables vertices agree ks es h

    values_length : (o : Option (List WrittenExpression)) (ys : List Expression) → written_or (each_numbered (numbering.expression d)) [] o ≡ Some ys → length ys ≡ length (written_items o)
    values_length None ys s = each_length (numbering.expression d) [] ys s
    values_length (Some es) ys s = each_length (numbering.expression d) es ys s

    module _ (ps : List ℕ) (ks : List Kind) (are : AllZip (λ v kind. IsVariable variables v false kind) ps ks) (o : Option (List WrittenExpression)) (at : ℕ) where
      abbrev given : ℕ
      given = length (written_items o)

      carried_twin : Twin (value_count (length (map Some ks)) given at ++ values_faults means (map Some ks) (written_items o)) (written_or (each_numbered (numbering.expression d)) [] o) (CarriedFitKinds variables tables takes ps)
      carried_twin = record {
        kept = λ e.
            let same = sym (length-map ks (λ k. Some k)) ∙ (same_count (length (map Some ks)) given at).0 (left_empty (value_count (length (map Some ks)) given at) (values_faults means (map Some ks) (written_items o)) e) in
            let (ys, s, z) = (values_of ks o same).kept (right_empty (value_count (length (map Some ks)) given at) (values_faults means (map Some ks) (written_items o)) e) in
            (ys, s, record { kinds = ks; taken = are; given = z });
        unbroken = λ ys s q.
            let z : AllZip (HasKind variables) ys ks = subst (AllZip (HasKind variables) ys) (one_kinds ps q.kinds ks q.taken are) q.given in
            let same : length ks ≡ given = sym (zip_length (HasKind variables) ys ks z) ∙ values_length o ys s in
            both_empty (value_count (length (map Some ks)) given at) (values_faults means (map Some ks) (written_items o))
            ((same_count (length (map Some ks)) given at).1 (length-map ks (λ k. Some k) ∙ same))
            ((values_of ks o same).unbroken ys s z);
      }

      none_twin : Twin (value_count 0 given at ++ values_faults means (map Some ks) (written_items o)) (written_or (each_numbered (numbering.expression d)) [] o) (λ ys. ys ≡ [])
      none_twin = by_values o
        where
          by_values : (o : Option (List WrittenExpression)) → Twin (value_count 0 (length (written_items o)) at ++ values_faults means (map Some ks) (written_items o)) (written_or (each_numbered (numbering.expression d)) [] o) (λ ys. ys ≡ [])
          by_values None = record { kept = λ e. ([], refl, refl); unbroken = λ y s q. refl }
          by_values (Some []) = record { kept = λ e. ([], refl, refl); unbroken = λ y s q. refl }
          by_values (Some (e ∷ es)) = record {
            kept = λ h. let some : 0 ≡ length (e ∷ es) = (same_count 0 (length (e ∷ es)) at).0 (left_empty (value_count 0 (length (e ∷ es)) at) (values_faults means (map Some ks) (e ∷ es)) h) in absurd (omega arith);
            unbroken = λ ys s q. let some : 0 ≡ length (e ∷ es) = ap length (sym q) ∙ each_length (numbering.expression d) (e ∷ es) ys s in absurd (omega arith);
          }

      edge_values : (kind : WrittenEdgeKind) (k : EdgeKind) → numbering.edge_kind d kind ≡ Some k → Twin (count_faults kind (length (map Some ks)) given at ++ values_faults means (map Some ks) (written_items o)) (written_or (each_numbered (numbering.expression d)) [] o) (CarriesValues variables tables takes k ps)
      edge_values (written.Schedule after priority) k s =
          let p = of_two graph.Schedule (written_or (numbering.delay d) (graph.Fixed (graph.Number (pos 0))) after) (written_or natural 5 priority) k s in
          subst (λ j. Twin (value_count (length (map Some ks)) given at ++ values_faults means (map Some ks) (written_items o)) (written_or (each_numbered (numbering.expression d)) [] o) (CarriesValues variables tables takes j ps)) p.made carried_twin
      edge_values written.Urgent k s = subst (λ j. Twin (value_count (length (map Some ks)) given at ++ values_faults means (map Some ks) (written_items o)) (written_or (each_numbered (numbering.expression d)) [] o) (CarriesValues variables tables takes j ps)) (same_Some graph.Urgent k s) carried_twin
      edge_values written.CancelEqual k s = subst (λ j. Twin (value_count (length (map Some ks)) given at ++ values_faults means (map Some ks) (written_items o)) (written_or (each_numbered (numbering.expression d)) [] o) (CarriesValues variables tables takes j ps)) (same_Some graph.CancelEqual k s) carried_twin
      edge_values written.CancelNext k s = subst (λ j. Twin (value_count 0 given at ++ values_faults means (map Some ks) (written_items o)) (written_or (each_numbered (numbering.expression d)) [] o) (CarriesValues variables tables takes j ps)) (same_Some graph.CancelNext k s) none_twin
      edge_values written.CancelAll k s = subst (λ j. Twin (value_count 0 given at ++ values_faults means (map Some ks) (written_items o)) (written_or (each_numbered (numbering.expression d)) [] o) (CarriesValues variables tables takes j ps)) (same_Some graph.CancelAll k s) none_twin

    delay_twin : (w : WrittenDelay) → Twin (delay_faults means taken w) (numbering.delay d w) (KeepsDelay variables tables takes)
    delay_twin (written.Fixed e) = twin_map graph.Fixed (operand_faults means (Some kinds.Range) e) (numbering.expression d e) (λ y. HasKind variables y kinds.Range) (KeepsDelay variables tables takes) (λ y k. k) (λ y k. k) (operand_twin means d variables tables vertices agree kinds.Range e)
    delay_twin (written.Drawn at stream c) = source_twin means d variables tables vertices agree takes graph.Drawn (KeepsDelay variables tables takes) (λ k ch q. q) (λ k ch q. q) stream c

    timing_twin : (kind : WrittenEdgeKind) → Twin (schedule_faults means taken kind) (numbering.edge_kind d kind) (KeepsTiming variables tables takes)
    timing_twin (written.Schedule after priority) =
        twin_two graph.Schedule (if_written (delay_faults means taken) after) (if_written priority_faults priority) (written_or (numbering.delay d) (graph.Fixed (graph.Number (pos 0))) after) (written_or natural 5 priority) _ _ _
        (λ w k p q. (p, q.0, q.1)) (λ w k r. (r.0, (r.1, r.2)))
        (twin_or (delay_faults means taken) (numbering.delay d) (graph.Fixed (graph.Number (pos 0))) (KeepsDelay variables tables takes) refl delay_twin after)
        (twin_or priority_faults natural 5 (λ k. (1 ≤ k) × (k ≤ 255)) (lit≤ tt, lit≤ tt) priority_twin priority)
    timing_twin written.Urgent = record { kept = λ e. (graph.Urgent, refl, tt); unbroken = λ y s q. refl }
    timing_twin written.CancelNext = record { kept = λ e. (graph.CancelNext, refl, tt); unbroken = λ y s q. refl }
    timing_twin written.CancelEqual = record { kept = λ e. (graph.CancelEqual, refl, tt); unbroken = λ y s q. refl }
    timing_twin written.CancelAll = record { kept = λ e. (graph.CancelAll, refl, tt); unbroken = λ y s q. refl }

    condition_twin : (o : Option WrittenExpression) → Twin (if_written (operand_faults means (Some kinds.Truth)) o) (written_or (numbering.expression d) (graph.Truth true) o) (λ y. HasKind variables y kinds.Truth)
    condition_twin o = twin_or (operand_faults means (Some kinds.Truth)) (numbering.expression d) (graph.Truth true) (λ y. HasKind variables y kinds.Truth) refl (operand_twin means d variables tables vertices agree kinds.Truth) o

    edge_twin : (e : WrittenEdge) → Twin (edge_faults means taken e) (numbering.edge d e) (KeepsEdge variables tables takes)
    edge_twin e = record {
      kept = λ h.
          let h3 = left_empty (target ++ carried ++ timing) condition h in
          let h2 = left_empty (target ++ carried) timing h3 in
          let (k, is_k, lt, means_k) = vertex_kept means d variables tables vertices agree e.target (left_empty target carried h2) in
          let t = known k lt in
          let (kind, is_kind, keeps) = (timing_twin e.kind).kept (right_empty (target ++ carried) timing h3) in
          let hv : carried_faults means taken e (Some (map Some t.kinds)) ≡ [] = rw (takes_are k means_k t) at (right_empty target carried h2) in
          let (ys, is_ys, carries) = (edge_values t.parameters t.kinds t.are e.values e.target.at e.kind kind is_kind).kept hv in
          let (c, is_c, truth) = (condition_twin e.condition).kept (right_empty (target ++ carried ++ timing) condition h) in
          (edge_made k ys c kind, rw (is_k, is_ys, is_c, is_kind) refl, record { parameters = t.parameters; target = t.there; carries = carries; timing = keeps; condition = truth });
      unbroken = λ y s q.
          let p = of_four edge_made (declared_place e.target.name d.vertices) (written_or (each_numbered (numbering.expression d)) [] e.values) (written_or (numbering.expression d) (graph.Truth true) e.condition) (numbering.edge_kind d e.kind) y s in
          whole p.a p.b p.c p.d p.is_a p.is_b p.is_c p.is_d (subst (KeepsEdge variables tables takes) (sym p.made) q);
    }
      where
        target : List StaticFault
        target = use_faults means AsVertex e.target

        carried : List StaticFault
        carried = carried_faults means taken e (target_takes means taken (means e.target.name))

        timing : List StaticFault
        timing = schedule_faults means taken e.kind

        condition : List StaticFault
        condition = if_written (operand_faults means (Some kinds.Truth)) e.condition

        takes_are : (k : ℕ) → means e.target.name ≡ Some (MeansVertex k) → (t : TakesKnown taken takes k) → target_takes means taken (means e.target.name) ≡ Some (map Some t.kinds)
        takes_are k m t = ap (target_takes means taken) m ∙ t.known

        whole : (k : ℕ) (ys : List Expression) (c : Expression) (kind : EdgeKind) → declared_place e.target.name d.vertices ≡ Some k → written_or (each_numbered (numbering.expression d)) [] e.values ≡ Some ys → written_or (numbering.expression d) (graph.Truth true) e.condition ≡ Some c → numbering.edge_kind d e.kind ≡ Some kind
            → KeepsEdge variables tables takes (edge_made k ys c kind) → target ++ carried ++ timing ++ condition ≡ []
        whole k ys c kind is_k is_ys is_c is_kind q =
            let (none, means_k) = vertex_unbroken means d variables tables vertices agree e.target k is_k in
            let t = known k (agree.vertex_means e.target.name k means_k).1 in
            let same : q.parameters ≡ t.parameters = same_Some q.parameters t.parameters (sym q.target ∙ t.there) in
            let carries = subst (λ ps. CarriesValues variables tables takes kind ps ys) same q.carries in
            both_empty (target ++ carried ++ timing) condition
            (both_empty (target ++ carried) timing
            (both_empty target carried none (rw (takes_are k means_k t) ((edge_values t.parameters t.kinds t.are e.values e.target.at e.kind kind is_kind).unbroken ys is_ys carries)))
            ((timing_twin e.kind).unbroken kind is_kind q.timing))
            ((condition_twin e.condition).unbroken c is_c q.condition)

    -- ---- vertices

    pub vertex_twin : (v : WrittenVertex) → Twin (vertex_faults means taken v) (numbering.vertex d v) (KeepsVertex variables tables takes)
    vertex_twin v = record {
      kept = λ h.
          let h5 = left_empty (name_too_long v.name ++ params ++ few_changes ++ changes ++ few_edges) edges h in
          let h4 = left_empty (name_too_long v.name ++ params ++ few_changes ++ changes) few_edges h5 in
          let h3 = left_empty (name_too_long v.name ++ params ++ few_changes) changes h4 in
          let h2 = left_empty (name_too_long v.name ++ params) few_changes h3 in
          let (ps, is_ps, kp) = (parameters_twin v.parameters).kept (right_empty (name_too_long v.name) params h2) in
          let (cs, is_cs, kc) = changes_twin.kept (right_empty (name_too_long v.name ++ params ++ few_changes) changes h4) in
          let (es, is_es, ke) = edges_twin.kept (right_empty (name_too_long v.name ++ params ++ few_changes ++ changes ++ few_edges) edges h) in (
            vertex_made v.name.name ps cs es,
            rw (is_ps, is_cs, is_es) refl,
            record {
              name = (short_name v.name).0 (left_empty (name_too_long v.name) params h2);
              parameters = kp.0.1;
              each_once = kp.1;
              few_parameters = kp.0.0;
              changes = kc;
              few_changes = (few_items CHANGES_MAX change_place (numbering.change d) v.changes cs is_cs).0 (right_empty (name_too_long v.name ++ params) few_changes h3);
              edges = ke;
              few_edges = (few_items EDGES_MAX (λ (e : WrittenEdge). e.at) (numbering.edge d) v.edges es is_es).0 (right_empty (name_too_long v.name ++ params ++ few_changes ++ changes) few_edges h5);
            },
          );
      unbroken = λ y s q.
          let p = of_three (vertex_made v.name.name) (numbered_parameters d v) (each_numbered (numbering.change d) v.changes) (each_numbered (numbering.edge d) v.edges) y s in
          whole p.a p.b p.c p.is_a p.is_b p.is_c (subst (KeepsVertex variables tables takes) (sym p.made) q);
    }
      where
        params : List StaticFault
        params = parameters_faults means taken (written_items v.parameters)

        few_changes : List StaticFault
        few_changes = too_many CHANGES_MAX (map change_place v.changes)

        changes : List StaticFault
        changes = flat_map (change_faults means) v.changes

        few_edges : List StaticFault
        few_edges = too_many EDGES_MAX (map (λ (e : WrittenEdge). e.at) v.edges)

        edges : List StaticFault
        edges = flat_map (edge_faults means taken) v.edges

        changes_twin : Twin changes (each_numbered (numbering.change d) v.changes) (AllByRecursion (KeepsChange variables tables takes))
        changes_twin = twin_each (change_faults means) (numbering.change d) (KeepsChange variables tables takes) (change_twin means d variables tables vertices agree takes) v.changes

        edges_twin : Twin edges (each_numbered (numbering.edge d) v.edges) (AllByRecursion (KeepsEdge variables tables takes))
        edges_twin = twin_each (edge_faults means taken) (numbering.edge d) (KeepsEdge variables tables takes) edge_twin v.edges

        whole : (ps : List ℕ) (cs : List graph.StateChange) (es : List EventEdge) → numbered_parameters d v ≡ Some ps → each_numbered (numbering.change d) v.changes ≡ Some cs → each_numbered (numbering.edge d) v.edges ≡ Some es
            → KeepsVertex variables tables takes (vertex_made v.name.name ps cs es) → vertex_faults means taken v ≡ []
        whole ps cs es is_ps is_cs is_es q =
            both_empty (name_too_long v.name ++ params ++ few_changes ++ changes ++ few_edges) edges
            (both_empty (name_too_long v.name ++ params ++ few_changes ++ changes) few_edges
            (both_empty (name_too_long v.name ++ params ++ few_changes) changes
            (both_empty (name_too_long v.name ++ params) few_changes
            (both_empty (name_too_long v.name) params ((short_name v.name).1 q.name) ((parameters_twin v.parameters).unbroken ps is_ps ((q.few_parameters, q.parameters), q.each_once)))
            ((few_items CHANGES_MAX change_place (numbering.change d) v.changes cs is_cs).1 q.few_changes))
            (changes_twin.unbroken cs is_cs q.changes))
            ((few_items EDGES_MAX (λ (e : WrittenEdge). e.at) (numbering.edge d) v.edges es is_es).1 q.few_edges))
            (edges_twin.unbroken es is_es q.edges)
