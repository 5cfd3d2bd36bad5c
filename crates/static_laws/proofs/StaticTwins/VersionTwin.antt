-- The rules that depend on the version of a text: none of them is broken exactly where the version fits the model that is numbered and its arrays have few cells together.
use Rattle.std.proofs.Common.{◌≡◌, ◌↔◌, ℕ, ◌+◌, ◌*◌, ◌≤◌, ℤ, pos, negsuc, Bool, true, false, cond, not, ◌||◌, inl, inr, List, [], ◌∷◌, ◌++◌, map, length, Option, Some, None, nat_le, nat_lt, lit≤, refl, sym, ap, subst, ◌∙◌, true≢false, arith}
use Rattle.std.specs.Prelude.{sum_by}
use Rattle.std.specs.List.{flat_map, list_any, AllByRecursion}
use Rattle.std.specs.Option.{option_map_or}
use Rattle.std.proofs.lemmas.Int.{ints}
use Rattle.std.proofs.lemmas.List.Sums.{sum_by-cons}
use Rattle.std.proofs.lemmas.Bool.Decides.{nat_tests}
use Rattle.std.proofs.lemmas.Option.{same_Some}
use Rattle.sig_base.specs.declared.limits.TheConstants.{ARRAY_CELLS_MAX, ARRAY_CELLS_MAX_VERSION_1, CELLS_MAX, PARAMETERS_MAX_VERSION_1, TARGETS_MAX_VERSION_1}
use Rattle.model_core.specs.declared.static_kind.StaticKind.TheVariants as rules
use Rattle.model_core.specs.EventGraph as graph
use Rattle.model_core.specs.EventGraph.{EventGraph, EventVertex, EventEdge, Delay, EdgeKind, delay_given, StateChange, Variable, WeightTable, Watched, is_drawn, has_drawn_delay}
use Rattle.model_core.specs.Text.Written as written
use Rattle.model_core.specs.Text.Written.{WrittenName, WrittenNumber, WrittenVariable, WrittenTarget, WrittenChange, WrittenDelay, WrittenEdgeKind, WrittenEdge, WrittenVertex, WrittenModel}
use Rattle.model_core.specs.Text.Numbering as numbering
use Rattle.model_core.specs.Text.Numbering.{◌>>=◌, each_numbered, written_or, declared_place, Declared, declared_by, natural_of, natural, numbered}
use Rattle.model_core.specs.Text.VersionNeeded.{is_large_array, has_many_targets, has_later_parts, needs_version_two}
use Rattle.model_core.specs.Static.FaultOrder.{StaticFault, fault_where}
use Rattle.model_core.specs.Static.RuleTable.{is_between, certain_value, size_outside, too_many}
use Rattle.model_core.specs.Static.PartFaults.{if_written, written_items}
use Rattle.model_core.specs.Static.VersionFaults.{is_version_two, number_faults, size_faults_version_1, target_faults_version_1, delay_faults_version_1, vertex_faults_version_1, faults_version_1, counted_cells, cells_faults, version_faults}
use Rattle.model_core.specs.Static.OwnRules.{KeepsVariable, KeepsParts}
use Rattle.model_core.specs.Static.WrittenByKind.{IsNoZero, IsWrittenByKind, VariablesByKind}
use Rattle.model_core.proofs.EachOne.{either_false}
use Rattle.model_core.proofs.EmptyLists.{left_empty, right_empty}
use Rattle.static_laws.specs.FitsVersion.{FitsVersion}
use Rattle.static_laws.proofs.LeftOut.{each_numbered-items}
use Rattle.static_laws.proofs.StaticTwins.MadeOf.{of_one, of_two, of_three, of_four, of_each}
use Rattle.static_laws.proofs.StaticTwins.Twins.{both_empty, Twin}
use Rattle.static_laws.proofs.StaticTwins.RowTwins.{is_not, not_above, fault_where-none, natural_between}
use Rattle.static_laws.proofs.StaticTwins.DeclarationTwins.{few_items, some_cells, natural_is}
use Rattle.static_laws.proofs.StaticTwins.DeclaredNames.{variable_size}
use Rattle.static_laws.proofs.StaticTwins.VertexTwins.{numbered_parameters, edge_made, vertex_made}

-- ---- what version 1 allows

-- two lists of faults that decide two tests
both_fit : (fs gs : List StaticFault) (a b : Bool) → (fs ≡ [] ↔ a ≡ false) → (gs ≡ [] ↔ b ≡ false) → fs ++ gs ≡ [] ↔ (a || b) ≡ false
both_fit fs gs a b p q = (λ e. neither (p.0 (left_empty fs gs e)) (q.0 (right_empty fs gs e)), λ e. let n = either_false a b e in both_empty fs gs (p.1 n.0) (q.1 n.1))
  where
    neither : a ≡ false → b ≡ false → (a || b) ≡ false
    neither h k = rw (h, k) refl

-- no fault where a test is failed
none_fits : (fs : List StaticFault) (b : Bool) → fs ≡ [] → b ≡ false → fs ≡ [] ↔ b ≡ false
none_fits fs b e h = (λ n. h, λ n. e)

-- parts that break no rule where nothing that they are numbered as passes a test
each_fits : {A B : Type 0} (faults : A → List StaticFault) (f : A → Option B) (C : A → Type 0) (passes : B → Bool) → ((x : A) (y : B) → C x → f x ≡ Some y → (faults x ≡ [] ↔ passes y ≡ false))
    → (xs : List A) (ys : List B) → AllByRecursion C xs → each_numbered f xs ≡ Some ys → flat_map faults xs ≡ [] ↔ list_any passes ys ≡ false
each_fits faults f C passes iff [] ys h e = none_fits [] (list_any passes ys) refl (ap (list_any passes) (sym (same_Some [] ys e)))
each_fits faults f C passes iff (x ∷ xs) ys h e =
    let p = of_each f x xs ys e in
    subst (λ zs. flat_map faults (x ∷ xs) ≡ [] ↔ list_any passes zs ≡ false) p.made
    (both_fit (faults x) (flat_map faults xs) (passes p.a) (list_any passes p.b) (iff x p.a h.0 p.is_a) (each_fits faults f C passes iff xs p.b h.1 p.is_b))

nothing_asked : {A : Type 0} (xs : List A) → AllByRecursion (λ x. Unit {0}) xs
nothing_asked [] = tt
nothing_asked (x ∷ xs) = (tt, nothing_asked xs)

-- a size that is written has at least one cell, so only the limit is left of its rule
size_inside : (limit k : ℕ) → 1 ≤ k → not (is_between (pos 1) (pos limit) (pos k)) ≡ false ↔ nat_lt limit k ≡ false
size_inside limit k h = (λ e. (not_above limit k).1 (within ((is_not (is_between (pos 1) (pos limit) (pos k))).0 e)), λ e. (is_not (is_between (pos 1) (pos limit) (pos k))).1 (inside ((not_above limit k).0 e)))
  where
    within : is_between (pos 1) (pos limit) (pos k) ≡ true → k ≤ limit
    within e = grind (arith, ints)

    inside : k ≤ limit → is_between (pos 1) (pos limit) (pos k) ≡ true
    inside e = grind (arith, ints)

size_fits : (s : Option WrittenNumber) (k : ℕ) → IsNoZero s → numbering.size s ≡ Some k → if_written (size_outside ARRAY_CELLS_MAX_VERSION_1) s ≡ [] ↔ nat_lt ARRAY_CELLS_MAX_VERSION_1 k ≡ false
size_fits None k h e = none_fits [] (nat_lt ARRAY_CELLS_MAX_VERSION_1 k) refl (ap (nat_lt ARRAY_CELLS_MAX_VERSION_1) (sym (same_Some 0 k e)))
size_fits (Some n) k h e = fault_where-none (not (is_between (pos 1) (pos ARRAY_CELLS_MAX_VERSION_1) (certain_value n))) rules.SizeOutside n.at (rw (natural_is n k e) (size_inside ARRAY_CELLS_MAX_VERSION_1 k (some_cells k n.value e h)))

variable_fits : (v : WrittenVariable) (y : Variable) → IsWrittenByKind v → numbering.variable v ≡ Some y → size_faults_version_1 v ≡ [] ↔ is_large_array y ≡ false
variable_fits v y k e = size_fits v.size y.size k.size (variable_size v y e)

few_fit : {A B : Type 0} (limit : ℕ) (place : A → ℕ) (f : A → Option B) (xs : List A) (ys : List B) → each_numbered f xs ≡ Some ys → too_many limit (map place xs) ≡ [] ↔ nat_lt limit (length ys) ≡ false
few_fit limit place f xs ys e =
    let t = few_items limit place f xs ys e in
    let u = not_above limit (length ys) in
    (λ h. u.1 (t.0 h), λ h. t.1 (u.0 h))

module _ (d : Declared) where
  change_fits : (c : WrittenChange) (y : StateChange) → numbering.change d c ≡ Some y → target_faults_version_1 c ≡ [] ↔ has_many_targets y ≡ false
  change_fits (written.Set at targets values) y e =
      let p = of_two graph.Set (each_numbered (numbering.location d) targets) (each_numbered (numbering.expression d) values) y e in
      subst (λ z. too_many TARGETS_MAX_VERSION_1 (map (λ (t : WrittenTarget). t.at) targets) ≡ [] ↔ has_many_targets z ≡ false) p.made (few_fit TARGETS_MAX_VERSION_1 (λ (t : WrittenTarget). t.at) (numbering.location d) targets p.a p.is_a)
  change_fits (written.Draw at target stream c) y e =
      let p = of_three graph.Draw (numbering.location d target) (natural stream) (numbering.choice d c) y e in
      none_fits [] (has_many_targets y) refl (ap has_many_targets (sym p.made))

  after_fits : (after : Option WrittenDelay) (priority : Option WrittenNumber) (y : Delay) → written_or (numbering.delay d) (graph.Fixed (graph.Number (pos 0))) after ≡ Some y → delay_faults_version_1 (written.Schedule after priority) ≡ [] ↔ is_drawn y ≡ false
  after_fits None priority y s = none_fits [] (is_drawn y) refl (ap is_drawn (sym (same_Some (graph.Fixed (graph.Number (pos 0))) y s)))
  after_fits (Some (written.Fixed e)) priority y s = let p = of_one graph.Fixed (numbering.expression d e) y s in none_fits [] (is_drawn y) refl (ap is_drawn (sym p.made))
  after_fits (Some (written.Drawn at stream c)) priority y s =
      let p = of_two graph.Drawn (natural stream) (numbering.choice d c) y s in
      subst (λ z. delay_faults_version_1 (written.Schedule (Some (written.Drawn at stream c)) priority) ≡ [] ↔ is_drawn z ≡ false) p.made (fault_where-none true rules.VersionNeeded at (λ e. e, λ e. e))

  abbrev draws : EdgeKind → Bool
  draws kind = option_map_or is_drawn (delay_given kind) false

  kind_fits : (k : WrittenEdgeKind) (y : EdgeKind) → numbering.edge_kind d k ≡ Some y → delay_faults_version_1 k ≡ [] ↔ draws y ≡ false
  kind_fits (written.Schedule after priority) y s =
      let p = of_two graph.Schedule (written_or (numbering.delay d) (graph.Fixed (graph.Number (pos 0))) after) (written_or natural 5 priority) y s in
      subst (λ z. delay_faults_version_1 (written.Schedule after priority) ≡ [] ↔ draws z ≡ false) p.made (after_fits after priority p.a p.is_a)
  kind_fits written.Urgent y s = none_fits [] (draws y) refl (ap draws (sym (same_Some graph.Urgent y s)))
  kind_fits written.CancelNext y s = none_fits [] (draws y) refl (ap draws (sym (same_Some graph.CancelNext y s)))
  kind_fits written.CancelEqual y s = none_fits [] (draws y) refl (ap draws (sym (same_Some graph.CancelEqual y s)))
  kind_fits written.CancelAll y s = none_fits [] (draws y) refl (ap draws (sym (same_Some graph.CancelAll y s)))

  edge_fits : (e : WrittenEdge) (y : EventEdge) → numbering.edge d e ≡ Some y → delay_faults_version_1 e.kind ≡ [] ↔ has_drawn_delay y ≡ false
  edge_fits e y s =
      let p = of_four edge_made (declared_place e.target.name d.vertices) (written_or (each_numbered (numbering.expression d)) [] e.values) (written_or (numbering.expression d) (graph.Truth true) e.condition) (numbering.edge_kind d e.kind) y s in
      subst (λ z. delay_faults_version_1 e.kind ≡ [] ↔ has_drawn_delay z ≡ false) p.made (kind_fits e.kind p.d p.is_d)

  abbrev drawn_faults : WrittenEdge → List StaticFault
  drawn_faults e = delay_faults_version_1 e.kind

  vertex_fits : (v : WrittenVertex) (y : EventVertex) → numbering.vertex d v ≡ Some y → vertex_faults_version_1 v ≡ [] ↔ has_later_parts y ≡ false
  vertex_fits v y e =
      let p = of_three (vertex_made v.name.name) (numbered_parameters d v) (each_numbered (numbering.change d) v.changes) (each_numbered (numbering.edge d) v.edges) y e in
      subst (λ z. vertex_faults_version_1 v ≡ [] ↔ has_later_parts z ≡ false) p.made
      (both_fit (too_many PARAMETERS_MAX_VERSION_1 (map (λ (n : WrittenName). n.at) (written_items v.parameters)) ++ flat_map target_faults_version_1 v.changes) (flat_map drawn_faults v.edges) (nat_lt PARAMETERS_MAX_VERSION_1 (length p.a) || list_any has_many_targets p.b) (list_any has_drawn_delay p.c)
      (both_fit (too_many PARAMETERS_MAX_VERSION_1 (map (λ (n : WrittenName). n.at) (written_items v.parameters))) (flat_map target_faults_version_1 v.changes) (nat_lt PARAMETERS_MAX_VERSION_1 (length p.a)) (list_any has_many_targets p.b)
      (few_fit PARAMETERS_MAX_VERSION_1 (λ (n : WrittenName). n.at) (numbering.numbered_parameter d) (written_items v.parameters) p.a (each_numbered-items (numbering.numbered_parameter d) v.parameters ∙ p.is_a))
      (each_fits target_faults_version_1 (numbering.change d) (λ c. Unit {0}) has_many_targets (λ c z k s. change_fits c z s) v.changes p.b (nothing_asked v.changes) p.is_b))
      (each_fits drawn_faults (numbering.edge d) (λ w. Unit {0}) has_drawn_delay (λ w z k s. edge_fits w z s) v.edges p.c (nothing_asked v.edges) p.is_c))

-- ---- the cells of all arrays together

abbrev cells : List Variable → ℕ
cells ys = sum_by (λ (y : Variable). y.size) ys

cells-cons : (y : Variable) (ys : List Variable) → cells (y ∷ ys) ≡ y.size + cells ys
cells-cons y ys = sum_by-cons (λ (v : Variable). v.size) y ys

cells_are : (v : WrittenVariable) (y : Variable) → numbering.variable v ≡ Some y → y.size ≤ ARRAY_CELLS_MAX → counted_cells v ≡ y.size
cells_are v y e h = ap (λ size. option_map_or (λ n. cond (nat_le n ARRAY_CELLS_MAX) n 0) size 0) (variable_size v y e) ∙ counted y.size ARRAY_CELLS_MAX h
  where
    counted : (k limit : ℕ) → k ≤ limit → cond (nat_le k limit) k 0 ≡ k
    counted k limit h = let few : nat_le k limit ≡ true = grind (arith, nat_tests) in rw few refl

-- the cells of these arrays after so many others
cells_few : (vs : List WrittenVariable) (ys : List Variable) (before : ℕ) → before ≤ CELLS_MAX → each_numbered numbering.variable vs ≡ Some ys → AllByRecursion KeepsVariable ys → cells_faults before vs ≡ [] ↔ before + cells ys ≤ CELLS_MAX
cells_few [] ys before h e k = (λ n. subst (λ zs. before + cells zs ≤ CELLS_MAX) (same_Some [] ys e) (omega (arith, h)), λ n. refl)
cells_few (v ∷ vs) ys before h e k =
    let p = of_each numbering.variable v vs ys e in
    let q = subst (AllByRecursion KeepsVariable) (sym p.made) k in
    subst (λ zs. cells_faults before (v ∷ vs) ≡ [] ↔ before + cells zs ≤ CELLS_MAX) p.made
    (by_test p.a p.b (cells_are v p.a p.is_a q.0.size) (λ n l. cells_few vs p.b n l p.is_b q.1) (nat_lt CELLS_MAX (before + counted_cells v)) refl)
  where
    by_test : (y : Variable) (zs : List Variable) → counted_cells v ≡ y.size → ((n : ℕ) → n ≤ CELLS_MAX → (cells_faults n vs ≡ [] ↔ n + cells zs ≤ CELLS_MAX)) → (b : Bool) → nat_lt CELLS_MAX (before + counted_cells v) ≡ b
        → cond b (fault_where true rules.TooMany v.at) (cells_faults (before + counted_cells v) vs) ≡ [] ↔ before + cells (y ∷ zs) ≤ CELLS_MAX
    by_test y zs same later true t = (λ n. cc, λ n. absurd (beyond (before + counted_cells v) (within n) t))
      where
        within : before + cells (y ∷ zs) ≤ CELLS_MAX → before + counted_cells v ≤ CELLS_MAX
        within n = omega (arith, same, cells-cons y zs, n)

        beyond : (k : ℕ) → k ≤ CELLS_MAX → nat_lt CELLS_MAX k ≡ true → ⊥
        beyond k l t = absurd (true≢false (sym t ∙ (not_above CELLS_MAX k).1 l))
    by_test y zs same later false t =
        let r = later (before + counted_cells v) ((not_above CELLS_MAX (before + counted_cells v)).0 t) in
        (λ n. omega (arith, same, cells-cons y zs, r.0 n), λ n. r.1 (whole n))
      where
        whole : before + cells (y ∷ zs) ≤ CELLS_MAX → before + counted_cells v + cells zs ≤ CELLS_MAX
        whole n = omega (arith, same, cells-cons y zs, n)

-- arrays of few cells each, where there are few of them
small_arrays : (limit : ℕ) (ys : List Variable) → list_any (λ (y : Variable). nat_lt limit y.size) ys ≡ false → cells ys ≤ length ys * limit
small_arrays limit [] e = omega arith
small_arrays limit (y ∷ ys) e = let n = either_false (nat_lt limit y.size) (list_any (λ (z : Variable). nat_lt limit z.size) ys) e in rw cells-cons (omega (arith, (not_above limit y.size).0 n.0, small_arrays limit ys n.1))

-- ---- the number of a version

-- a version that is known is 1 or 2
number_twin : (n : WrittenNumber) → Twin (number_faults n) (natural n) (λ k. (1 ≤ k) × (k ≤ 2))
number_twin n = natural_between 1 2 n.value rules.LiteralTooLarge rules.VersionUnknown n.at

value_is : (value : Option ℤ) (k : ℕ) → (value >>= natural_of) ≡ Some k → value ≡ Some (pos k)
value_is None k e = cc
value_is (Some (negsuc j)) k e = cc
value_is (Some (pos j)) k e = ap (λ i. Some (pos i)) (same_Some j k e)

-- the version that is written, with what is broken in a text of version 1, and in one of version 2
module _ (g : EventGraph) (first second : List StaticFault) (Few : Type 0) (in_first : first ≡ [] ↔ needs_version_two g ≡ false) (in_second : second ≡ [] ↔ Few) (few_in_first : needs_version_two g ≡ false → Few) where
  by_number : (n : WrittenNumber) → number_faults n ++ cond (is_version_two (Some n)) second first ≡ [] ↔ FitsVersion (Some n) g × Few
  by_number n = (
    λ e.
        let (k, is, within) = (number_twin n).kept (left_empty (number_faults n) (cond (is_version_two (Some n)) second first) e) in
        in_version k is within.0 within.1 (is_version_two (Some n)) refl (right_empty (number_faults n) (cond (is_version_two (Some n)) second first) e),
    λ (fits, few). no_faults fits few,
  )
    where
      two : (k : ℕ) → is_between (pos 2) (pos 2) (pos k) ≡ true → k ≡ 2
      two k t = grind (arith, ints)

      not_two : (k : ℕ) → is_between (pos 2) (pos 2) (pos k) ≡ false → 1 ≤ k → k ≤ 2 → k ≡ 1
      not_two k t a b = grind (arith, ints)

      in_version : (k : ℕ) → natural n ≡ Some k → 1 ≤ k → k ≤ 2 → (b : Bool) → is_version_two (Some n) ≡ b → cond b second first ≡ [] → FitsVersion (Some n) g × Few
      in_version k is lo hi true t e =
          let same : k ≡ 2 = two k (ap (is_between (pos 2) (pos 2)) (sym (natural_is n k is)) ∙ t) in
          (inr (value_is n.value k is ∙ ap (λ i. Some (pos i)) same), in_second.0 e)
      in_version k is lo hi false t e =
          let same : k ≡ 1 = not_two k (ap (is_between (pos 2) (pos 2)) (sym (natural_is n k is)) ∙ t) lo hi in
          (inl (value_is n.value k is ∙ ap (λ i. Some (pos i)) same, in_first.0 e), few_in_first (in_first.0 e))

      no_faults : FitsVersion (Some n) g → Few → number_faults n ++ cond (is_version_two (Some n)) second first ≡ []
      no_faults (inl (first_one, small)) few = both_empty (number_faults n) (cond (is_version_two (Some n)) second first) ((number_twin n).unbroken 1 (rw first_one refl) (lit≤ tt, lit≤ tt)) (rw first_one (in_first.1 small))
      no_faults (inr second_one) few = both_empty (number_faults n) (cond (is_version_two (Some n)) second first) ((number_twin n).unbroken 2 (rw second_one refl) (lit≤ tt, lit≤ tt)) (rw second_one (in_second.1 few))

  by_version : (version : Option WrittenNumber) → if_written number_faults version ++ cond (is_version_two version) second first ≡ [] ↔ FitsVersion version g × Few
  by_version None = (λ e. (in_first.0 e, few_in_first (in_first.0 e)), λ p. in_first.1 p.0)
  by_version (Some n) = by_number n

-- ---- the whole

module _ (m : WrittenModel) (g : EventGraph) (is : numbered m ≡ Some g) (keeps : KeepsParts g) (by_kind : VariablesByKind m) where
  abbrev model_of : List Variable → List WeightTable → List Watched → List EventVertex → EventGraph
  model_of variables tables watch vertices = record { name = m.name.name; variables = variables; tables = tables; watch = watch; vertices = vertices }

  record DeclaredNumbered : Type 0 where
    variables : each_numbered numbering.variable m.variables ≡ Some g.variables
    vertices : each_numbered (numbering.vertex (declared_by m)) m.vertices ≡ Some g.vertices

  declared_numbered : DeclaredNumbered
  declared_numbered =
      let p = of_four model_of (each_numbered numbering.variable m.variables) (each_numbered numbering.table m.tables) (written_or (each_numbered (numbering.watched (declared_by m))) [] m.watch) (each_numbered (numbering.vertex (declared_by m)) m.vertices) g is in
      record { variables = p.is_a ∙ ap (λ (x : EventGraph). Some x.variables) p.made; vertices = p.is_d ∙ ap (λ (x : EventGraph). Some x.vertices) p.made }

  within_version_1 : faults_version_1 m ≡ [] ↔ needs_version_two g ≡ false
  within_version_1 =
      both_fit (flat_map size_faults_version_1 m.variables) (flat_map vertex_faults_version_1 m.vertices) (list_any is_large_array g.variables) (list_any has_later_parts g.vertices)
      (each_fits size_faults_version_1 numbering.variable IsWrittenByKind is_large_array variable_fits m.variables g.variables by_kind declared_numbered.variables)
      (each_fits vertex_faults_version_1 (numbering.vertex (declared_by m)) (λ v. Unit {0}) has_later_parts (λ v y k s. vertex_fits (declared_by m) v y s) m.vertices g.vertices (nothing_asked m.vertices) declared_numbered.vertices)

  few_together : cells_faults 0 m.variables ≡ [] ↔ cells g.variables ≤ CELLS_MAX
  few_together = let t = cells_few m.variables g.variables 0 (lit≤ tt) declared_numbered.variables keeps.variables in (λ n. omega (arith, t.0 n), λ n. t.1 (omega arith))

  few_of_version_1 : needs_version_two g ≡ false → cells g.variables ≤ CELLS_MAX
  few_of_version_1 e = omega (arith, small_arrays ARRAY_CELLS_MAX_VERSION_1 g.variables (either_false (list_any is_large_array g.variables) (list_any has_later_parts g.vertices) e).0, keeps.few_variables)

  pub version_twin : version_faults m ≡ [] ↔ FitsVersion m.version g × (sum_by (λ (v : Variable). v.size) g.variables ≤ CELLS_MAX)
  version_twin = by_version g (faults_version_1 m) (cells_faults 0 m.variables) (cells g.variables ≤ CELLS_MAX) within_version_1 few_together few_of_version_1 m.version
