-- Where ranges hold what was taken, parts that give the same again may be passed over.
use Rattle.std.proofs.Common.{◌≡◌, ◌⊎◌, inl, inr, ℕ, ◌<◌, ◌==◌, ℤ, nat_le, Bool, true, false, ◌&&◌, cond, ◌≤ℤ◌, List, [], ◌∷◌, ◌++◌, map, length, Option, Some, None, refl, sym, ◌∙◌, ap, ap₂, subst, arith}
use Rattle.std.specs.Prelude.{IfSome}
use Rattle.std.specs.List.{AllByRecursion, fold, flat_map, list_any}
use Rattle.std.proofs.lemmas.Int.{ints, clamps}
use Rattle.std.proofs.lemmas.Bool.Decides.{nat_tests}
use Rattle.std.proofs.lemmas.List.{ext_get_or}
use Rattle.std.proofs.lemmas.List.Sums.{fold-append}
use Rattle.model_core.specs.EventGraph.{EventGraph, EventVertex, EventEdge, StateChange, Set, Draw, Variable, Expression, Location, is_scheduling}
use Rattle.model_core.specs.Run.Step.{vertex_at}
use Rattle.model_core.specs.Rules.Uses.{variables_in}
use Rattle.model_core.specs.Rules.BoundsOf.{bounds_under}
use Rattle.model_core.specs.declared.bounds.Bounds.{Bounds}
use Rattle.model_core.specs.Ranges.Refined.{refined}
use Rattle.model_core.specs.Run.State.{variable_at}
use Rattle.model_core.specs.declared.incoming.Incoming.{Incoming}
use Rattle.model_core.specs.declared.var_range.VarRange.{VarRange}
use Rattle.model_core.specs.Ranges.OtherRanges.{declared_range, with_range, with_ranges, no_range, range_at}
use Rattle.model_core.specs.Ranges.Incoming.{kept_range, assigned, into_change, into_edge, into_vertex, incoming}
use Rattle.model_core.specs.Ranges.Inductive.{is_fixed, Encloses}
use Rattle.model_core.specs.Ranges.Inference.{hull, grown_range, ends_moved, each_variable, next_range, round}
use Rattle.model_core.proofs.EachOne.{every-front, every-after, every-flat_map, every-map, every-fails}
use Rattle.range_infer.specs.Inner.Moved.{is_moved, MarksMoved}
use Rattle.range_infer.specs.Inner.PartReads.{each_reads}
use Rattle.range_infer.specs.Inner.LookedAt.{looks_at, looks_at_value, assigned_seen, change_seen, values_seen, edge_seen, vertex_seen, incoming_seen, part_seen, TakenByReaders, TakesAgain}
use Rattle.range_infer.proofs.PartsSeen.{of_all, all_seen_too}
use Rattle.range_infer.proofs.AllSeen.{all_values}
use Rattle.range_infer.proofs.AssignedBeside.{nothing_seen}
use Rattle.range_infer.proofs.ModelWithRanges.{range_given, as_many_variables}
use Rattle.range_infer.proofs.OneRound.{holds-itself, holds-trans, wider, Growing, all-holds, all-inside, all-taken, all-least, ends_moved-takes, ordered, round-growing, variable_given, variables_given}
use Rattle.range_infer.proofs.NarrowModels.{fits_everywhere}
use Rattle.range_infer.proofs.UnmovedParts.{StayElsewhere, Unmoved, refined_stays, bounds_stay}

hull-stays : (r : VarRange) (o : Option VarRange) → IfSome o (Encloses r) → hull r o ≡ r
hull-stays r None h = refl
hull-stays r (Some k) h = ap₂ (λ (x y : ℤ). record { lo = x; hi = y }) (omega (arith, ints, clamps, h.low)) (omega (arith, ints, clamps, h.high))

-- ---- one variable, whose range held what it took

module _ (g : EventGraph) (v : ℕ) (in_order : (variable_at g v).lo ≤ℤ (variable_at g v).hi) (r : VarRange) where
  abbrev pub IsHeld : Incoming → Type 0
  IsHeld i = i.variable ≡ v → IfSome (kept_range (variable_at g v) i.bounds) (Encloses r)

  abbrev grow : VarRange → List Incoming → VarRange
  grow = fold (grown_range g v)

  one_held : (x : VarRange) → Encloses x r → (i : Incoming) → IsHeld i → grown_range g v x i ≡ x
  one_held x wide i held = by (i.variable == v) refl where
    by : (b : Bool) → (i.variable == v) ≡ b → cond b (hull x (kept_range (variable_at g v) i.bounds)) x ≡ x
    by true e = hull-stays x (kept_range (variable_at g v) i.bounds) (wider (kept_range (variable_at g v) i.bounds) r x wide (held (grind (arith, nat_tests))))
    by false e = refl

  all_held : (x : VarRange) → Encloses x r → (is : List Incoming) → AllByRecursion IsHeld is → grow x is ≡ x
  all_held x wide [] held = refl
  all_held x wide (i ∷ is) held = ap (λ (y : VarRange). grow y is) (one_held x wide i held.0) ∙ all_held x wide is held.1

  -- each range that holds this one grows to the same by both
  abbrev pub GrowAlike : List Incoming → List Incoming → Type 0
  GrowAlike some all = (x : VarRange) → Encloses x r → grow x some ≡ grow x all

  pub part_alike : (again : Bool) (old all : List Incoming) → AllByRecursion IsHeld old → (again ≡ false → old ≡ all) → GrowAlike (cond again all []) all
  part_alike true old all held same = λ x wide. refl
  part_alike false old all held same = λ x wide. sym (all_held x wide all (subst (AllByRecursion IsHeld) (same refl) held))

  pub joined_alike : (some all more others : List Incoming) → GrowAlike some all → GrowAlike more others → GrowAlike (some ++ more) (all ++ others)
  joined_alike some all more others first second = λ x wide.
      fold-append (grown_range g v) x some more ∙
      (ap (λ (y : VarRange). grow y more) (first x wide) ∙
      (second (grow x all) (holds-trans (grow x all) x r (all-holds g v in_order x all) wide) ∙ sym (fold-append (grown_range g v) x all others)))

  pub each_alike : {A : Type 0} (some all : A → List Incoming) (xs : List A) → AllByRecursion (λ x. GrowAlike (some x) (all x)) xs → GrowAlike (flat_map some xs) (flat_map all xs)
  each_alike some all [] alike = λ x wide. refl
  each_alike some all (x ∷ xs) alike = joined_alike (some x) (all x) (flat_map some xs) (flat_map all xs) alike.0 (each_alike some all xs alike.1)

  -- ---- the values beside variables

  module _ (moved : List Bool) where
    assigned_alike : (old new : List Variable) → StayElsewhere moved old new → (vs : List ℕ) (es : List Expression) → AllByRecursion IsHeld (assigned old vs es) → GrowAlike (assigned_seen false moved new vs es) (assigned new vs es)
    assigned_alike old new stay [] es held = λ x wide. refl
    assigned_alike old new stay (v ∷ vs) [] held = λ x wide. refl
    assigned_alike old new stay (v ∷ vs) (e ∷ es) held =
        let one : List Variable → List Incoming = λ ranges. record { variable = v; bounds = bounds_under refined ranges e } ∷ [] in
        joined_alike (cond (looks_at false moved (variables_in e)) (one new) []) (one new) (assigned_seen false moved new vs es) (assigned new vs es)
        (part_alike (looks_at false moved (variables_in e)) (one old) (one new) (held.0, tt)
        (λ none. ap (λ (b : Bounds). record { variable = v; bounds = b } ∷ []) (bounds_stay moved e old new stay (every-fails (is_moved moved) (variables_in e) none))))
        (assigned_alike old new stay vs es held.1)

  -- ---- the parts of a model

  module _ (moved : List Bool) (old new : List Variable) (stay : StayElsewhere moved old new) where
    change_alike : (c : StateChange) → AllByRecursion IsHeld (into_change g old c) → GrowAlike (change_seen g false moved new c) (into_change g new c)
    change_alike (Set targets values) held = assigned_alike moved old new stay (map (λ (l : Location). l.variable) targets) values held
    change_alike (Draw target stream choice) held =
        part_alike false (into_change g old (Draw target stream choice)) (into_change g new (Draw target stream choice)) held (λ none. refl)

    module _ (e : EventEdge) where
      abbrev params : List ℕ
      params = (vertex_at g e.target).parameters

      abbrev old_refined : List Variable
      old_refined = refined e.condition true old

      abbrev new_refined : List Variable
      new_refined = refined e.condition true new

      abbrev gives : List Variable → Bool
      gives ranges = (bounds_under refined ranges e.condition).can_true

      by_values : StayElsewhere moved old_refined new_refined → (k t some : Bool) → (some ≡ false → assigned_seen false moved new_refined params e.values ≡ []) → AllByRecursion IsHeld (cond (k && t) (assigned old_refined params e.values) [])
          → GrowAlike (cond (k && some) (cond t (assigned_seen false moved new_refined params e.values) []) []) (cond (k && t) (assigned new_refined params e.values) [])
      by_values after false t some nothing held = λ x wide. refl
      by_values after true false true nothing held = λ x wide. refl
      by_values after true false false nothing held = λ x wide. refl
      by_values after true true true nothing held = assigned_alike moved old_refined new_refined after params e.values held
      by_values after true true false nothing held = subst (λ (is : List Incoming). GrowAlike is (assigned new_refined params e.values)) (nothing refl) (assigned_alike moved old_refined new_refined after params e.values held)

      -- where the condition reads none the edge schedules where it did
      unread : list_any (is_moved moved) (variables_in e.condition) ≡ false → AllByRecursion IsHeld (into_edge g old e) → GrowAlike (values_seen g false moved new e) (into_edge g new e)
      unread none held =
          let still : Unmoved moved (variables_in e.condition) = every-fails (is_moved moved) (variables_in e.condition) none in
          let same : gives old ≡ gives new = ap (λ (b : Bounds). b.can_true) (bounds_stay moved e.condition old new stay still) in
          by_values (refined_stays moved e.condition true old new stay still) (is_scheduling e.kind) (gives new) (list_any (looks_at_value false moved) (each_reads e.values)) (nothing_seen false moved new_refined params e.values)
          (subst (λ (t : Bool). AllByRecursion IsHeld (cond (is_scheduling e.kind && t) (assigned old_refined params e.values) [])) same held)

      edge_alike : AllByRecursion IsHeld (into_edge g old e) → GrowAlike (edge_seen g false moved new e) (into_edge g new e)
      edge_alike held = by (list_any (is_moved moved) (variables_in e.condition)) refl where
        by : (b : Bool) → list_any (is_moved moved) (variables_in e.condition) ≡ b → GrowAlike (values_seen g b moved new e) (into_edge g new e)
        by true is = λ x wide. ap (grow x) (all_values g moved new e)
        by false is = unread is held

    vertex_alike : (u : EventVertex) → AllByRecursion IsHeld (into_vertex g old u) → GrowAlike (vertex_seen g false moved new u) (into_vertex g new u)
    vertex_alike u held =
        let changes = flat_map (into_change g old) u.changes in
        let edges = flat_map (into_edge g old) u.edges in
        joined_alike (flat_map (change_seen g false moved new) u.changes) (flat_map (into_change g new) u.changes) (flat_map (edge_seen g false moved new) u.edges) (flat_map (into_edge g new) u.edges)
        (each_alike (change_seen g false moved new) (into_change g new) u.changes (every-map (λ (c : StateChange). AllByRecursion IsHeld (into_change g old c)) (λ (c : StateChange). GrowAlike (change_seen g false moved new c) (into_change g new c)) change_alike u.changes (every-flat_map IsHeld (into_change g old) u.changes (every-front IsHeld changes edges held))))
        (each_alike (edge_seen g false moved new) (into_edge g new) u.edges (every-map (λ (e : EventEdge). AllByRecursion IsHeld (into_edge g old e)) (λ (e : EventEdge). GrowAlike (edge_seen g false moved new e) (into_edge g new e)) edge_alike u.edges (every-flat_map IsHeld (into_edge g old) u.edges (every-after IsHeld changes edges held))))

    pub vertices_alike : (us : List EventVertex) → AllByRecursion IsHeld (flat_map (into_vertex g old) us) → GrowAlike (flat_map (vertex_seen g false moved new) us) (flat_map (into_vertex g new) us)
    vertices_alike us held =
        each_alike (vertex_seen g false moved new) (into_vertex g new) us (every-map (λ (u : EventVertex). AllByRecursion IsHeld (into_vertex g old u)) (λ (u : EventVertex). GrowAlike (vertex_seen g false moved new u) (into_vertex g new u)) vertex_alike us (every-flat_map IsHeld (into_vertex g old) us held))

-- ---- the same is held of both

same_ends : (a b : VarRange) → Encloses a b → Encloses b a → a ≡ b
same_ends a b i j = ap₂ (λ (x y : ℤ). record { lo = x; hi = y }) (omega (arith, ints, i.low, j.low)) (omega (arith, ints, i.high, j.high))

-- a range grows to the same by lists of which the same ranges hold what is kept
grown_same : (g : EventGraph) (v : ℕ) (in_order : (variable_at g v).lo ≤ℤ (variable_at g v).hi) (r : VarRange) (some all : List Incoming)
    → ((out : VarRange) → AllByRecursion (IsHeld g v in_order out) some → AllByRecursion (IsHeld g v in_order out) all)
    → ((out : VarRange) → AllByRecursion (IsHeld g v in_order out) all → AllByRecursion (IsHeld g v in_order out) some)
    → fold (grown_range g v) r some ≡ fold (grown_range g v) r all
grown_same g v in_order r some all into from =
    let a = fold (grown_range g v) r some in
    let b = fold (grown_range g v) r all in
    same_ends a b
    (all-least g v in_order r a all (all-holds g v in_order r some) (into a (all-taken g v in_order r a some (holds-itself a))))
    (all-least g v in_order r b some (all-holds g v in_order r all) (from b (all-taken g v in_order r b all (holds-itself b))))

-- ---- all variables, after a round

-- what is taken so leads to the same next ranges as all that is taken
abbrev pub SufficesFor : EventGraph → List VarRange → List Incoming → Type 0
SufficesFor g ranges takes = (late : Bool) → each_variable g (next_range g late takes ranges) ≡ each_variable g (next_range g late (incoming g ranges) ranges)

module _ (g : EventGraph) (before ranges : List VarRange) (growing : Growing g before) (k : ℕ) (made : ranges ≡ round g k before) where
  now_growing : Growing g ranges
  now_growing = subst (Growing g) (sym made) (round-growing g before growing k)

  -- what was taken under the ranges before the round is held after it
  held : (v : ℕ) → v < length g.variables → is_fixed g v ≡ false → AllByRecursion (IsHeld g v (ordered g before growing v) (range_at ranges v)) (incoming g before)
  held v small free =
      let d = declared_range (variable_at g v) in
      let r = range_at before v in
      let n = fold (grown_range g v) r (incoming g before) in
      let given : range_at ranges v ≡ ends_moved (nat_le 17 k) d r n =
      ap (λ (rs : List VarRange). range_at rs v) made ∙ (variable_given g (next_range g (nat_le 17 k) (incoming g before) before) v small ∙ ap (λ (b : Bool). cond b r (ends_moved (nat_le 17 k) d r n)) free) in
      let inside : Encloses d n = all-inside g v (ordered g before growing v) r (incoming g before) (fits_everywhere g before growing.fitting v).inside in
      all-taken g v (ordered g before growing v) r (range_at ranges v) (incoming g before) (subst (λ (x : VarRange). Encloses x n) (sym given) (ends_moved-takes (nat_le 17 k) d r n inside))

  module _ (moved : List Bool) (marks : MarksMoved before ranges moved) where
    stay : StayElsewhere moved (with_ranges g.variables before) (with_ranges g.variables ranges)
    stay = record {
      as_many = as_many_variables g.variables before ∙ sym (as_many_variables g.variables ranges);
      each = λ v still.
          range_given g.variables before growing.fitting.as_many v ∙
          (ap (with_range (variable_at g v)) ((marks v).0 still) ∙ sym (range_given g.variables ranges now_growing.fitting.as_many v));
    }

    module _ (takes : List Incoming) (alike : (v : ℕ) → fold (grown_range g v) (range_at ranges v) takes ≡ fold (grown_range g v) (range_at ranges v) (incoming_seen g false moved ranges)) where
      next_alike : (late : Bool) (v : ℕ) → v < length g.variables → next_range g late takes ranges v ≡ next_range g late (incoming g ranges) ranges v
      next_alike late v small = by (is_fixed g v) refl where
        r : VarRange
        r = range_at ranges v

        by : (b : Bool) → is_fixed g v ≡ b → cond b r (ends_moved late (declared_range (variable_at g v)) r (fold (grown_range g v) r takes)) ≡ cond b r (ends_moved late (declared_range (variable_at g v)) r (fold (grown_range g v) r (incoming g ranges)))
        by true is = refl
        by false free =
            ap (ends_moved late (declared_range (variable_at g v)) r)
            (alike v ∙ vertices_alike g v (ordered g before growing v) r moved (with_ranges g.variables before) (with_ranges g.variables ranges) stay g.vertices (held v small free) r (holds-itself r))

      suffices : SufficesFor g ranges takes
      suffices late =
          let some : ℕ → VarRange = next_range g late takes ranges in
          let all : ℕ → VarRange = next_range g late (incoming g ranges) ranges in
          ext_get_or no_range (each_variable g some) (each_variable g all) (variables_given g some ∙ sym (variables_given g all)) (λ v small.
          let there : v < length g.variables = omega (arith, small, variables_given g some) in
          variable_given g some v there ∙ (next_alike late v there ∙ sym (variable_given g all v there)))

    -- the parts that read one that moved give all
    by_readers : (takes : List Incoming) → TakenByReaders g moved ranges takes → (v : ℕ) → fold (grown_range g v) (range_at ranges v) takes ≡ fold (grown_range g v) (range_at ranges v) (incoming_seen g false moved ranges)
    by_readers takes readers v =
        let rs = with_ranges g.variables ranges in
        let order = ordered g before growing v in
        ap (fold (grown_range g v) (range_at ranges v)) readers.are
        ∙ grown_same g v order (range_at ranges v) (flat_map (part_seen g false moved rs g.vertices) readers.parts) (incoming_seen g false moved ranges)
        (λ out has. all_seen_too (IsHeld g v order out) g moved rs g.vertices readers.parts readers.are_all has)
        (λ out has. of_all (IsHeld g v order out) g moved rs g.vertices readers.parts has)

  pub suffices_again : (takes : List Incoming) → TakesAgain g before ranges takes → SufficesFor g ranges takes
  suffices_again takes again = by again.are where
    by : (takes ≡ incoming_seen g false again.moved ranges) ⊎ TakenByReaders g again.moved ranges takes → SufficesFor g ranges takes
    by (inl same) = suffices again.moved again.marks takes (λ v. ap (fold (grown_range g v) (range_at ranges v)) same)
    by (inr readers) = suffices again.moved again.marks takes (by_readers again.moved again.marks takes readers)
