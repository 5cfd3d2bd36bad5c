use Rattle.std.proofs.Common.{◌≡◌, ◌≢◌, ◌∙◌, ◌==◌, ℕ, nat_lt, Bool, true, false, ◌&&◌, not, List, ◌∷◌, take, drop, length, get_or, Option, Some, None, is_some, refl, sym, ap, subst, arith}
use Rattle.std.specs.Prelude.{is_none}
use Rattle.std.specs.Option.{option_map_or}
use Rattle.std.proofs.lemmas.Bool.Decides.{nat_tests}
use Rattle.std.proofs.lemmas.List.{length-map, get_or-map}
use Rattle.model_core.specs.declared.model.Model.{Model}
use Rattle.model_core.specs.declared.vertex.Vertex.{Vertex}
use Rattle.model_core.specs.EventGraph.{EventGraph, EventVertex}
use Rattle.model_core.specs.Run.Step.{no_vertex, vertex_at}
use Rattle.model_core.specs.Rules.UrgentEdges.{plain_urgent, plain_urgent_edge, single_urgent}
use Rattle.model_core.specs.Rules.Conditions.{first_failed}
use Rattle.model_core.specs.Rules.Merge.{leads_to, merge_conditions}
use Rattle.model_core.specs.Code.Views.{graph_of, vertex_of}
use Rattle.merge_rules.specs.KeptPairs.{UnseenIsRight}
use Rattle.merge_rules.proofs.OneStepForTwo.MergeHolds.{is_below}
use Rattle.merge_rules.proofs.conditions.failed_before_limits.Goals as goal
use Rattle.merge_rules.proofs.conditions.failed_before_limits.Goals.{then-first-second-via-then-first-second, then-first-second-via-else-first-second+then-not-leads_at_once}

-- ---- the code's list of vertices is the model's

counted : (m : Model) (seen : List Vertex) (k : ℕ) (b : Bool) → seen ≡ m.vertices → b ≡ nat_lt k (length seen) → nat_lt k (length (graph_of m).vertices) ≡ b
counted m seen k b same is = ap (nat_lt k) (length-map m.vertices vertex_of ∙ sym (ap length same)) ∙ sym is

there : (m : Model) (seen : List Vertex) (k : ℕ) (v : Vertex) → seen ≡ m.vertices → true ≡ nat_lt k (length seen) → v ≡ get_or seen k v → vertex_of v ≡ vertex_at (graph_of m) k
there m seen k v same below is =
    ap vertex_of (is ∙ ap (λ xs. get_or xs k v) same)
    ∙ sym (get_or-map vertex_of m.vertices k v no_vertex (is_below k (length m.vertices) (ap (λ xs. nat_lt k (length xs)) (sym same) ∙ sym below)))

-- ---- the first condition

abbrev leads : ℕ → EventVertex → Bool
leads second a = option_map_or (leads_to second) (plain_urgent_edge a) false

abbrev first_condition : EventGraph → ℕ → ℕ → Bool
first_condition g first second = nat_lt first (length g.vertices) && nat_lt second (length g.vertices) && not (first == second) && leads second (vertex_at g first)

-- where it is known what each of its four parts is
four_joined : (p q r s : Bool) {w x y z : Bool} → p ≡ w → q ≡ x → r ≡ y → s ≡ z → p && q && r && s ≡ w && x && y && z
four_joined p q r s is_p is_q is_r is_s = λ i. is_p i && is_q i && is_r i && is_s i

same_place : (i k : ℕ) → i ≡ k → not (i == k) ≡ false
same_place i k e = grind (arith, nat_tests)

other_place : (i k : ℕ) → i ≢ k → not (i == k) ≡ true
other_place i k e = grind (arith, nat_tests)

module _ (m : Model) (first second : ℕ) (seen : List Vertex) (same : seen ≡ m.vertices) where
  -- the first vertex is missing
  absent_first : false ≡ nat_lt first (length seen) → first_condition (graph_of m) first second ≡ false
  absent_first past = four_joined (nat_lt first (length (graph_of m).vertices)) (nat_lt second (length (graph_of m).vertices)) (not (first == second)) (leads second (vertex_at (graph_of m) first)) (counted m seen first false same past) refl refl refl

  module _ (below : true ≡ nat_lt first (length seen)) where
    -- the second isn't
    absent_second : false ≡ nat_lt second (length seen) → first_condition (graph_of m) first second ≡ false
    absent_second past = four_joined (nat_lt first (length (graph_of m).vertices)) (nat_lt second (length (graph_of m).vertices)) (not (first == second)) (leads second (vertex_at (graph_of m) first))
        (counted m seen first true same below) (counted m seen second false same past) refl refl

    module _ (a : Vertex) (is : a ≡ get_or seen first a) (second_below : true ≡ nat_lt second (length seen)) where
      -- they are one
      one_alone : first ≡ second → first_condition (graph_of m) first second ≡ false
      one_alone e = four_joined (nat_lt first (length (graph_of m).vertices)) (nat_lt second (length (graph_of m).vertices)) (not (first == second)) (leads second (vertex_at (graph_of m) first))
          (counted m seen first true same below) (counted m seen second true same second_below) (same_place first second e) refl

      -- no plain urgent edge leads from the first to the second, or one does
      not_led : first ≢ second → false ≡ leads second (vertex_of a) → first_condition (graph_of m) first second ≡ false
      not_led apart same_test = four_joined (nat_lt first (length (graph_of m).vertices)) (nat_lt second (length (graph_of m).vertices)) (not (first == second)) (leads second (vertex_at (graph_of m) first))
          (counted m seen first true same below) (counted m seen second true same second_below) (other_place first second apart) (ap (leads second) (sym (there m seen first a same below is)) ∙ sym same_test)

      led : first ≢ second → true ≡ leads second (vertex_of a) → first_condition (graph_of m) first second ≡ true
      led apart same_test = four_joined (nat_lt first (length (graph_of m).vertices)) (nat_lt second (length (graph_of m).vertices)) (not (first == second)) (leads second (vertex_at (graph_of m) first))
          (counted m seen first true same below) (counted m seen second true same second_below) (other_place first second apart) (ap (leads second) (sym (there m seen first a same below is)) ∙ sym same_test)

-- ---- the second condition

none_or_some : (o : Option ℕ) → is_none o ≡ not (is_some o)
none_or_some None = refl
none_or_some (Some k) = refl

second_condition : (v w : EventVertex) (o : Option ℕ) (b : Bool) → v ≡ w → o ≡ plain_urgent v → b ≡ is_some o → is_none (plain_urgent w) ≡ not b
second_condition v w o b same is test = none_or_some (plain_urgent w) ∙ ap (λ x. not (is_some (plain_urgent x))) (sym same) ∙ ap (λ x. not (is_some x)) (sym is) ∙ ap not (sym test)

-- ---- the exits

-- the first that fails, where it is known what each of the first three is
first_three : (g : EventGraph) (first second : ℕ) {x y z : Bool} → first_condition g first second ≡ x → is_none (plain_urgent (vertex_at g second)) ≡ y → single_urgent g ≡ z
    → first_failed (x ∷ y ∷ z ∷ drop 3 (take 7 (merge_conditions g first second))) ≡ first_failed (take 7 (merge_conditions g first second))
first_three g first second a b c = λ i. first_failed (sym a i ∷ sym b i ∷ sym c i ∷ drop 3 (take 7 (merge_conditions g first second)))

pub returns-in_default-clause-failed : goal.returns-in_default-clause-failed
returns-in_default-clause-failed t c =
    let g = graph_of c.args.model.now in
    first_three g c.args.first c.args.second
    (absent_first c.args.model.now c.args.first c.args.second c.as_slice-vertices.result.now c.as_slice-vertices.ensures c.in_default.ensures.lookup.0) refl refl

pub returns-in_default-get-clause-failed : goal.returns-in_default-get-clause-failed
returns-in_default-get-clause-failed t c =
    let g = graph_of c.args.model.now in
    first_three g c.args.first c.args.second
    (absent_second c.args.model.now c.args.first c.args.second c.as_slice-vertices.result.now c.as_slice-vertices.ensures c.in-Some.ensures.lookup.0 c.in_default-get.ensures.lookup.0) refl refl

pub returns-then-first-second-clause-failed : goal.returns-then-first-second-clause-failed
returns-then-first-second-clause-failed t c =
    let g = graph_of c.args.model.now in
    first_three g c.args.first c.args.second
    (elim c.then-first-second.branch [
      | then-first-second-via-then-first-second w ↦ one_alone c.args.model.now c.args.first c.args.second c.as_slice-vertices.result.now c.as_slice-vertices.ensures c.in-Some.ensures.lookup.0 c.in-Some.a.now c.in-Some.ensures.lookup.1 c.in-Some-get.ensures.lookup.0 w.if-first-second.true
      | then-first-second-via-else-first-second+then-not-leads_at_once w ↦ not_led c.args.model.now c.args.first c.args.second c.as_slice-vertices.result.now c.as_slice-vertices.ensures c.in-Some.ensures.lookup.0 c.in-Some.a.now c.in-Some.ensures.lookup.1 c.in-Some-get.ensures.lookup.0 w.if-first-second.false w.if-not-leads_at_once.ensures
    ]) refl refl

pub returns-then-is_some-clause-failed : goal.returns-then-is_some-clause-failed
returns-then-is_some-clause-failed t c =
    let g = graph_of c.args.model.now in
    first_three g c.args.first c.args.second
    (led c.args.model.now c.args.first c.args.second c.as_slice-vertices.result.now c.as_slice-vertices.ensures c.in-Some.ensures.lookup.0 c.in-Some.a.now c.in-Some.ensures.lookup.1 c.in-Some-get.ensures.lookup.0 c.if-first-second.false c.if-not-leads_at_once.ensures)
    (second_condition (vertex_of c.in-Some-get.b.now) (vertex_at g c.args.second) c.plain_urgent.result true (there c.args.model.now c.as_slice-vertices.result.now c.args.second c.in-Some-get.b.now c.as_slice-vertices.ensures c.in-Some-get.ensures.lookup.0 c.in-Some-get.ensures.lookup.1) c.plain_urgent.ensures c.if-is_some.ensures) refl

pub returns-then-not-single-clause-failed : goal.returns-then-not-single-clause-failed
returns-then-not-single-clause-failed t c =
    let g = graph_of c.args.model.now in
    first_three g c.args.first c.args.second
    (led c.args.model.now c.args.first c.args.second c.as_slice-vertices.result.now c.as_slice-vertices.ensures c.in-Some.ensures.lookup.0 c.in-Some.a.now c.in-Some.ensures.lookup.1 c.in-Some-get.ensures.lookup.0 c.if-first-second.false c.if-not-leads_at_once.ensures)
    (second_condition (vertex_of c.in-Some-get.b.now) (vertex_at g c.args.second) c.plain_urgent.result false (there c.args.model.now c.as_slice-vertices.result.now c.args.second c.in-Some-get.b.now c.as_slice-vertices.ensures c.in-Some-get.ensures.lookup.0 c.in-Some-get.ensures.lookup.1) c.plain_urgent.ensures c.if-is_some.ensures)
    (sym c.requires.single ∙ c.if-not-single.true)

pub returns-clause-failed : goal.returns-clause-failed
returns-clause-failed t c =
    let g = graph_of c.args.model.now in
    c.failed_later.ensures.failed
    ∙ first_three g c.args.first c.args.second
    (led c.args.model.now c.args.first c.args.second c.as_slice-vertices.result.now c.as_slice-vertices.ensures c.in-Some.ensures.lookup.0 c.in-Some.a.now c.in-Some.ensures.lookup.1 c.in-Some-get.ensures.lookup.0 c.if-first-second.false c.if-not-leads_at_once.ensures)
    (second_condition (vertex_of c.in-Some-get.b.now) (vertex_at g c.args.second) c.plain_urgent.result false (there c.args.model.now c.as_slice-vertices.result.now c.args.second c.in-Some-get.b.now c.as_slice-vertices.ensures c.in-Some-get.ensures.lookup.0 c.in-Some-get.ensures.lookup.1) c.plain_urgent.ensures c.if-is_some.ensures)
    (sym c.requires.single ∙ c.if-not-single.false)

pub failed_later-requires-clause-first : goal.failed_later-requires-clause-first
failed_later-requires-clause-first t c = there c.args.model.now c.as_slice-vertices.result.now c.args.first c.in-Some.a.now c.as_slice-vertices.ensures c.in-Some.ensures.lookup.0 c.in-Some.ensures.lookup.1

pub failed_later-requires-clause-second : goal.failed_later-requires-clause-second
failed_later-requires-clause-second t c = there c.args.model.now c.as_slice-vertices.result.now c.args.second c.in-Some-get.b.now c.as_slice-vertices.ensures c.in-Some-get.ensures.lookup.0 c.in-Some-get.ensures.lookup.1

pub failed_later-requires-clause-unseen : goal.failed_later-requires-clause-unseen
failed_later-requires-clause-unseen t c =
    let g = graph_of c.args.model.now in
    subst (UnseenIsRight c.args.unseen g)
    (sym (there c.args.model.now c.as_slice-vertices.result.now c.args.second c.in-Some-get.b.now c.as_slice-vertices.ensures c.in-Some-get.ensures.lookup.0 c.in-Some-get.ensures.lookup.1))
    c.requires.unseen
