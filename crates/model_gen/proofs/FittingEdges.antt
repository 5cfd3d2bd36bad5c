-- The edges of a made vertex keep the static rules, are what a text can write, and have short lines.
use Rattle.std.proofs.Common.{◌≡◌, ℕ, zero, suc, ◌+◌, ◌%◌, ◌≤◌, ◌<◌, pos, Bool, true, false, nat_lt, ◌==◌, if◌then◌else◌, List, [], ◌∷◌, ◌++◌, map, length, Some, slice_get, refl, sym, ap, subst, arith, length-append}
use Rattle.std.specs.Prelude.{codes, decimal}
use Rattle.std.specs.List.{AllByRecursion, range_with_len}
use Rattle.std.specs.Option.{option_map_or}
use Rattle.std.proofs.Math.Nat.{mod-lt}
use Rattle.std.proofs.lemmas.List.FromFn.{length-map-range_with_len}
use Rattle.std.proofs.lemmas.Bool.{ltb-true}
use Rattle.model_core.specs.declared.model.Kind.TheVariants as kinds
use Rattle.model_core.specs.EventGraph.{EventGraph, EventVertex, EventEdge, Variable, WatchedVariable, Operator, Below, Above, AtLeast, Expression, Number, Truth, Scalar, Fixed}
use Rattle.model_core.specs.Text.Canonical.{variable_name, vertex_name, delay_text, condition_text, edge_line}
use Rattle.model_core.specs.Text.Spellable.{extent, expression_openings, SpellableExpression, SpellableEdge}
use Rattle.model_core.specs.Static.HasKind.{IsVariable, HasKind}
use Rattle.model_core.specs.Static.OwnRules.{IsShort, KeepsEdge, parameters_of}
use Rattle.model_core.proofs.EachOne.{every-append}
use Rattle.model_gen.specs.Generated.{counter, gap, gap_place, timed_edge, immediate_edge, counter_test, edge_onward, edges_by_half, edges_by_bound, generated_edges}
use Rattle.model_gen.proofs.MadeInTurn.{each_made, made_at}
use Rattle.model_gen.proofs.NumberedNames.{few_digits}

-- ---- what holds of both choices holds of what is chosen

pub of_chosen : {A : Type 0} (P : A → Type 0) (b : Bool) (x y : A) → (b ≡ true → P x) → P y → P (if b then x else y)
of_chosen P true x y first second = first refl
of_chosen P false x y first second = second

-- ---- lengths of lines, by those of their parts

test_length : (name sign number : List ℕ) → length name ≤ 32 → length sign ≤ 2 → length number ≤ 3 → length (codes " when " ++ (name ++ codes " " ++ sign ++ codes " " ++ number)) ≤ 100
test_length name sign number a b c = simp length-append (omega arith)

timed_length : (name delay condition : List ℕ) → length name ≤ 32 → length delay ≤ 50 → length condition ≤ 100 → length (codes "  schedule " ++ name ++ [] ++ (delay ++ []) ++ condition ++ codes ";\n") ≤ 250
timed_length name delay condition a b c = simp length-append (omega arith)

at_once_length : (name : List ℕ) → length name ≤ 32 → length (codes "  urgent " ++ name ++ [] ++ [] ++ [] ++ codes ";\n") ≤ 250
at_once_length name a = simp length-append (omega arith)

name_length : {A : Type 0} (name : A → List ℕ) (xs : List A) → AllByRecursion (λ x. IsShort (name x)) xs → (k : ℕ) → length (option_map_or name (slice_get xs k) []) ≤ 32
name_length name [] all k = omega arith
name_length name (x ∷ xs) all zero = all.0
name_length name (x ∷ xs) all (suc k) = name_length name xs all.1 k

-- ---- variables

abbrev pub made_variables : List Variable
made_variables = map counter (range_with_len 0 8) ++ gap ∷ []

pub counter_there : (v : ℕ) → v < 8 → IsVariable made_variables v false kinds.Range
counter_there v below = record { variable = counter v; there = made_at counter 0 8 v v (gap ∷ []) below (omega arith); shape = refl; of_kind = refl }

pub gap_there : IsVariable made_variables gap_place false kinds.Range
gap_there = record { variable = gap; there = refl; shape = refl; of_kind = refl }

counter_short : (n : ℕ) → n < 1000 → IsShort (counter n).name
counter_short n small = omega (arith, few_digits n small)

variables_short : AllByRecursion (λ (v : Variable). IsShort v.name) made_variables
variables_short = every-append (λ (v : Variable). IsShort v.name) (map counter (range_with_len 0 8)) gap (each_made (λ (v : Variable). IsShort v.name) counter 0 8 1000 (omega arith) (λ i from below. counter_short i below)) (omega arith)

-- ---- a model of vertices that are made in turn

-- the vertices made from the numbers have their number in their name, and no parameters
pub record IsMadeInTurn (made : ℕ → EventVertex) : Type 0 where
  pub named : (i : ℕ) → (made i).name ≡ codes "E" ++ decimal i
  pub bare : (i : ℕ) → (made i).parameters ≡ []

module _ (vertices : ℕ) (few : vertices ≤ 500) (made : ℕ → EventVertex) (turn : IsMadeInTurn made) where
  abbrev pub made_model : EventGraph
  made_model = record { name = codes "TRIAL"; variables = made_variables; tables = []; watch = WatchedVariable 0 ∷ WatchedVariable 1 ∷ []; vertices = map made (range_with_len 0 vertices) }

  pub variable_short : (v : ℕ) → length (variable_name made_model v) ≤ 32
  variable_short v = name_length (λ (x : Variable). x.name) made_variables variables_short v

  made_short : (i : ℕ) → i < 1000 → IsShort (made i).name
  made_short i small = subst IsShort (sym (turn.named i)) (omega (arith, few_digits i small))

  vertex_short : (v : ℕ) → length (vertex_name made_model v) ≤ 32
  vertex_short v = name_length (λ (x : EventVertex). x.name) made_model.vertices (each_made (λ (x : EventVertex). IsShort x.name) made 0 vertices 1000 (omega arith) (λ i from below. made_short i below)) v

  bare_from : (a n i : ℕ) → i < n → slice_get (map (λ (v : EventVertex). v.parameters) (map made (range_with_len a n))) i ≡ Some []
  bare_from a zero i below = absurd (omega arith)
  bare_from a (suc n) zero below = ap Some (turn.bare a)
  bare_from a (suc n) (suc i) below = bare_from (a + 1) n i (omega arith)

  target_there : (t : ℕ) → t < vertices → t < (extent made_model).vertices
  target_there t below = omega (arith, length-map-range_with_len made 0 vertices)

  -- ---- delays and conditions

  record FitsDelay (e : Expression) : Type 0 where
    pub of_kind : HasKind made_variables e kinds.Range
    pub spelled : SpellableExpression 9 e
    pub openings : expression_openings e ≤ 1
    pub short : length (delay_text made_model (Fixed e)) ≤ 50

  record FitsCondition (e : Expression) : Type 0 where
    pub of_kind : HasKind made_variables e kinds.Truth
    pub spelled : SpellableExpression 9 e
    pub openings : expression_openings e ≤ 1
    pub short : length (condition_text made_model e) ≤ 100

  gap_fits : FitsDelay (Scalar gap_place)
  gap_fits = record { of_kind = gap_there; spelled = omega arith; openings = omega arith; short = omega arith }

  ticks_fit : (n : ℕ) → n < 99 → FitsDelay (Number (pos (suc n)))
  ticks_fit n small = record { of_kind = refl; spelled = omega arith; openings = omega arith; short = omega (arith, few_digits (suc n) (omega arith)) }

  always_fits : FitsCondition (Truth true)
  always_fits = record { of_kind = refl; spelled = tt; openings = omega arith; short = omega arith }

  -- the tests that are made
  abbrev IsMadeTest : Operator → Type 0
  IsMadeTest Below = Unit {0}
  IsMadeTest AtLeast = Unit {0}
  IsMadeTest Above = Unit {0}
  IsMadeTest op = ⊥

  test_fits : (op : Operator) → IsMadeTest op → (c n : ℕ) → c < 8 → n < 1000 → FitsCondition (counter_test op c n)
  test_fits Below is c n below small = record { of_kind = (refl, (counter_there c below, refl)); spelled = (omega arith, omega arith); openings = omega arith; short = test_length (variable_name made_model c) (codes "<") (decimal n) (variable_short c) (omega arith) (few_digits n small) }
  test_fits AtLeast is c n below small = record { of_kind = (refl, (counter_there c below, refl)); spelled = (omega arith, omega arith); openings = omega arith; short = test_length (variable_name made_model c) (codes ">=") (decimal n) (variable_short c) (omega arith) (few_digits n small) }
  test_fits Above is c n below small = record { of_kind = (refl, (counter_there c below, refl)); spelled = (omega arith, omega arith); openings = omega arith; short = test_length (variable_name made_model c) (codes ">") (decimal n) (variable_short c) (omega arith) (few_digits n small) }
  test_fits op is c n below small = absurd is

  -- ---- edges

  pub record FitsEdge (e : EventEdge) : Type 0 where
    pub keeps : KeepsEdge made_variables 0 (parameters_of made_model) e
    pub spelled : SpellableEdge (extent made_model) e
    pub short : length (edge_line made_model e) ≤ 250

  timed_fits : (t : ℕ) (delay condition : Expression) → t < vertices → FitsDelay delay → FitsCondition condition → FitsEdge (timed_edge t delay condition)
  timed_fits t delay condition below d c = record {
    keeps = record { parameters = []; target = bare_from 0 vertices t below; carries = record { kinds = []; taken = tt; given = tt }; timing = (d.of_kind, omega arith, omega arith); condition = c.of_kind };
    spelled = record { target = target_there t below; values = tt; carries = tt; kind = (d.spelled, omega arith); condition = c.spelled; few_openings = omega (arith, d.openings, c.openings) };
    short = timed_length (vertex_name made_model t) (delay_text made_model (Fixed delay)) (condition_text made_model condition) (vertex_short t) d.short c.short;
  }

  at_once_fits : (t : ℕ) → t < vertices → FitsEdge (immediate_edge t)
  at_once_fits t below = record {
    keeps = record { parameters = []; target = bare_from 0 vertices t below; carries = record { kinds = []; taken = tt; given = tt }; timing = tt; condition = refl };
    spelled = record { target = target_there t below; values = tt; carries = tt; kind = tt; condition = tt; few_openings = omega arith };
    short = at_once_length (vertex_name made_model t) (vertex_short t);
  }

  module _ (i z : ℕ) (place : i < vertices) (target : z < vertices) where
    onward_fits : FitsEdge (edge_onward vertices i)
    onward_fits = of_chosen FitsEdge (nat_lt (i + 1) vertices) (immediate_edge (i + 1)) (timed_edge 0 (Number (pos 2)) (Truth true)) (λ next. at_once_fits (i + 1) (ltb-true (i + 1) vertices next)) (timed_fits 0 (Number (pos 2)) (Truth true) (omega arith) (ticks_fit 1 (omega arith)) always_fits)

    by_half_fit : AllByRecursion FitsEdge (edges_by_half z)
    by_half_fit = (
      timed_fits z (Number (pos 3)) (counter_test Below 0 50) target (ticks_fit 2 (omega arith)) (test_fits Below tt 0 50 (omega arith) (omega arith)),
      (timed_fits 0 (Number (pos 9)) (counter_test AtLeast 0 50) (omega arith) (ticks_fit 8 (omega arith)) (test_fits AtLeast tt 0 50 (omega arith) (omega arith)), tt),
    )

    by_bound_fit : AllByRecursion FitsEdge (edges_by_bound vertices i z)
    by_bound_fit = (
      timed_fits z (Number (pos 1)) (counter_test Above 1 99) target (ticks_fit 0 (omega arith)) (test_fits Above tt 1 99 (omega arith) (omega arith)),
      (timed_fits ((i + 1) % vertices) (Scalar gap_place) (counter_test Below 1 100) (mod-lt (i + 1) (omega arith)) gap_fits (test_fits Below tt 1 100 (omega arith) (omega arith)), tt),
    )

    -- the edges of each form
    by_form : (P : List EventEdge → Type 0) → P (timed_edge z (Scalar gap_place) (Truth true) ∷ []) → P (edge_onward vertices i ∷ []) → P (edges_by_half z) → P (edges_by_bound vertices i z) → (form : ℕ) → P (generated_edges vertices i form z)
    by_form P drawn onward by_half by_bound form =
        of_chosen P (form == 0) _ _ (λ is. drawn) (of_chosen P (form == 1) _ _ (λ is. onward) (of_chosen P (form == 2) _ _ (λ is. by_half) by_bound))

    pub edges_fit : (form : ℕ) → AllByRecursion FitsEdge (generated_edges vertices i form z)
    edges_fit form =
        by_form (AllByRecursion FitsEdge) (timed_fits z (Scalar gap_place) (Truth true) target gap_fits always_fits, tt) (onward_fits, tt) by_half_fit by_bound_fit form

    pub few_made_edges : (form : ℕ) → length (generated_edges vertices i form z) ≤ 2
    few_made_edges form = by_form (λ es. length es ≤ 2) (omega arith) (omega arith) (omega arith) (omega arith) form
