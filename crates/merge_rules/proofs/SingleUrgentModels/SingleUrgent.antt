-- In a single urgent model at most one urgent edge of a vertex is taken, and so at most one event is urgent.
use Rattle.std.proofs.Common.{◌≡◌, ℕ, ◌^◌, ◌≤◌, ℤ, pos, Bool, true, false, cond, ◌&&◌, IsTrue, List, [], ◌∷◌, length, map, filter, Ok, refl, ◌∙◌, ap, subst, arith}
use Rattle.std.proofs.lemmas.Int.{ints}
use Rattle.std.specs.List.{list_all, AllByRecursion}
use Rattle.sig_base.proofs.Lists.{slice_index_or-all}
use Rattle.sig_base.proofs.Tests.{not_both}
use Rattle.model_core.specs.declared.model.Kind.TheVariants as kinds
use Rattle.model_core.specs.EventGraph.{EventGraph, Variable, Expression, EventVertex, EventEdge, EdgeKind, Schedule, Urgent, CancelNext, CancelEqual, CancelAll}
use Rattle.model_core.specs.Run.State.{State, in_range}
use Rattle.model_core.specs.Run.Value.{value_of, is_one}
use Rattle.model_core.specs.Run.Step.{vertex_at, no_vertex}
use Rattle.model_core.specs.Static.HasKind.{HasKind}
use Rattle.model_core.specs.Static.OwnRules.{KeepsTiming, KeepsEdge, KeepsVertex, KeepsParts, parameters_of}
use Rattle.model_core.specs.Rules.Exclusive.{exclusive}
use Rattle.model_core.specs.Rules.UrgentEdges.{is_urgent, is_urgent_kind, each_pair, urgent_conditions, single_urgent}
use Rattle.model_core.proofs.BothTrue.{and_first, and_second}
use Rattle.model_core.proofs.EachOne.{every-map}
use Rattle.merge_rules.proofs.SingleUrgentModels.UrgentEvents.{Fires, Exclusive, PriorityOk}

-- two exclusive conditions aren't both 1
abbrev pub NeverBoth : EventGraph → Type 0
NeverBoth g = (s : State) (clk : ℕ) (a b : Expression) → IsTrue (in_range g s) → clk ≤ 2 ^ 48 → HasKind g.variables a kinds.Truth → HasKind g.variables b kinds.Truth → exclusive g a b ≡ true → value_of g s clk a ≡ Ok (pos 1) → value_of g s clk b ≡ Ok (pos 1) → ⊥

one_is : (x : ℤ) → is_one x ≡ true → x ≡ pos 1
one_is x e = grind (arith, ints)

is_urgent_kind-true : (kind : EdgeKind) → kind ≡ Urgent → is_urgent_kind kind ≡ true
is_urgent_kind-true kind e = ap is_urgent_kind e

abbrev conditions : List EventEdge → List Expression
conditions es = map (λ (e : EventEdge). e.condition) es

module _ (g : EventGraph) (never : NeverBoth g) (s : State) (inside : IsTrue (in_range g s)) (clk : ℕ) (early : clk ≤ 2 ^ 48) where
  abbrev Keeps : EventEdge → Type 0
  Keeps e = KeepsEdge g.variables (length g.tables) (parameters_of g) e

  fired : (e : EventEdge) → Fires g s clk e → value_of g s clk e.condition ≡ Ok (pos 1)
  fired e (urgent, (c, is, one)) = is ∙ ap (λ c. Ok c) (one_is c one)

  none_beside : (e : EventEdge) → Keeps e → Fires g s clk e → (es : List EventEdge) → AllByRecursion Keeps es → list_all (exclusive g e.condition) (urgent_conditions es) ≡ true → AllByRecursion (λ f. Fires g s clk f → ⊥) es
  none_beside e keeps fires [] all apart = tt
  none_beside e keeps fires (f ∷ es) (here, all) apart = tested (is_urgent f) refl apart (none_beside e keeps fires es all) where
    tested : (b : Bool) → is_urgent f ≡ b → list_all (exclusive g e.condition) (urgent_conditions (f ∷ es)) ≡ true → (list_all (exclusive g e.condition) (urgent_conditions es) ≡ true → AllByRecursion (λ f. Fires g s clk f → ⊥) es) → AllByRecursion (λ f. Fires g s clk f → ⊥) (f ∷ es)
    tested true is apart later =
        let both : (exclusive g e.condition f.condition && list_all (exclusive g e.condition) (urgent_conditions es)) ≡ true = subst (λ b. list_all (exclusive g e.condition) (conditions (cond b (f ∷ filter is_urgent es) (filter is_urgent es))) ≡ true) is apart in
        ((λ too. never s clk e.condition f.condition inside early keeps.condition here.condition (and_first (exclusive g e.condition f.condition) _ both) (fired e fires) (fired f too)), later (and_second (exclusive g e.condition f.condition) _ both))
    tested false is apart later =
        ((λ too. not_both (is_urgent f) (is_urgent_kind-true f.kind too.0) is), later (subst (λ b. list_all (exclusive g e.condition) (conditions (cond b (f ∷ filter is_urgent es) (filter is_urgent es))) ≡ true) is apart))

  pub exclusive_edges : (es : List EventEdge) → AllByRecursion Keeps es → each_pair (exclusive g) (urgent_conditions es) ≡ true → Exclusive g s clk es
  exclusive_edges [] all apart = tt
  exclusive_edges (e ∷ es) (here, all) apart = tested (is_urgent e) refl apart (exclusive_edges es all) where
    tested : (b : Bool) → is_urgent e ≡ b → each_pair (exclusive g) (urgent_conditions (e ∷ es)) ≡ true → (each_pair (exclusive g) (urgent_conditions es) ≡ true → Exclusive g s clk es) → Exclusive g s clk (e ∷ es)
    tested true is apart later =
        let both : (list_all (exclusive g e.condition) (urgent_conditions es) && each_pair (exclusive g) (urgent_conditions es)) ≡ true = subst (λ b. each_pair (exclusive g) (conditions (cond b (e ∷ filter is_urgent es) (filter is_urgent es))) ≡ true) is apart in
        ((λ fires. none_beside e here fires es all (and_first (list_all (exclusive g e.condition) (urgent_conditions es)) _ both)), later (and_second (list_all (exclusive g e.condition) (urgent_conditions es)) _ both))
    tested false is apart later =
        ((λ fires. absurd (not_both (is_urgent e) (is_urgent_kind-true e.kind fires.0) is)), later (subst (λ b. each_pair (exclusive g) (conditions (cond b (e ∷ filter is_urgent es) (filter is_urgent es))) ≡ true) is apart))

-- ---- vertices of a model that keeps its rules

timed : (variables : List Variable) (tables : ℕ) (takes : List (List ℕ)) (kind : EdgeKind) → KeepsTiming variables tables takes kind → PriorityOk kind
timed variables tables takes (Schedule delay priority) keeps = omega (arith, keeps.1)
timed variables tables takes Urgent keeps = tt
timed variables tables takes CancelNext keeps = tt
timed variables tables takes CancelEqual keeps = tt
timed variables tables takes CancelAll keeps = tt

pub edges_keep : (g : EventGraph) → KeepsParts g → (k : ℕ) → AllByRecursion (KeepsEdge g.variables (length g.tables) (parameters_of g)) (vertex_at g k).edges
edges_keep g keeps k =
    slice_index_or-all (λ (v : EventVertex). AllByRecursion (KeepsEdge g.variables (length g.tables) (parameters_of g)) v.edges) g.vertices no_vertex k
    (every-map (KeepsVertex g.variables (length g.tables) (parameters_of g)) _ (λ v keeps. keeps.edges) g.vertices keeps.vertices) tt

pub priorities_above_zero : (g : EventGraph) → KeepsParts g → (k : ℕ) → AllByRecursion (λ (e : EventEdge). PriorityOk e.kind) (vertex_at g k).edges
priorities_above_zero g keeps k =
    every-map (KeepsEdge g.variables (length g.tables) (parameters_of g)) _ (λ e keeps. timed g.variables (length g.tables) (parameters_of g) e.kind keeps.timing) (vertex_at g k).edges (edges_keep g keeps k)

pair_apart : (g : EventGraph) (vs : List EventVertex) → list_all (λ (v : EventVertex). each_pair (exclusive g) (urgent_conditions v.edges)) vs ≡ true → AllByRecursion (λ (v : EventVertex). each_pair (exclusive g) (urgent_conditions v.edges) ≡ true) vs
pair_apart g [] e = tt
pair_apart g (v ∷ vs) e = (and_first (each_pair (exclusive g) (urgent_conditions v.edges)) _ e, pair_apart g vs (and_second (each_pair (exclusive g) (urgent_conditions v.edges)) _ e))

pub exclusive_vertices : (g : EventGraph) → KeepsParts g → NeverBoth g → single_urgent g ≡ true → (k : ℕ) (s : State) → IsTrue (in_range g s) → (clk : ℕ) → clk ≤ 2 ^ 48 → Exclusive g s clk (vertex_at g k).edges
exclusive_vertices g keeps never single k s inside clk early =
    exclusive_edges g never s inside clk early (vertex_at g k).edges (edges_keep g keeps k)
    (slice_index_or-all (λ (v : EventVertex). each_pair (exclusive g) (urgent_conditions v.edges) ≡ true) g.vertices no_vertex k (pair_apart g g.vertices single) refl)
