-- Taking an edge away and making its condition `true` lessen edges; what their conditions give on a valid model.
use Rattle.std.proofs.Common.{◌≡◌, ℕ, ◌≤◌, ◌+◌, Bool, true, false, List, [], ◌∷◌, ◌++◌, length, slice_get, Option, Some, None, is_some, refl, sym, ◌∙◌, ap, arith}
use Rattle.std.specs.Prelude.{codes}
use Rattle.std.specs.List.{remove}
use Rattle.std.specs.Option.{option_map_or}
use Rattle.std.proofs.lemmas.Option.{option_and_then_some}
use Rattle.model_core.specs.EventGraph.{EventGraph, EventVertex, EventEdge, Variable, has_drawn_delay}
use Rattle.model_core.specs.Text.Canonical.{edge_line, edge_word, vertex_name, in_parentheses, expression_texts, timing_text, condition_text}
use Rattle.model_core.specs.Text.Spellable.{Extent, SpellableEdge, expression_openings, values_openings, kind_openings}
use Rattle.model_core.specs.Static.OwnRules.{KeepsEdge, KeepsVertex, parameters_of, KeepsParts}
use Rattle.model_core.specs.Rules.Conditions.{first_failed}
use Rattle.model_core.specs.Rules.BoundsOf.{bounds_of, refuted, proved}
use Rattle.model_core.specs.Rules.PlacedEdges.{edge_at, with_place}
use Rattle.model_core.specs.Rules.Prune.{has_refuted_condition, prune_conditions}
use Rattle.model_core.specs.Rules.Settle.{is_conditional, has_proved_condition, settle_conditions, with_true_condition}
use Rattle.static_laws.proofs.StaticTwins.DeclaredNames.{every_item}
use Rattle.model_core.proofs.PlacesChanged.{length_placed}
use Rattle.edge_pruning.proofs.ListsChanged.{all_remove, any_remove, length-remove-le, all_with_place}
use Rattle.model_core.proofs.NoLongerTexts.{NoLonger, no_longer-after, no_longer-before, no_longer-nothing, no_longer-same}
use Rattle.edge_pruning.proofs.Shorter.{lines_remove, lines_with_place}
use Rattle.edge_pruning.proofs.OneVertexChanged.{Lessens}
use Rattle.round_trip.proofs.VersionsKept.{any-replaced}

-- ---- one edge fewer

pub remove_lessens : (edge : ℕ) → Lessens (λ es. remove es edge)
remove_lessens edge = record {
  no_more_edges = λ es. length-remove-le es edge;
  keeps_rules = λ variables tables takes es keep. all_remove (KeepsEdge variables tables takes) es edge keep;
  spellable = λ x es s. all_remove (SpellableEdge x) es edge s;
  drawn = λ es. any_remove has_drawn_delay es edge;
  lines = λ g es. lines_remove (edge_line g) es edge;
}

-- ---- the condition `true`

keeps_unconditional : (variables : List Variable) (tables : ℕ) (takes : List (List ℕ)) (e : EventEdge) → KeepsEdge variables tables takes e → KeepsEdge variables tables takes (with_true_condition e)
keeps_unconditional variables tables takes e k = record { parameters = k.parameters; target = k.target; carries = k.carries; timing = k.timing; condition = refl }

fewer_openings : (a b c limit : ℕ) → a + (b + c) ≤ limit → a + (b + 0) ≤ limit
fewer_openings a b c limit h = omega arith

spellable_unconditional : (x : Extent) (e : EventEdge) → SpellableEdge x e → SpellableEdge x (with_true_condition e)
spellable_unconditional x e s = record {
  target = s.target;
  values = s.values;
  carries = s.carries;
  kind = s.kind;
  condition = tt;
  few_openings = fewer_openings (values_openings e.values) (kind_openings e.kind) (expression_openings e.condition) _ s.few_openings;
}

unconditional_shorter : (g : EventGraph) (e : EventEdge) → NoLonger (edge_line g (with_true_condition e)) (edge_line g e)
unconditional_shorter g e =
    no_longer-before (codes ";\n") (no_longer-after (edge_word e.kind ++ vertex_name g e.target ++ in_parentheses (expression_texts g e.values) ++ timing_text g e.kind) (no_longer-nothing (condition_text g e.condition)))

same_at_least : (k n : ℕ) → k ≡ n → k ≤ n
same_at_least k n e = omega (arith, e)

pub settle_lessens : (edge : ℕ) → Lessens (with_place with_true_condition edge)
settle_lessens edge = record {
  no_more_edges = λ es. same_at_least _ _ (length_placed with_true_condition edge es);
  keeps_rules = λ variables tables takes es keep. all_with_place (KeepsEdge variables tables takes) with_true_condition (keeps_unconditional variables tables takes) edge es keep;
  spellable = λ x es s. all_with_place (SpellableEdge x) with_true_condition (spellable_unconditional x) edge es s;
  drawn = any-replaced has_drawn_delay with_true_condition (λ e h. h) edge;
  lines = λ g es. lines_with_place (edge_line g) (edge_line g) with_true_condition (unconditional_shorter g) (λ e. no_longer-same _ _ refl) edge es;
}

-- ---- where no condition of a rule fails

pub both_hold : (a b : Bool) → first_failed (a ∷ b ∷ []) ≡ None → (a ≡ true) × (b ≡ true)
both_hold true true none = (refl, refl)
both_hold true false none = cc
both_hold false b none = cc

all_hold : (a b c : Bool) → first_failed (a ∷ b ∷ c ∷ []) ≡ None → (a ≡ true) × (b ≡ true) × (c ≡ true)
all_hold true true true none = (refl, refl, refl)
all_hold true true false none = cc
all_hold true false c none = cc
all_hold false b c none = cc

passes_test : (test : EventEdge → Bool) (o : Option EventEdge) (e : EventEdge) → option_map_or test o false ≡ true → o ≡ Some e → test e ≡ true
passes_test test o e passes is = ap (λ o. option_map_or test o false) (sym is) ∙ passes

pub pruned_is_refuted : (g : EventGraph) (vertex edge : ℕ) → first_failed (prune_conditions g vertex edge) ≡ None → (e : EventEdge) → edge_at g vertex edge ≡ Some e → refuted (bounds_of g e.condition) ≡ true
pruned_is_refuted g vertex edge none e is = passes_test (has_refuted_condition g) (edge_at g vertex edge) e (both_hold (is_some (edge_at g vertex edge)) (option_map_or (has_refuted_condition g) (edge_at g vertex edge) false) none).1 is

pub settled_is_proved : (g : EventGraph) (vertex edge : ℕ) → first_failed (settle_conditions g vertex edge) ≡ None → (e : EventEdge) → edge_at g vertex edge ≡ Some e → proved (bounds_of g e.condition) ≡ true
settled_is_proved g vertex edge none e is =
    passes_test (has_proved_condition g) (edge_at g vertex edge) e (all_hold (is_some (edge_at g vertex edge)) (option_map_or is_conditional (edge_at g vertex edge) false) (option_map_or (has_proved_condition g) (edge_at g vertex edge) false) none).2 is

-- ---- a model that keeps the rules

-- each of its edges keeps them
pub edge_keeps : (g : EventGraph) (vertex edge : ℕ) (e : EventEdge) → KeepsParts g → edge_at g vertex edge ≡ Some e → KeepsEdge g.variables (length g.tables) (parameters_of g) e
edge_keeps g vertex edge e k is =
    let (v, there, is_it) = option_and_then_some (λ (v : EventVertex). slice_get v.edges edge) (slice_get g.vertices vertex) e is (λ v at makes. (v, at, makes)) in
    every_item (KeepsEdge g.variables (length g.tables) (parameters_of g)) v.edges edge e (every_item (KeepsVertex g.variables (length g.tables) (parameters_of g)) g.vertices vertex v k.vertices there).edges is_it
