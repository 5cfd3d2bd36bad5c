-- The model that a number makes keeps the static rules, and a text can write it.
use Rattle.std.proofs.Common.{◌≡◌, ℕ, zero, suc, ◌+◌, ◌*◌, ◌≤◌, ◌<◌, Bool, true, false, List, [], ◌∷◌, ◌++◌, map, length, refl, sym, ap₂, subst, arith, length-append}
use Rattle.std.specs.Prelude.{codes, decimal}
use Rattle.std.specs.List.{AllByRecursion, IsDistinct, flat_map, range_with_len}
use Rattle.std.proofs.lemmas.Int.{ints}
use Rattle.std.proofs.lemmas.List.FromFn.{length-map-range_with_len}
use Rattle.sig_base.specs.declared.limits.TheConstants.{TEXT_MAX}
use Rattle.sig_base.specs.Stream.{word}
use Rattle.bound_laws.proofs.Soundness.DrawnValues.{word_small, share_small}
use Rattle.model_core.specs.EventGraph.{EventGraph, EventVertex, Variable}
use Rattle.model_core.specs.Text.Lexing.{same_bytes}
use Rattle.model_core.specs.Text.Canonical.{canonical, variable_line, vertex_lines, version_line, watch_line, variable_name}
use Rattle.model_core.specs.Text.VersionNeeded.{needs_version_two}
use Rattle.model_core.specs.Text.Spellable.{IsNonEmpty, SpellableVariable, SpellableVertex, IsSpellable, extent}
use Rattle.model_core.specs.Static.OwnRules.{KeepsVariable, KeepsVertex, KeepsParts, KeepsStaticRules, parameters_of}
use Rattle.model_core.proofs.EachOne.{every-map, every-append}
use Rattle.model_gen.specs.Generated.{counter, gap, picked_below, generated_vertex, generated}
use Rattle.model_gen.proofs.MadeInTurn.{each_made}
use Rattle.model_gen.proofs.NumberedNames.{few_digits, made_counter_named, digits_apart, numbered_apart, distinct_joined}
use Rattle.model_gen.proofs.FittingEdges.{made_variables, IsMadeInTurn, made_model, variable_short}
use Rattle.model_gen.proofs.FittingVertices.{small_literal, texts_length, FitsVertex, made_vertex_fits}

-- ---- variables

counter_keeps : (n : ℕ) → n < 1000 → KeepsVariable (counter n)
counter_keeps n small = record {
  name = omega (arith, few_digits n small);
  size = omega arith;
  range = record { least = small_literal 0 (omega arith); greatest = small_literal 99 (omega arith); start = small_literal 0 (omega arith); ordered = omega (arith, ints) };
  from_lo = omega (arith, ints);
  to_hi = omega (arith, ints);
}

gap_keeps : KeepsVariable gap
gap_keeps = record {
  name = omega arith;
  size = omega arith;
  range = record { least = small_literal 1 (omega arith); greatest = small_literal 6 (omega arith); start = small_literal 1 (omega arith); ordered = omega (arith, ints) };
  from_lo = omega (arith, ints);
  to_hi = omega (arith, ints);
}

counter_spelled : (n : ℕ) → n < 1000 → SpellableVariable (counter n)
counter_spelled n small = record { name = made_counter_named n small; size = omega arith; range = (omega arith, omega arith); initial = omega arith }

gap_spelled : SpellableVariable gap
gap_spelled = record { name = record { begins = refl; all = (refl, (refl, (refl, tt))); free = refl }; size = omega arith; range = (omega arith, omega arith); initial = omega arith }

variables_all : (P : Variable → Type 0) → ((n : ℕ) → n < 1000 → P (counter n)) → P gap → AllByRecursion P made_variables
variables_all P each last = every-append P (map counter (range_with_len 0 8)) gap (each_made P counter 0 8 1000 (omega arith) (λ i from below. each i below)) last

-- ---- names: each is declared once

counters_apart : IsDistinct same_bytes (map (λ (n : ℕ). codes "C" ++ decimal n) (range_with_len 0 8))
counters_apart = numbered_apart (λ n. codes "C" ++ decimal n) digits_apart 0 8 (omega arith)

variable_names_apart : IsDistinct same_bytes (map (λ (v : Variable). v.name) made_variables)
unfolding IsDistinct
variable_names_apart = distinct_joined same_bytes (map (λ (n : ℕ). codes "C" ++ decimal n) (range_with_len 0 8)) (codes "GAP" ∷ []) counters_apart (tt, tt)
    (each_made (λ x. AllByRecursion (λ y. same_bytes x y ≡ false) (codes "GAP" ∷ [])) (λ (n : ℕ). codes "C" ++ decimal n) 0 8 8 (omega arith) (λ i from below. (refl, tt)))

vertex_names_apart : (vertices : ℕ) → vertices ≤ 1000 → IsDistinct same_bytes (map (λ (n : ℕ). codes "E" ++ decimal n) (range_with_len 0 vertices))
vertex_names_apart vertices few = numbered_apart (λ n. codes "E" ++ decimal n) digits_apart 0 vertices (omega arith)

-- a variable's name has another first letter than a vertex's
apart_from_vertices : (name : List ℕ) → ((n : ℕ) → same_bytes name (codes "E" ++ decimal n) ≡ false) → (vertices : ℕ) → AllByRecursion (λ y. same_bytes name y ≡ false) (map (λ (n : ℕ). codes "E" ++ decimal n) (range_with_len 0 vertices))
apart_from_vertices name apart vertices = each_made (λ y. same_bytes name y ≡ false) (λ n. codes "E" ++ decimal n) 0 vertices vertices (omega arith) (λ i from below. apart i)

all_apart : (vertices : ℕ) → vertices ≤ 1000 → IsDistinct same_bytes (map (λ (v : Variable). v.name) made_variables ++ map (λ (n : ℕ). codes "E" ++ decimal n) (range_with_len 0 vertices))
all_apart vertices few =
    distinct_joined same_bytes (map (λ (v : Variable). v.name) made_variables) (map (λ (n : ℕ). codes "E" ++ decimal n) (range_with_len 0 vertices)) variable_names_apart (vertex_names_apart vertices few)
    (every-append (λ x. AllByRecursion (λ y. same_bytes x y ≡ false) (map (λ (n : ℕ). codes "E" ++ decimal n) (range_with_len 0 vertices))) (map (λ (n : ℕ). codes "C" ++ decimal n) (range_with_len 0 8)) (codes "GAP")
    (each_made (λ x. AllByRecursion (λ y. same_bytes x y ≡ false) (map (λ (n : ℕ). codes "E" ++ decimal n) (range_with_len 0 vertices))) (λ (n : ℕ). codes "C" ++ decimal n) 0 8 8 (omega arith)
    (λ i from below. apart_from_vertices (codes "C" ++ decimal i) (λ n. refl) vertices))
    (apart_from_vertices (codes "GAP") (λ n. refl) vertices))

-- ---- lengths of lines, by those of their parts

variable_length : (name lo hi clip initial : List ℕ) → length name ≤ 32 → length lo ≤ 3 → length hi ≤ 3 → length clip ≤ 5 → length initial ≤ 3 → length (codes "var " ++ name ++ [] ++ codes " : " ++ (lo ++ codes ".." ++ hi ++ clip ++ codes " = " ++ initial) ++ codes ";\n") ≤ 250
variable_length name lo hi clip initial a b c d e = simp length-append (omega arith)

watch_length : (first second : List ℕ) → length first ≤ 32 → length second ≤ 32 → length (codes "watch " ++ (first ++ ((codes ", " ++ second) ++ [])) ++ codes ";\n") ≤ 250
watch_length first second a b = simp length-append (omega arith)

version_length : (needed : Bool) → length (version_line needed) ≤ 11
version_length true = omega arith
version_length false = omega arith

model_length : (version variables watch vertices : List ℕ) → length version ≤ 11 → length variables ≤ 9 * 250 → length watch ≤ 250 → length vertices ≤ 500 * 2000
    → length (version ++ codes "model " ++ codes "TRIAL" ++ codes ";\n" ++ variables ++ [] ++ watch ++ vertices ++ codes "end\n") ≤ TEXT_MAX
model_length version variables watch vertices a b c d = simp length-append (omega arith)

counter_line : (n : ℕ) → n < 1000 → length (variable_line (counter n)) ≤ 250
counter_line n small = variable_length (counter n).name (decimal 0) (decimal 99) (codes " clip") (decimal 0) (omega (arith, few_digits n small)) (few_digits 0 (omega arith)) (few_digits 99 (omega arith)) (omega arith) (few_digits 0 (omega arith))

gap_line : length (variable_line gap) ≤ 250
gap_line = variable_length gap.name (decimal 1) (decimal 6) [] (decimal 1) (omega arith) (few_digits 1 (omega arith)) (few_digits 6 (omega arith)) (omega arith) (few_digits 1 (omega arith))

-- ---- the model

module _ (vertices : ℕ) (some : 1 ≤ vertices) (few : vertices ≤ 500) (made : ℕ → EventVertex) (turn : IsMadeInTurn made) (fits : (i : ℕ) → i < vertices → FitsVertex vertices few made turn (made i)) where
  abbrev g : EventGraph
  g = made_model vertices few made turn

  names_from : (a n : ℕ) → map (λ (v : EventVertex). v.name) (map made (range_with_len a n)) ≡ map (λ (i : ℕ). codes "E" ++ decimal i) (range_with_len a n)
  names_from a zero = refl
  names_from a (suc n) = ap₂ (λ x xs. x ∷ xs) (turn.named a) (names_from (a + 1) n)

  all_made_fit : AllByRecursion (FitsVertex vertices few made turn) g.vertices
  all_made_fit = each_made (FitsVertex vertices few made turn) made 0 vertices vertices (omega arith) (λ i from below. fits i below)

  made_parts_kept : KeepsParts g
  unfolding IsDistinct
  made_parts_kept = record {
    name = omega arith;
    declared_once = subst (λ ns. IsDistinct same_bytes (map (λ (v : Variable). v.name) made_variables ++ ns)) (sym (names_from 0 vertices)) (all_apart vertices (omega arith));
    variables = variables_all KeepsVariable counter_keeps gap_keeps;
    few_variables = omega arith;
    tables = tt;
    few_tables = omega arith;
    watch = (omega arith, (omega arith, tt));
    watched_once = ((refl, tt), (tt, tt));
    vertices = every-map (FitsVertex vertices few made turn) (KeepsVertex made_variables 0 (parameters_of g)) (λ v f. f.keeps) g.vertices all_made_fit;
    few_vertices = omega (arith, length-map-range_with_len made 0 vertices);
  }

  short_text : length (canonical g) ≤ TEXT_MAX
  short_text = model_length (version_line (needs_version_two g)) (flat_map variable_line g.variables) (watch_line g) (flat_map (vertex_lines g) g.vertices) (version_length (needs_version_two g))
      (texts_length 250 variable_line g.variables (variables_all (λ v. length (variable_line v) ≤ 250) counter_line gap_line))
      (watch_length (variable_name g 0) (variable_name g 1) (variable_short vertices few made turn 0) (variable_short vertices few made turn 1))
      (omega (arith, length-map-range_with_len made 0 vertices, texts_length 2000 (vertex_lines g) g.vertices (every-map (FitsVertex vertices few made turn) (λ v. length (vertex_lines g v) ≤ 2000) (λ v f. f.short) g.vertices all_made_fit)))

  pub rules_kept : KeepsStaticRules g
  rules_kept = record { parts = made_parts_kept; few_cells = omega arith; short = short_text }

  has_one_made : (n : ℕ) → 1 ≤ n → IsNonEmpty (map made (range_with_len 0 n))
  has_one_made zero none = absurd (omega arith)
  has_one_made (suc n) more = tt

  pub text_writes : IsSpellable g
  text_writes = record {
    name = record { begins = refl; all = (refl, (refl, (refl, (refl, (refl, tt))))); free = refl };
    variables = variables_all SpellableVariable counter_spelled gap_spelled;
    tables = tt;
    watch = (omega arith, (omega arith, tt));
    has_vertex = has_one_made vertices some;
    vertices = every-map (FitsVertex vertices few made turn) (SpellableVertex (extent g)) (λ v f. f.spelled) g.vertices all_made_fit;
  }

-- ---- the model that a number makes

module _ (seed vertices : ℕ) (some : 1 ≤ vertices) (few : vertices ≤ 500) where
  picked_small : (place k : ℕ) → 0 < k → picked_below seed place k < k
  picked_small place k more = share_small (word seed 54 place) k (word_small seed 54 place) more

  made_in_turn : IsMadeInTurn (generated_vertex seed vertices)
  made_in_turn = record { named = λ i. refl; bare = λ i. refl }

  all_fitting : (i : ℕ) → i < vertices → FitsVertex vertices few (generated_vertex seed vertices) made_in_turn (generated_vertex seed vertices i)
  all_fitting i place =
      made_vertex_fits vertices few (generated_vertex seed vertices) made_in_turn i (picked_below seed (3 * i) 8) (picked_below seed (3 * i + 1) 4) (picked_below seed (3 * i + 2) vertices) place
      (picked_small (3 * i) 8 (omega arith)) (picked_small (3 * i + 2) vertices (omega arith))

  pub generated_keeps_rules : KeepsStaticRules (generated seed vertices)
  generated_keeps_rules = rules_kept vertices some few (generated_vertex seed vertices) made_in_turn all_fitting

  pub generated_is_written : IsSpellable (generated seed vertices)
  generated_is_written = text_writes vertices some few (generated_vertex seed vertices) made_in_turn all_fitting
