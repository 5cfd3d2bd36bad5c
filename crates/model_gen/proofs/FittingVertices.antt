-- The vertices of a made model keep the static rules, are what a text can write, and have short lines.
use Rattle.std.proofs.Common.{ℕ, ◌*◌, ◌≤◌, ◌<◌, pos, Bool, true, false, ◌==◌, ◌||◌, List, [], ◌∷◌, ◌++◌, length, refl, arith, length-append}
use Rattle.std.specs.Prelude.{codes, decimal}
use Rattle.std.specs.List.{AllByRecursion, IsDistinct, flat_map}
use Rattle.std.proofs.Math.Nat.{suc-mul}
use Rattle.std.proofs.lemmas.Int.{ints}
use Rattle.model_core.specs.declared.model.Kind.TheVariants as kinds
use Rattle.model_core.specs.EventGraph.{EventGraph, EventVertex, StateChange, Set, Draw, Uniform, Add, Binary, Scalar, Number, scalar_location}
use Rattle.model_core.specs.Text.Canonical.{variable_name, change_line, edge_line, vertex_lines}
use Rattle.model_core.specs.Text.Spellable.{extent, SpellableChange, SpellableEdge, SpellableVertex}
use Rattle.model_core.specs.Static.OwnRules.{IsLiteral, KeepsChange, KeepsEdge, KeepsVertex, parameters_of}
use Rattle.model_core.proofs.EachOne.{every-map}
use Rattle.model_gen.specs.Generated.{gap_place, generated_changes, generated_edges, vertex_by}
use Rattle.model_gen.proofs.NumberedNames.{few_digits, made_vertex_named}
use Rattle.model_gen.proofs.FittingEdges.{made_variables, counter_there, gap_there, IsMadeInTurn, made_model, variable_short, FitsEdge, edges_fit, few_made_edges}

pub small_literal : (n : ℕ) → n < 1000 → IsLiteral (pos n)
small_literal n small = record { least = omega (arith, ints); greatest = omega (arith, ints) }

-- ---- lengths of lines, by those of their parts

counting_length : (name one : List ℕ) → length name ≤ 32 → length one ≤ 3 → length (codes "  set " ++ (name ++ [] ++ []) ++ codes " := " ++ ((name ++ codes " " ++ codes "+" ++ codes " " ++ one) ++ []) ++ codes ";\n") ≤ 250
counting_length name one a b = simp length-append (omega arith)

drawing_length : (name stream least greatest : List ℕ) → length name ≤ 32 → length stream ≤ 3 → length least ≤ 3 → length greatest ≤ 3 → length (codes "  draw " ++ (name ++ []) ++ (codes " from " ++ stream ++ (codes " in " ++ least ++ codes ".." ++ greatest)) ++ codes ";\n") ≤ 250
drawing_length name stream least greatest a b c d = simp length-append (omega arith)

vertex_length : (name changes edges : List ℕ) → length name ≤ 32 → length changes ≤ 500 → length edges ≤ 500 → length (codes "vertex " ++ name ++ [] ++ codes " {\n" ++ changes ++ edges ++ codes "}\n") ≤ 2000
vertex_length name changes edges a b c = simp length-append (omega arith)

-- short texts together
pub texts_length : {A : Type 0} (limit : ℕ) (text : A → List ℕ) (xs : List A) → AllByRecursion (λ x. length (text x) ≤ limit) xs → length (flat_map text xs) ≤ length xs * limit
texts_length limit text [] all = omega arith
texts_length limit text (x ∷ xs) all = omega (arith, length-append (text x) (flat_map text xs), all.0, texts_length limit text xs all.1, suc-mul (length xs) limit)

module _ (vertices : ℕ) (few : vertices ≤ 500) (made : ℕ → EventVertex) (turn : IsMadeInTurn made) where
  abbrev g : EventGraph
  g = made_model vertices few made turn

  -- ---- changes

  record FitsChange (c : StateChange) : Type 0 where
    pub keeps : KeepsChange made_variables 0 (parameters_of g) c
    pub spelled : SpellableChange (extent g) c
    pub short : length (change_line g c) ≤ 250

  counting_fits : (x : ℕ) → x < 8 → FitsChange (Set (scalar_location x ∷ []) (Binary Add (Scalar x) (Number (pos 1)) ∷ []))
  counting_fits x below = record {
    keeps = (omega arith, record { kinds = kinds.Range ∷ []; taken = (counter_there x below, tt); given = ((refl, (counter_there x below, refl)), tt) });
    spelled = record { parts = (tt, (record { variable = omega arith; index = tt }, tt), tt, ((omega arith, omega arith), tt)); few_openings = omega arith };
    short = counting_length (variable_name g x) (decimal 1) (variable_short vertices few made turn x) (few_digits 1 (omega arith));
  }

  drawing_fits : FitsChange (Draw (scalar_location gap_place) 54 (Uniform (pos 1) (pos 6)))
  drawing_fits = record {
    keeps = (gap_there, (omega arith, (small_literal 1 (omega arith), small_literal 6 (omega arith), omega (arith, ints), omega (arith, ints))));
    spelled = record { parts = (record { variable = omega arith; index = tt }, (omega arith, (omega arith, omega arith))); few_openings = omega arith };
    short = drawing_length (codes "GAP") (decimal 54) (decimal 1) (decimal 6) (omega arith) (few_digits 54 (omega arith)) (few_digits 1 (omega arith)) (few_digits 6 (omega arith));
  }

  changes_fit : (x : ℕ) (draws : Bool) → x < 8 → AllByRecursion FitsChange (generated_changes x draws)
  changes_fit x true below = (counting_fits x below, (drawing_fits, tt))
  changes_fit x false below = (counting_fits x below, tt)

  few_made_changes : (x : ℕ) (draws : Bool) → length (generated_changes x draws) ≤ 2
  few_made_changes x true = omega arith
  few_made_changes x false = omega arith

  -- ---- vertices

  pub record FitsVertex (v : EventVertex) : Type 0 where
    pub keeps : KeepsVertex made_variables 0 (parameters_of g) v
    pub spelled : SpellableVertex (extent g) v
    pub short : length (vertex_lines g v) ≤ 2000

  pub made_vertex_fits : (i x form z : ℕ) → i < vertices → x < 8 → z < vertices → FitsVertex (vertex_by vertices i x form z)
  unfolding IsDistinct
  made_vertex_fits i x form z place counted target =
      let draws = (form == 0) || (form == 3) in
      let changes = changes_fit x draws counted in
      let edges = edges_fit vertices few made turn i z place target form in
      let two_changes = few_made_changes x draws in
      let two_edges = few_made_edges vertices few made turn i z place target form in
      record {
        keeps = record {
          name = omega (arith, few_digits i (omega arith));
          parameters = tt;
          each_once = tt;
          few_parameters = omega arith;
          changes = every-map FitsChange (KeepsChange made_variables 0 (parameters_of g)) (λ c f. f.keeps) (generated_changes x draws) changes;
          few_changes = omega arith;
          edges = every-map (FitsEdge vertices few made turn) (KeepsEdge made_variables 0 (parameters_of g)) (λ e f. f.keeps) (generated_edges vertices i form z) edges;
          few_edges = omega arith;
        };
        spelled = record {
          name = made_vertex_named i (omega arith);
          parameters = tt;
          changes = every-map FitsChange (SpellableChange (extent g)) (λ c f. f.spelled) (generated_changes x draws) changes;
          edges = every-map (FitsEdge vertices few made turn) (SpellableEdge (extent g)) (λ e f. f.spelled) (generated_edges vertices i form z) edges;
        };
        short = vertex_length (codes "E" ++ decimal i) (flat_map (change_line g) (generated_changes x draws)) (flat_map (edge_line g) (generated_edges vertices i form z)) (omega (arith, few_digits i (omega arith)))
            (omega (arith, texts_length 250 (change_line g) (generated_changes x draws) (every-map FitsChange (λ c. length (change_line g c) ≤ 250) (λ c f. f.short) (generated_changes x draws) changes)))
            (omega (arith, texts_length 250 (edge_line g) (generated_edges vertices i form z) (every-map (FitsEdge vertices few made turn) (λ e. length (edge_line g e) ≤ 250) (λ e f. f.short) (generated_edges vertices i form z) edges)));
      }
