-- Where two vertices and those that they name take other places, their merge makes the text as much longer as before.
use Rattle.std.proofs.Common.{◌≡◌, ℕ, List, [], ◌∷◌, ◌++◌, map, length, Option, Some, None, refl, ◌∙◌, ap, ap₂}
use Rattle.std.specs.Prelude.{codes}
use Rattle.std.specs.List.{AllByRecursion, flat_map}
use Rattle.std.specs.Option.{option_map, option_map_or}
use Rattle.model_core.specs.EventGraph.{EventGraph, EventVertex, EventEdge}
use Rattle.model_core.specs.Run.Step.{vertex_at}
use Rattle.model_core.specs.Text.Canonical.{vertex_name, edge_word, in_parentheses, expression_texts, timing_text, condition_text, change_line, edge_line}
use Rattle.model_core.specs.Rules.Drop.{edge_renumbered, vertex_renumbered}
use Rattle.model_core.specs.Rules.UrgentEdges.{plain_urgent_edge}
use Rattle.model_core.specs.Rules.Merge.{set_parameters}
use Rattle.run_laws.proofs.MappedVertices.{with_mapped}
use Rattle.merge_rules.specs.PairFits.{target_at_once}
use Rattle.vertex_laws.specs.BodyLines.{body_lines}
use Rattle.merge_rules.specs.Growth.{lines_taken_over, bytes_added, bytes_gone, growth}
use Rattle.model_facts.specs.KnownLengths.{capped}
use Rattle.merge_rules.proofs.PairsBetweenMerges.PairsMoved.{edge-alike}

module _ (g : EventGraph) (f : ℕ → ℕ) (vertices : List EventVertex) (Live : ℕ → Type 0) (names : (x : ℕ) → Live x → vertex_name (with_mapped g f vertices) (f x) ≡ vertex_name g x) where
  abbrev h : EventGraph
  h = with_mapped g f vertices

  abbrev pub Leads : EventVertex → Type 0
  Leads v = AllByRecursion (λ (e : EventEdge). Live e.target) v.edges

  line-alike : (e : EventEdge) → Live e.target → edge_line h (edge_renumbered f e) ≡ edge_line g e
  line-alike e live = ap (λ (name : List ℕ). edge_word e.kind ++ name ++ in_parentheses (expression_texts g e.values) ++ timing_text g e.kind ++ condition_text g e.condition ++ codes ";\n") (names e.target live)

  lines-alike : (es : List EventEdge) → AllByRecursion (λ (e : EventEdge). Live e.target) es → flat_map (edge_line h) (map (edge_renumbered f) es) ≡ flat_map (edge_line g) es
  lines-alike [] live = refl
  lines-alike (e ∷ es) live = ap₂ (λ a b. a ++ b) (line-alike e live.0) (lines-alike es live.1)

  body-alike : (v : EventVertex) → Leads v → body_lines h (vertex_renumbered f v) ≡ body_lines g v
  body-alike v live = ap (λ lines. flat_map (change_line g) v.changes ++ lines) (lines-alike v.edges live)

  taken-alike : (e : EventEdge) → vertex_at h (f e.target) ≡ vertex_renumbered f (vertex_at g e.target) → Leads (vertex_at g e.target) → lines_taken_over h (edge_renumbered f e) ≡ lines_taken_over g e
  taken-alike e placed live =
      ap (λ (v : EventVertex). flat_map (change_line g) (set_parameters v.parameters e.values) ++ body_lines h v) placed
      ∙ ap (λ lines. flat_map (change_line g) (set_parameters (vertex_at g e.target).parameters e.values) ++ lines) (body-alike (vertex_at g e.target) live)

  module _ (first : ℕ) (placed : vertex_at h (f first) ≡ vertex_renumbered f (vertex_at g first))
      (moved : (second : ℕ) → target_at_once (vertex_at g first) ≡ Some second → Live second × (vertex_at h (f second) ≡ vertex_renumbered f (vertex_at g second)) × Leads (vertex_at g second)) where
    edge-moved : plain_urgent_edge (vertex_at h (f first)) ≡ option_map (edge_renumbered f) (plain_urgent_edge (vertex_at g first))
    edge-moved = ap plain_urgent_edge placed ∙ edge-alike f (vertex_at g first)

    added-moved : bytes_added h (f first) ≡ bytes_added g first
    added-moved = ap (λ (o : Option EventEdge). option_map_or (λ (e : EventEdge). length (lines_taken_over h e)) o 0) edge-moved ∙ at (plain_urgent_edge (vertex_at g first)) refl where
      at : (o : Option EventEdge) → plain_urgent_edge (vertex_at g first) ≡ o → option_map_or (λ (e : EventEdge). length (lines_taken_over h e)) (option_map (edge_renumbered f) o) 0 ≡ option_map_or (λ (e : EventEdge). length (lines_taken_over g e)) o 0
      at None is = refl
      at (Some e) is =
          let (live, there, edges) = moved e.target (ap (option_map (λ (e : EventEdge). e.target)) is) in
          ap length (taken-alike e there edges)

    gone-moved : bytes_gone h (f first) ≡ bytes_gone g first
    gone-moved = ap (λ (o : Option EventEdge). option_map_or (λ (e : EventEdge). length (edge_line h e)) o 0) edge-moved ∙ at (plain_urgent_edge (vertex_at g first)) refl where
      at : (o : Option EventEdge) → plain_urgent_edge (vertex_at g first) ≡ o → option_map_or (λ (e : EventEdge). length (edge_line h e)) (option_map (edge_renumbered f) o) 0 ≡ option_map_or (λ (e : EventEdge). length (edge_line g e)) o 0
      at None is = refl
      at (Some e) is = let (live, there, edges) = moved e.target (ap (option_map (λ (e : EventEdge). e.target)) is) in ap length (line-alike e live)

    pub growth-moved : growth h (f first) ≡ growth g first
    growth-moved = λ i. record { added = capped (added-moved i); gone = capped (gone-moved i) }
