-- A merge whose second vertex gives away what it does, where the next application drops that vertex.
use Rattle.std.specs.Prelude.{◌≡◌, ℕ, Bool, true, false, List, [], ◌∷◌, length, Some, None}
use Rattle.model_core.specs.EventGraph.{EventGraph}
use Rattle.model_core.specs.Rules.Conditions.{first_failed}
use Rattle.model_core.specs.Rules.Merge.{merge_conditions}
use Rattle.model_core.specs.Rules.Reduction.{RuleApplication, Drop, Merge, two_vertices_named, applied, first_bad}
use Rattle.model_core.specs.Rules.Verdict.{graph_reached}
use Rattle.merge_rules.specs.Hollowed.{merged_leaving}
use Rattle.merge_rules.specs.declared.taking_over.SecondVertex.{SecondVertex}
use Rattle.model_read.specs.NamesPlaced.{names_of_vertices}

-- the first of these drops the vertex of this name alone
abbrev pub BeginsWithDrop : List ℕ → List RuleApplication → Type 0
BeginsWithDrop name later = (rest : List RuleApplication) × (later ≡ Drop (name ∷ []) ∷ rest)

-- these applications have one result on both graphs, and the two have the same names and as many variables
pub record HaveOneResult (later : List RuleApplication) (g h : EventGraph) : Type 0 where
  pub bad : first_bad g later ≡ first_bad h later
  pub reached : graph_reached g later ≡ graph_reached h later
  pub names : names_of_vertices g.vertices ≡ names_of_vertices h.vertices
  pub variables : length g.variables ≡ length h.variables

-- an application can be made, and the graph h serves for its result, or it can't
abbrev pub MadeInEffect : List RuleApplication → EventGraph → RuleApplication → Bool → EventGraph → Type 0
MadeInEffect later g a true h = (next : EventGraph) × (applied g a ≡ Some next) × HaveOneResult later next h
MadeInEffect later g a false h = applied g a ≡ None

-- a merge can be made, and h is its result with this left of the second vertex, or it can't
abbrev pub MergeIsMade : SecondVertex → EventGraph → List ℕ → List ℕ → Bool → EventGraph → Type 0
MergeIsMade second g name target true h = (first last : ℕ) × (two_vertices_named g name target ≡ Some (first, last)) × (first_failed (merge_conditions g first last) ≡ None) × (h ≡ merged_leaving second g first last)
MergeIsMade second g name target false h = applied g (Merge name target) ≡ None
