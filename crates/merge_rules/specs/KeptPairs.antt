-- What is kept of each vertex, as the first of two that may be merged, and when that is right of a graph.
use Rattle.std.specs.Prelude.{◌≡◌, ℕ, ◌+◌, ◌<◌, ◌==◌, Bool, cond, List, [], ◌∷◌, length, Option, Some, None, slice_index_or}
use Rattle.std.specs.List.{list_any}
use Rattle.model_core.specs.EventGraph.{EventGraph, EventVertex, EventEdge}
use Rattle.model_core.specs.Run.Step.{vertex_at}
use Rattle.model_core.specs.Rules.Merge.{leads_to}
use Rattle.merge_rules.specs.PairFits.{target_at_once, acts_unseen}
use Rattle.merge_rules.specs.Growth.{pair_growth}
use Rattle.merge_rules.specs.declared.growth.Growth.{Growth}
use Rattle.merge_rules.specs.declared.kept_pairs.KeptPair.{KeptPair}
use Rattle.merge_rules.specs.declared.kept_pairs.PairAnswer.{PairAnswer}
use Rattle.merge_rules.specs.declared.kept_pairs.PairAnswer.TheVariants as answers

-- ---- edges that lead to a place

-- how many of these edges do
abbrev pub edges_leading : List EventEdge → ℕ → ℕ
edges_leading [] k = 0
edges_leading (e ∷ es) k = cond (e.target == k) 1 0 + edges_leading es k

-- how many edges of these vertices do
abbrev pub edges_to : List EventVertex → ℕ → ℕ
edges_to [] k = 0
edges_to (v ∷ vs) k = edges_leading v.edges k + edges_to vs k

-- whether some edge of the graph does
abbrev pub has_incoming : EventGraph → ℕ → Bool
has_incoming g k = list_any (λ (v : EventVertex). list_any (leads_to k) v.edges) g.vertices

-- ---- what is right of a graph

-- the answer, where the two were looked at, says rightly whether the two fit, and where they do by how much their merge makes the text longer
abbrev pub FitIsRight : PairAnswer → Option Growth → Type 0
FitIsRight answers.Unknown growth = Unit {0}
FitIsRight answers.Refused growth = growth ≡ None
FitIsRight (answers.Fits kept) growth = growth ≡ Some kept

-- the answer, where there is one, says rightly whether this vertex acts unseen
abbrev pub UnseenIsRight : Option Bool → EventGraph → EventVertex → Type 0
UnseenIsRight (Some unseen) g v = unseen ≡ acts_unseen g v
UnseenIsRight None g v = Unit {0}

-- what is kept of the vertex at this place is right
pub record PairIsRight (g : EventGraph) (k : ℕ) (p : KeptPair) : Type 0 where
  pub target : p.target ≡ target_at_once (vertex_at g k)
  pub answer : FitIsRight p.answer (pair_growth g k)
  pub unseen : UnseenIsRight p.unseen g (vertex_at g k)
  pub incoming : p.incoming ≡ edges_to g.vertices k

-- what a missing place has
abbrev pub no_pair : KeptPair
no_pair = record { target = None; answer = answers.Unknown; unseen = None; incoming = 0 }

-- what is kept of each vertex is right
pub record PairsAreRight (g : EventGraph) (pairs : List KeptPair) : Type 0 where
  pub long : length pairs ≡ length g.vertices
  pub each : (k : ℕ) → k < length g.vertices → PairIsRight g k (slice_index_or pairs k no_pair)
