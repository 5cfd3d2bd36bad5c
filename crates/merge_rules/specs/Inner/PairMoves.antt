-- What is kept of the vertices, after edges come and go, after two are merged and after one is dropped.
use Rattle.std.specs.Prelude.{ℕ, ◌+◌, ◌-◌, ◌==◌, Bool, false, cond, List, [], ◌∷◌, map, None}
use Rattle.std.specs.Option.{option_map, option_map_or}
use Rattle.model_core.specs.EventGraph.{EventVertex, EventEdge}
use Rattle.model_core.specs.Rules.MarkedPlaces.{place_without}
use Rattle.model_core.specs.Rules.PlacedEdges.{with_place}
use Rattle.merge_rules.specs.PairFits.{target_at_once}
use Rattle.merge_rules.specs.declared.kept_pairs.KeptPair.{KeptPair}
use Rattle.merge_rules.specs.declared.kept_pairs.PairAnswer.TheVariants as answers

-- of a vertex nothing is known but where its plain urgent edge leads
abbrev pub fresh_pair : EventVertex → KeptPair
fresh_pair v = record { target = target_at_once v; answer = answers.Unknown; unseen = None; incoming = 0 }

-- so many more edges lead to it
abbrev pub with_more : ℕ → KeptPair → KeptPair
with_more n p = record p { incoming = p.incoming + n }

-- so many fewer do
abbrev pub with_fewer : ℕ → KeptPair → KeptPair
with_fewer n p = record p { incoming = p.incoming - n }

-- these edges are added
abbrev pub edges_added : List EventEdge → List KeptPair → List KeptPair
edges_added [] pairs = pairs
edges_added (e ∷ es) pairs = edges_added es (with_place (with_more 1) e.target pairs)

-- those of these vertices are
abbrev pub all_edges_added : List EventVertex → List KeptPair → List KeptPair
all_edges_added [] pairs = pairs
all_edges_added (v ∷ vs) pairs = all_edges_added vs (edges_added v.edges pairs)

-- these edges are taken away
abbrev pub edges_taken : List EventEdge → List KeptPair → List KeptPair
edges_taken [] pairs = pairs
edges_taken (e ∷ es) pairs = edges_taken es (with_place (with_fewer 1) e.target pairs)

-- its plain urgent edge leads to this vertex
abbrev pub leads_at_once : ℕ → KeptPair → Bool
leads_at_once first p = option_map_or (λ target. target == first) p.target false

-- what leads at once to a vertex that has changed is looked at again
abbrev pub answer_forgotten : ℕ → KeptPair → KeptPair
answer_forgotten first p = record p { answer = cond (leads_at_once first p) answers.Unknown p.answer }

-- the plain urgent edge is gone, and the vertex does something else
abbrev pub target_removed : KeptPair → KeptPair
target_removed p = record { target = None; answer = answers.Refused; unseen = None; incoming = p.incoming }

-- the vertex at one place takes over what that at another, which has these edges, does
abbrev pub pairs_merged : ℕ → ℕ → List EventEdge → List KeptPair → List KeptPair
pairs_merged first second edges pairs = with_place target_removed first (map (answer_forgotten first) (with_place (with_fewer 1) second (edges_added edges pairs)))

-- the target at its new place
abbrev pub moved_up : ℕ → KeptPair → KeptPair
moved_up gone p = record p { target = option_map (place_without gone) p.target }
