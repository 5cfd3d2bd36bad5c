-- What stays known of a graph where one of its edges is pruned or settled.
use Rattle.std.specs.Prelude.{ℕ, ◌-◌, ◌^◌, Bool, true, ◌&&◌, cond, Option, Some, None, length, slice_get, nat_lt, nat_le}
use Rattle.std.specs.Option.{option_map_or, option_and_then}
use Rattle.model_core.specs.EventGraph.{EventGraph, EventVertex, EventEdge, has_drawn_delay}
use Rattle.model_core.specs.Text.Canonical.{edge_line, condition_text}
use Rattle.model_core.specs.Rules.PlacedEdges.{edge_at, with_place}
use Rattle.range_bounds.specs.LiveEdges.{may_take_any_condition}
use Rattle.model_facts.specs.KnownLengths.{capped}
use Rattle.model_facts.specs.declared.facts.FactsOfModel.{FactsOfModel}

-- the number, where it has 64 bits
abbrev pub in_64_bits : Option ℕ → Option ℕ
in_64_bits number = option_and_then (λ n. cond (nat_lt n (2 ^ 64)) (Some n) None) number

-- so many bytes without these, where both numbers are known to the last byte
abbrev pub bytes_left : Option ℕ → ℕ → Option ℕ
bytes_left bytes gone = option_and_then (λ n. cond (nat_lt n (2 ^ 64 - 1) && nat_le gone n) (Some (n - gone)) None) bytes

-- a graph that is single urgent stays so without some of its parts; of any other one that isn't known
abbrev pub still_single : Option Bool → Option Bool
still_single single = option_and_then (λ is. cond is (Some true) None) single

-- what the vertex at this place does has so many bytes less
abbrev pub facts_after_loss : FactsOfModel → ℕ → ℕ → FactsOfModel
facts_after_loss facts vertex gone = record facts { lines = bytes_left facts.lines gone; bodies = with_place (λ bytes. bytes_left bytes gone) vertex facts.bodies }

-- the edge at this place of the vertex at this place is pruned
abbrev pub facts_after_prune : EventGraph → ℕ → ℕ → FactsOfModel → FactsOfModel
facts_after_prune g vertex edge facts = option_map_or
    (λ (e : EventEdge). record (facts_after_loss facts vertex (capped (length (edge_line g e)))) { version_two = cond (has_drawn_delay e) None facts.version_two; single = still_single facts.single })
    (edge_at g vertex edge) facts

-- where it is settled, a graph stays single urgent if that edge may take any condition
abbrev pub single_settled : EventGraph → ℕ → ℕ → Option Bool → Option Bool
single_settled g vertex edge single = option_and_then (λ (v : EventVertex). cond (may_take_any_condition g v.edges edge) (still_single single) None) (slice_get g.vertices vertex)

abbrev pub facts_after_settle : EventGraph → ℕ → ℕ → FactsOfModel → FactsOfModel
facts_after_settle g vertex edge facts = option_map_or
    (λ (e : EventEdge). record (facts_after_loss facts vertex (capped (length (condition_text g e.condition)))) { single = single_settled g vertex edge facts.single })
    (edge_at g vertex edge) facts
