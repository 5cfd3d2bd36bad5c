-- Which written snapshot is good for a model, the place of one that isn't, and the saved run of a good one.
use Rattle.std.specs.Prelude.{ℕ, suc, ◌+◌, ◌-◌, ◌*◌, ◌^◌, ℤ, pos, neg_ℤ, Bool, false, not, ◌&&◌, ◌==◌, nat_lt, cond, List, [], ◌∷◌, ◌++◌, length, map, replicate, slice_set, Option, Some, None, unwrap_or}
use Rattle.std.specs.Option.{option_map, option_map_or, is_some}
use Rattle.std.specs.List.{flat_map, list_all}
use Rattle.model_core.specs.EventGraph.{EventGraph, Variable}
use Rattle.model_core.specs.Run.State.{cell_count, within, in_ranges}
use Rattle.model_core.specs.Run.Pending.{Entry}
use Rattle.model_core.specs.Run.Step.{vertex_at}
use Rattle.model_core.specs.Text.Lexing.{same_bytes}
use Rattle.model_core.specs.Text.Written.{WrittenNumber, WrittenSigned}
use Rattle.model_core.specs.Text.Numbering as numbering
use Rattle.model_core.specs.Rules.Reduction.{place_of_vertex}
use Rattle.model_core.specs.Saved.SavedRun.{SavedRun}
use Rattle.model_core.specs.Saved.Cells.{cell_variables, variables_watched}
use Rattle.model_core.specs.Text.SnapshotGrammar.{WrittenStream, WrittenValue, WrittenNoted, WrittenCarried, WrittenPending, WrittenSnapshot}

-- ---- numbers

-- what a written number is; one above 2^63 - 1, which has no value, counts as 0
abbrev pub number_or_zero : WrittenNumber → ℕ
number_or_zero n = unwrap_or (numbering.natural n) 0

-- the number is known and at most this
abbrev pub is_at_most : ℕ → WrittenNumber → Bool
is_at_most most n = option_map_or (λ k. nat_lt k (suc most)) (numbering.natural n) false

abbrev pub from_one_to : ℕ → WrittenNumber → Bool
from_one_to most n = option_map_or (λ k. nat_lt 0 k && nat_lt k (suc most)) (numbering.natural n) false

-- ---- values

abbrev pub signed_values : List WrittenSigned → List ℤ
signed_values values = map (λ s. unwrap_or (numbering.signed s) (pos 0)) values

-- each number is below 2^63
abbrev pub all_known : List WrittenSigned → Bool
all_known values = list_all (λ s. is_some (numbering.signed s)) values

-- the values are known, and one for each of these variables, in its range
abbrev pub fit_variables : List Variable → List WrittenSigned → Bool
fit_variables variables values = all_known values && in_ranges variables (signed_values values)

-- a carried value
abbrev pub carried_of : WrittenCarried → ℤ
carried_of c = cond c.negative (neg_ℤ (pos c.exact)) (pos c.exact)

-- it is from -2^63 to 2^63 - 1
abbrev pub is_wide : WrittenCarried → Bool
is_wide c = within (neg_ℤ (pos (2 ^ 63))) (pos (2 ^ 63 - 1)) (carried_of c)

-- ---- parts in order, each with its place and whether it is good

pub record JudgedPart : Type 0 where
  pub good : Bool
  pub at : ℕ

-- streams rise, from this one on
abbrev pub stream_parts : ℕ → List WrittenStream → List JudgedPart
stream_parts least [] = []
stream_parts least (s ∷ streams) =
    record { good = (is_at_most 63 s.stream && not (nat_lt (number_or_zero s.stream) least)) && from_one_to (2 ^ 52) s.words; at = s.at }
    ∷ stream_parts (suc (number_or_zero s.stream)) streams

-- there is one for each variable, in order
abbrev pub value_parts : List Variable → List WrittenValue → List JudgedPart
value_parts variables [] = []
value_parts [] (w ∷ values) = record { good = false; at = w.at } ∷ value_parts [] values
value_parts (v ∷ variables) (w ∷ values) =
    record { good = same_bytes w.variable.name v.name && fit_variables (replicate (cell_count v) v) w.values; at = w.at } ∷ value_parts variables values

abbrev pub noted_parts : EventGraph → Option WrittenNoted → List JudgedPart
noted_parts g None = []
noted_parts g (Some w) = record { good = fit_variables (cell_variables (variables_watched g g.watch)) w.values; at = w.at } ∷ []

-- there is the vertex, which has so many parameters
abbrev pub has_parameters : EventGraph → ℕ → Option ℕ → Bool
has_parameters g count place = option_map_or (λ vertex. count == length (vertex_at g vertex).parameters) place false

abbrev pub pending_part : EventGraph → WrittenPending → JudgedPart
pending_part g w = record {
  good = (is_at_most (2 ^ 63 - 1) w.ticks && is_at_most 255 w.priority) && (has_parameters g (length w.values) (place_of_vertex w.vertex.name g.vertices) && list_all is_wide w.values);
  at = w.at;
}

abbrev pub snapshot_parts : EventGraph → WrittenSnapshot → List JudgedPart
snapshot_parts g w =
    record { good = is_at_most (2 ^ 32 - 1) w.seed && is_at_most (2 ^ 32 - 1) w.seed_rest; at = w.seed_at }
    ∷ record { good = is_at_most (2 ^ 48) w.clock; at = w.clock_at }
    ∷ record { good = is_at_most (2 ^ 40) w.events; at = w.events_at }
    ∷ (stream_parts 0 w.streams ++ value_parts g.variables w.values ++ noted_parts g w.noted ++ map (pending_part g) w.pending
    ++ record { good = not (nat_lt (length w.values) (length g.variables)); at = w.end_at } ∷ [])

abbrev pub first_bad_part : List JudgedPart → Option ℕ
first_bad_part [] = None
first_bad_part (p ∷ parts) = cond p.good (first_bad_part parts) (Some p.at)

-- the place of a snapshot that isn't good: where the first part that breaks a rule begins, or its `end` where a variable has
-- no value
abbrev pub bad_at : EventGraph → WrittenSnapshot → Option ℕ
bad_at g w = first_bad_part (snapshot_parts g w)

-- ---- the saved run of a good one

abbrev pub with_taken : List WrittenStream → List ℕ → List ℕ
with_taken [] taken = taken
with_taken (s ∷ streams) taken = with_taken streams (slice_set taken (number_or_zero s.stream) (number_or_zero s.words))

abbrev pub saved_entry : EventGraph → ℕ → WrittenPending → Entry
saved_entry g clock w = record {
  time = clock + number_or_zero w.ticks;
  priority = number_or_zero w.priority;
  vertex = unwrap_or (place_of_vertex w.vertex.name g.vertices) 0;
  values = map carried_of w.values;
}

abbrev pub saved_run : EventGraph → WrittenSnapshot → SavedRun
saved_run g w = record {
  seed = number_or_zero w.seed * 2 ^ 32 + number_or_zero w.seed_rest;
  clock = number_or_zero w.clock;
  events = number_or_zero w.events;
  taken = with_taken w.streams (replicate 64 0);
  values = flat_map (λ v. signed_values v.values) w.values;
  noted = option_map (λ n. signed_values n.values) w.noted;
  pending = map (saved_entry g (number_or_zero w.clock)) w.pending;
}
