-- A snapshot without a bad part means a good saved run.
use Rattle.std.proofs.Common.{◌≡◌, ◌∙◌, ◌&&◌, ◌+◌, ◌-◌, ◌^◌, ◌<◌, ◌≤◌, ℕ, zero, suc, ℤ, pos, neg_ℤ, Bool, true, false, not, cond, nat_lt, List, [], ◌∷◌, ◌++◌, length, map, Option, Some, None, refl, ap, subst, arith}
use Rattle.std.specs.Prelude.{IsTrue, IfSome, replicate, slice_set, unwrap_or}
use Rattle.std.specs.List.{AllByRecursion, flat_map, list_all}
use Rattle.std.specs.Option.{option_map, option_map_or}
use Rattle.std.proofs.lemmas.Bool.Decides.{nat_tests}
use Rattle.std.proofs.lemmas.List.{length-map}
use Rattle.sig_base.specs.declared.limits.TheConstants.{STOP_MAX, EVENTS_MAX}
use Rattle.sig_base.proofs.Tests.{true-int_le}
use Rattle.model_core.specs.Run.State.{cell_count, within, in_ranges}
use Rattle.model_core.specs.Run.Step.{vertex_at}
use Rattle.model_core.specs.Text.Numbering as numbering
use Rattle.model_core.specs.Text.SnapshotGrammar.{WrittenStream, WrittenValue, WrittenNoted, WrittenCarried, WrittenPending, WrittenSnapshot}
use Rattle.model_core.specs.Saved.Cells.{cell_variables, variables_watched}
use Rattle.model_core.specs.Saved.GoodSnapshots.{number_or_zero, is_at_most, from_one_to, signed_values, all_known, fit_variables, carried_of, is_wide, JudgedPart, stream_parts, value_parts, noted_parts, has_parameters, pending_part, snapshot_parts, first_bad_part, bad_at, with_taken, saved_entry, saved_run}
use Rattle.model_core.proofs.BothTrue.{and_first, and_second}
use Rattle.model_core.proofs.RangesTogether.{in_ranges-append}
use Rattle.job_answers.specs.SavedReading.{ReadsSaved}
use Rattle.job_answers.proofs.ModelTerms.{EventGraph, EventVertex, Variable, same_bytes, WrittenNumber, place_of_vertex, SavedRun, IsWide, IsGoodEntry, IsGood}

-- ---- parts

abbrev pub AllGood : List JudgedPart → Type 0
AllGood parts = AllByRecursion (λ (p : JudgedPart). p.good ≡ true) parts

none_bad : (parts : List JudgedPart) → first_bad_part parts ≡ None → AllGood parts
none_bad [] none = tt
none_bad (p ∷ parts) none = by p.good refl (none_bad parts) none
  where
    by : (b : Bool) → p.good ≡ b → (first_bad_part parts ≡ None → AllGood parts) → cond b (first_bad_part parts) (Some p.at) ≡ None → (p.good ≡ true) × AllGood parts
    by true good rest none = (good, rest none)
    by false bad rest none = absurd cc

in_two : (xs ys : List JudgedPart) → AllGood (xs ++ ys) → AllGood xs × AllGood ys
in_two [] ys all = (tt, all)
in_two (x ∷ xs) ys all = let rest = in_two xs ys all.1 in ((all.0, rest.0), rest.1)

-- ---- numbers

at_most : (most : ℕ) (n : WrittenNumber) → is_at_most most n ≡ true → number_or_zero n ≤ most
at_most most n is = by (numbering.natural n) is
  where
    by : (o : Option ℕ) → option_map_or (λ k. nat_lt k (suc most)) o false ≡ true → unwrap_or o 0 ≤ most
    by (Some k) e = let less : k < suc most = grind (arith, nat_tests, e) in omega (arith, less)
    by None e = absurd cc

one_to : (most : ℕ) (n : WrittenNumber) → from_one_to most n ≡ true → number_or_zero n ≤ most
one_to most n is = by (numbering.natural n) is
  where
    by : (o : Option ℕ) → option_map_or (λ k. nat_lt 0 k && nat_lt k (suc most)) o false ≡ true → unwrap_or o 0 ≤ most
    by (Some k) e = let less : k < suc most = (let f = and_second (nat_lt 0 k) (nat_lt k (suc most)) e in grind (arith, nat_tests, f)) in omega (arith, less)
    by None e = absurd cc

-- ---- streams

abbrev WordsWithin : List ℕ → Type 0
WordsWithin taken = AllByRecursion (λ n. n ≤ 2 ^ 52) taken

with_one : (taken : List ℕ) (i n : ℕ) → n ≤ 2 ^ 52 → WordsWithin taken → (length (slice_set taken i n) ≡ length taken) × WordsWithin (slice_set taken i n)
with_one [] i n fits all = (refl, all)
with_one (k ∷ taken) zero n fits all = (refl, (fits, all.1))
with_one (k ∷ taken) (suc i) n fits all = let rest = with_one taken i n fits all.1 in (ap suc rest.0, (all.0, rest.1))

with_all : (least : ℕ) (streams : List WrittenStream) (taken : List ℕ) → AllGood (stream_parts least streams) → WordsWithin taken → (length (with_taken streams taken) ≡ length taken) × WordsWithin (with_taken streams taken)
with_all least [] taken good fits = (refl, fits)
with_all least (s ∷ streams) taken good fits =
    let words = one_to (2 ^ 52) s.words (and_second (is_at_most 63 s.stream && not (nat_lt (number_or_zero s.stream) least)) (from_one_to (2 ^ 52) s.words) good.0) in
    let one = with_one taken (number_or_zero s.stream) (number_or_zero s.words) words fits in
    let rest = with_all (suc (number_or_zero s.stream)) streams (slice_set taken (number_or_zero s.stream) (number_or_zero s.words)) good.1 one.1 in
    (rest.0 ∙ one.0, rest.1)

none_taken : (n : ℕ) → WordsWithin (replicate n 0)
none_taken zero = tt
none_taken (suc n) = (omega arith, none_taken n)

-- ---- values

values_fit : (variables : List Variable) (values : List WrittenValue) → AllGood (value_parts variables values) → length variables ≤ length values
    → in_ranges (cell_variables variables) (flat_map (λ (v : WrittenValue). signed_values v.values) values) ≡ true
values_fit [] [] good long = refl
values_fit [] (w ∷ values) good long = absurd (let wrong : false ≡ true = good.0 in cc)
values_fit (v ∷ variables) [] good long = absurd (omega (arith, long))
values_fit (v ∷ variables) (w ∷ values) good long =
    let fits = and_second (same_bytes w.variable.name v.name) (fit_variables (replicate (cell_count v) v) w.values) good.0 in
    in_ranges-append (replicate (cell_count v) v) (cell_variables variables) (signed_values w.values) (flat_map (λ (v : WrittenValue). signed_values v.values) values)
    (and_second (all_known w.values) (in_ranges (replicate (cell_count v) v) (signed_values w.values)) fits) (values_fit variables values good.1 (omega (arith, long)))

noted_fit : (g : EventGraph) (noted : Option WrittenNoted) → AllGood (noted_parts g noted)
    → IfSome (option_map (λ (n : WrittenNoted). signed_values n.values) noted) (λ values. IsTrue (in_ranges (cell_variables (variables_watched g g.watch)) values))
noted_fit g None good = tt
noted_fit g (Some n) good = and_second (all_known n.values) (in_ranges (cell_variables (variables_watched g g.watch)) (signed_values n.values)) good.0

-- ---- pending events

wide_so : (x : ℤ) → within (neg_ℤ (pos (2 ^ 63))) (pos (2 ^ 63 - 1)) x ≡ true → IsWide x
wide_so x e = record { least = true-int_le _ _ (and_first _ _ e); greatest = true-int_le _ _ (and_second _ _ e) }

all_wide : (values : List WrittenCarried) → list_all is_wide values ≡ true → AllByRecursion IsWide (map carried_of values)
all_wide [] all = tt
all_wide (c ∷ values) all = (wide_so (carried_of c) (and_first (is_wide c) (list_all is_wide values) all), all_wide values (and_second (is_wide c) (list_all is_wide values) all))

place_inside : (name : List ℕ) (vertices : List EventVertex) → IfSome (place_of_vertex name vertices) (λ k. k < length vertices)
place_inside name [] = tt
place_inside name (v ∷ vertices) = by (same_bytes v.name name) (place_of_vertex name vertices) (place_inside name vertices)
  where
    by : (b : Bool) (o : Option ℕ) → IfSome o (λ k. k < length vertices) → IfSome (cond b (Some 0) (option_map (λ k. k + 1) o)) (λ k. k < suc (length vertices))
    by true o h = omega arith
    by false None h = tt
    by false (Some k) h = omega (arith, h)

placed : (g : EventGraph) (count : ℕ) (o : Option ℕ) → IfSome o (λ k. k < length g.vertices) → has_parameters g count o ≡ true
    → (unwrap_or o 0 < length g.vertices) × (count ≡ length (vertex_at g (unwrap_or o 0)).parameters)
placed g count (Some k) inside has = (inside, grind (arith, nat_tests, has))
placed g count None inside has = absurd cc

entry_good : (g : EventGraph) (clock : ℕ) (w : WrittenPending) → (pending_part g w).good ≡ true → IsGoodEntry g clock (saved_entry g clock w)
entry_good g clock w good =
    let vertex = place_of_vertex w.vertex.name g.vertices in
    let front = and_first (is_at_most (2 ^ 63 - 1) w.ticks && is_at_most 255 w.priority) (has_parameters g (length w.values) vertex && list_all is_wide w.values) good in
    let behind = and_second (is_at_most (2 ^ 63 - 1) w.ticks && is_at_most 255 w.priority) (has_parameters g (length w.values) vertex && list_all is_wide w.values) good in
    let ticks = at_most (2 ^ 63 - 1) w.ticks (and_first (is_at_most (2 ^ 63 - 1) w.ticks) (is_at_most 255 w.priority) front) in
    let there = placed g (length w.values) vertex (place_inside w.vertex.name g.vertices) (and_first (has_parameters g (length w.values) vertex) (list_all is_wide w.values) behind) in
    record {
      from_now = omega arith;
      near = omega (arith, ticks);
      priority = at_most 255 w.priority (and_second (is_at_most (2 ^ 63 - 1) w.ticks) (is_at_most 255 w.priority) front);
      vertex = there.0;
      matched = length-map w.values carried_of ∙ there.1;
      wide = all_wide w.values (and_second (has_parameters g (length w.values) vertex) (list_all is_wide w.values) behind);
    }

entries_good : (g : EventGraph) (clock : ℕ) (pending : List WrittenPending) → AllGood (map (pending_part g) pending) → AllByRecursion (IsGoodEntry g clock) (map (saved_entry g clock) pending)
entries_good g clock [] good = tt
entries_good g clock (w ∷ pending) good = (entry_good g clock w good.0, entries_good g clock pending good.1)

-- ---- the snapshot

enough_values : (n m : ℕ) → not (nat_lt n m) ≡ true → m ≤ n
enough_values n m e = by (nat_lt n m) refl e
  where
    by : (b : Bool) → nat_lt n m ≡ b → not b ≡ true → m ≤ n
    by false f e = grind (arith, nat_tests, f)
    by true f e = absurd cc

-- each part is good
pub record GoodParts (g : EventGraph) (w : WrittenSnapshot) : Type 0 where
  pub seed : is_at_most (2 ^ 32 - 1) w.seed ≡ true
  pub seed_rest : is_at_most (2 ^ 32 - 1) w.seed_rest ≡ true
  pub clock : is_at_most STOP_MAX w.clock ≡ true
  pub events : is_at_most EVENTS_MAX w.events ≡ true
  pub streams : AllGood (stream_parts 0 w.streams)
  pub values : AllGood (value_parts g.variables w.values)
  pub noted : AllGood (noted_parts g w.noted)
  pub pending : AllGood (map (pending_part g) w.pending)
  pub enough : length g.variables ≤ length w.values

pub good_parts : (g : EventGraph) (w : WrittenSnapshot) → bad_at g w ≡ None → GoodParts g w
good_parts g w none =
    let parts = none_bad (snapshot_parts g w) none in
    let streams = stream_parts 0 w.streams in
    let values = value_parts g.variables w.values in
    let noted = noted_parts g w.noted in
    let pending = map (pending_part g) w.pending in
    let last : List JudgedPart = record { good = not (nat_lt (length w.values) (length g.variables)); at = w.end_at } ∷ [] in
    let all_pending = in_two (streams ++ values ++ noted ++ pending) last parts.1.1.1 in
    let all_noted = in_two (streams ++ values ++ noted) pending all_pending.0 in
    let all_valued = in_two (streams ++ values) noted all_noted.0 in
    let all_streams = in_two streams values all_valued.0 in
    record {
      seed = and_first (is_at_most (2 ^ 32 - 1) w.seed) (is_at_most (2 ^ 32 - 1) w.seed_rest) parts.0;
      seed_rest = and_second (is_at_most (2 ^ 32 - 1) w.seed) (is_at_most (2 ^ 32 - 1) w.seed_rest) parts.0;
      clock = parts.1.0;
      events = parts.1.1.0;
      streams = all_streams.0;
      values = all_streams.1;
      noted = all_valued.1;
      pending = all_noted.1;
      enough = enough_values (length w.values) (length g.variables) all_pending.1.0;
    }

pub good_run : (g : EventGraph) (w : WrittenSnapshot) → bad_at g w ≡ None → IsGood g (saved_run g w)
good_run g w none =
    let parts = good_parts g w none in
    let quotient = at_most (2 ^ 32 - 1) w.seed parts.seed in
    let rest = at_most (2 ^ 32 - 1) w.seed_rest parts.seed_rest in
    let taken = with_all 0 w.streams (replicate 64 0) parts.streams (none_taken 64) in
    record {
      seed = omega (arith, quotient, rest);
      clock = at_most STOP_MAX w.clock parts.clock;
      events = at_most EVENTS_MAX w.events parts.events;
      streams = taken.0;
      words = taken.1;
      values = values_fit g.variables w.values parts.values parts.enough;
      noted = noted_fit g w.noted parts.noted;
      pending = entries_good g (number_or_zero w.clock) w.pending parts.pending;
    }

pub good_reading : (text : List ℕ) (g : EventGraph) (s : SavedRun) → ReadsSaved text g s → IsGood g s
good_reading text g s reads = subst (IsGood g) reads.means (good_run g reads.snapshot reads.good)
