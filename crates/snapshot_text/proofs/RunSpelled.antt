-- The written snapshot of a good saved run spells that run, and no part of it is bad.
use Rattle.std.proofs.Common.{◌≡◌, ℕ, zero, suc, ◌+◌, ◌-◌, ◌*◌, ◌/◌, ◌%◌, ◌^◌, ◌<◌, ◌≤◌, ℤ, pos, neg_ℤ, true, false, not, ◌&&◌, cond, nat_lt, List, [], ◌∷◌, ◌++◌, length, map, take, drop, replicate, slice_set, Option, Some, None, option_map, unwrap_or, refl, sym, ap, ap₂, ◌∙◌, subst, arith, IsTrue, append_assoc}
use Rattle.std.specs.Prelude.{IfSome, ◌==◌}
use Rattle.std.specs.List.{AllByRecursion, flat_map, list_all}
use Rattle.std.proofs.lemmas.Bool.Decides.{nat_tests}
use Rattle.std.proofs.lemmas.List.{length-replicate, length-map, take-append-drop}
use Rattle.std.proofs.lemmas.Bool.{and_from}
use Rattle.std.specs.Option.{option_map_or}
use lib.Pointwise.{bytes_decides}
use Rattle.sig_base.proofs.Tests.{nat_lt-suc, int_le-true}
use Rattle.model_core.specs.Run.Step.{vertex_at}
use Rattle.model_core.specs.Text.Lexing.{same_bytes}
use Rattle.model_core.specs.Text.Numbering.{◌>>=◌, natural_of}
use Rattle.model_core.specs.Text.Canonical.{vertex_name}
use Rattle.model_core.specs.Rules.Reduction.{place_of_vertex}
use Rattle.model_core.specs.EventGraph.{EventGraph, Variable}
use Rattle.model_core.specs.Run.State.{cell_count, within, in_ranges}
use Rattle.model_core.specs.Run.Pending.{Entry}
use Rattle.model_core.specs.Text.Written.{WrittenNumber}
use Rattle.round_trip.proofs.ListText.{Pairs}
use Rattle.model_core.specs.Saved.Cells.{cell_variables, variables_watched}
use Rattle.model_core.specs.Saved.SavedRun.{SavedRun, IsWide, IsGoodEntry, IsGood}
use Rattle.model_core.specs.Text.SnapshotGrammar.{WrittenStream, WrittenValue, WrittenNoted, WrittenCarried, WrittenPending, WrittenSnapshot}
use Rattle.model_core.specs.Saved.GoodSnapshots.{number_or_zero, is_at_most, from_one_to, signed_values, carried_of, is_wide, JudgedPart, stream_parts, value_parts, noted_parts, has_parameters, pending_part, snapshot_parts, first_bad_part, bad_at, with_taken, saved_entry, saved_run}
use Rattle.model_core.proofs.RangesTogether.{split-ranges}
use Rattle.snapshot_text.proofs.SnapshotLines.{IsNumber, AreStreams, no_streams, silent, spoken, AreValues, MaybeNoted, PendingIs}
use Rattle.snapshot_text.proofs.SnapshotWrites.{SnapshotIs}

-- ---- numbers

number-is : (n : ℕ) (w : WrittenNumber) → IsNumber n w → number_or_zero w ≡ n
number-is n w e = ap (λ v. unwrap_or (v >>= natural_of) 0) e

is-at_most : (n most : ℕ) (w : WrittenNumber) → IsNumber n w → n ≤ most → is_at_most most w ≡ true
is-at_most n most w e few = ap (λ v. option_map_or (λ k. nat_lt k (suc most)) (v >>= natural_of) false) e ∙ nat_lt-suc n most few

-- ---- parts that are good

abbrev AllGood : List JudgedPart → Type 0
AllGood parts = AllByRecursion (λ (p : JudgedPart). p.good ≡ true) parts

good-append : (a b : List JudgedPart) → AllGood a → AllGood b → AllGood (a ++ b)
good-append [] b h k = k
good-append (p ∷ a) b (here, h) k = (here, good-append a b h k)

none-bad : (parts : List JudgedPart) → AllGood parts → first_bad_part parts ≡ None
none-bad [] h = refl
none-bad (p ∷ parts) (here, h) = ap (λ b. cond b (first_bad_part parts) (Some p.at)) here ∙ none-bad parts h

-- ---- streams

streams-good : (least k : ℕ) (taken : List ℕ) (ws : List WrittenStream) → AreStreams k taken ws → least ≤ k → k + length taken ≤ 64 → AllByRecursion (λ n. n ≤ 2 ^ 52) taken → AllGood (stream_parts least ws)
streams-good least k taken ws (no_streams i) from near few = tt
streams-good least k taken ws (silent i others us are) from near (here, few) = streams-good least (suc k) others us are (omega arith) (omega arith) few
streams-good least k taken ws (spoken i n others w us some is are) from near (here, few) =
    let at = number-is k w.stream is.stream_is in
    let order : nat_lt k least ≡ false = grind (arith, nat_tests) in
    let rises : not (nat_lt (number_or_zero w.stream) least) ≡ true = ap (λ x. not (nat_lt x least)) at ∙ ap not order in
    let positive : nat_lt 0 n ≡ true = grind (arith, nat_tests) in
    let counted : from_one_to (2 ^ 52) w.words ≡ true = ap (λ v. option_map_or (λ m. nat_lt 0 m && nat_lt m (suc (2 ^ 52))) (v >>= natural_of) false) is.words_is ∙ and_from _ _ positive (nat_lt-suc n (2 ^ 52) here) in (
      and_from _ _ (and_from _ _ (is-at_most k 63 w.stream is.stream_is (omega arith)) rises) counted,
      streams-good (suc (number_or_zero w.stream)) (suc k) others us are (omega (arith, at)) (omega arith) few,
    )

set-after : (front : List ℕ) (n : ℕ) (rest : List ℕ) (k : ℕ) → length front ≡ k → slice_set (front ++ 0 ∷ rest) k n ≡ front ++ n ∷ rest
set-after [] n rest zero long = refl
set-after [] n rest (suc k) long = absurd (omega (arith, long))
set-after (x ∷ front) n rest zero long = absurd (omega (arith, long))
set-after (x ∷ front) n rest (suc k) long = ap (λ l. x ∷ l) (set-after front n rest k (omega (arith, long)))

length-after : (front : List ℕ) (n k : ℕ) → length front ≡ k → length (front ++ n ∷ []) ≡ suc k
length-after [] n k long = ap suc long
length-after (x ∷ front) n zero long = absurd (omega (arith, long))
length-after (x ∷ front) n (suc k) long = ap suc (length-after front n k (omega (arith, long)))

streams-spelled : (front : List ℕ) (k : ℕ) (taken : List ℕ) (ws : List WrittenStream) → length front ≡ k → AreStreams k taken ws → with_taken ws (front ++ replicate (length taken) 0) ≡ front ++ taken
streams-spelled front k taken ws long (no_streams i) = refl
streams-spelled front k taken ws long (silent i others us are) =
    ap (with_taken us) (sym (append_assoc front (0 ∷ []) (replicate (length others) 0)))
    ∙ streams-spelled (front ++ 0 ∷ []) (suc k) others us (length-after front 0 k long) are ∙ append_assoc front (0 ∷ []) others
streams-spelled front k taken ws long (spoken i n others w us some is are) =
    ap (with_taken us) (ap₂ (λ a b. slice_set (front ++ 0 ∷ replicate (length others) 0) a b) (number-is k w.stream is.stream_is) (number-is n w.words is.words_is)
    ∙ set-after front n (replicate (length others) 0) k long ∙ sym (append_assoc front (n ∷ []) (replicate (length others) 0)))
    ∙ streams-spelled (front ++ n ∷ []) (suc k) others us (length-after front n k long) are ∙ append_assoc front (n ∷ []) others

-- ---- values

-- values in the ranges of the cells of one variable and of those after it, by how many cells the variable has
pub of-variable : (v : Variable) (variables : List Variable) (xs : List ℤ) → in_ranges (cell_variables (v ∷ variables)) xs ≡ true → (in_ranges (replicate (cell_count v) v) (take (cell_count v) xs) ≡ true) × (in_ranges (cell_variables variables) (drop (cell_count v) xs) ≡ true)
of-variable v variables xs e =
    subst (λ (n : ℕ). (in_ranges (replicate (cell_count v) v) (take n xs) ≡ true) × (in_ranges (cell_variables variables) (drop n xs) ≡ true)) (length-replicate (cell_count v) v)
    (split-ranges (replicate (cell_count v) v) (cell_variables variables) xs e)

values-good : (variables : List Variable) (values : List ℤ) (ws : List WrittenValue) → in_ranges (cell_variables variables) values ≡ true → AreValues variables values ws → AllGood (value_parts variables ws)
values-good [] values ws inside are = subst (λ (l : List WrittenValue). AllGood (value_parts [] l)) (sym are) tt
values-good (v ∷ variables) values [] inside are = absurd are
values-good (v ∷ variables) values (w ∷ ws) inside (is, are) =
    let (here, later) = of-variable v variables values inside in
    let named : same_bytes w.variable.name v.name ≡ true = (bytes_decides w.variable.name v.name).1 is.name in
    (and_from _ _ named (and_from _ _ is.values.known (ap (in_ranges (replicate (cell_count v) v)) is.values.are ∙ here)), values-good variables (drop (cell_count v) values) ws later are)

no-values : (xs : List ℤ) → in_ranges [] xs ≡ true → [] ≡ xs
no-values [] e = refl
no-values (x ∷ xs) e = cc

values-spelled : (variables : List Variable) (values : List ℤ) (ws : List WrittenValue) → in_ranges (cell_variables variables) values ≡ true → AreValues variables values ws → flat_map (λ (w : WrittenValue). signed_values w.values) ws ≡ values
values-spelled [] values ws inside are = ap (flat_map (λ (w : WrittenValue). signed_values w.values)) are ∙ no-values values inside
values-spelled (v ∷ variables) values [] inside are = absurd are
values-spelled (v ∷ variables) values (w ∷ ws) inside (is, are) =
    let (here, later) = of-variable v variables values inside in
    ap₂ (λ a b. a ++ b) is.values.are (values-spelled variables (drop (cell_count v) values) ws later are) ∙ take-append-drop (cell_count v) values

values-many : (variables : List Variable) (values : List ℤ) (ws : List WrittenValue) → AreValues variables values ws → length ws ≡ length variables
values-many [] values ws are = ap length are
values-many (v ∷ variables) values [] are = absurd are
values-many (v ∷ variables) values (w ∷ ws) are = ap suc (values-many variables (drop (cell_count v) values) ws are.1)

-- ---- the values of the last `at` note

noted-good : (g : EventGraph) (o : Option (List ℤ)) (w : Option WrittenNoted) → IfSome o (λ values. IsTrue (in_ranges (cell_variables (variables_watched g g.watch)) values)) → MaybeNoted o w → AllGood (noted_parts g w)
noted-good g None None inside is = tt
noted-good g None (Some w) inside is = absurd is
noted-good g (Some values) None inside is = absurd is
noted-good g (Some values) (Some w) inside is = (and_from _ _ is.values.known (ap (in_ranges (cell_variables (variables_watched g g.watch))) is.values.are ∙ inside), tt)

noted-spelled : (o : Option (List ℤ)) (w : Option WrittenNoted) → MaybeNoted o w → option_map (λ (n : WrittenNoted). signed_values n.values) w ≡ o
noted-spelled None None is = refl
noted-spelled None (Some w) is = absurd is
noted-spelled (Some values) None is = absurd is
noted-spelled (Some values) (Some w) is = ap Some is.values.are

-- ---- pending events

module _ (g : EventGraph) (found : (v : ℕ) → v < length g.vertices → place_of_vertex (vertex_name g v) g.vertices ≡ Some v) (clock : ℕ) where
  wide-within : (x : ℤ) → IsWide x → within (neg_ℤ (pos (2 ^ 63))) (pos (2 ^ 63 - 1)) x ≡ true
  wide-within x w = and_from _ _ (int_le-true _ _ w.least) (int_le-true _ _ w.greatest)

  all-wide : (xs : List ℤ) (ws : List WrittenCarried) → map carried_of ws ≡ xs → AllByRecursion IsWide xs → list_all is_wide ws ≡ true
  all-wide xs [] e wide = refl
  all-wide [] (w ∷ ws) e wide = cc
  all-wide (x ∷ xs) (w ∷ ws) e (here, wide) =
      let same : carried_of w ≡ x = cc in
      let others : map carried_of ws ≡ xs = cc in
      and_from _ _ (wide-within (carried_of w) (subst IsWide (sym same) here)) (all-wide xs ws others wide)

  place-is : (e : Entry) (w : WrittenPending) → IsGoodEntry g clock e → PendingIs g clock e w → place_of_vertex w.vertex.name g.vertices ≡ Some e.vertex
  place-is e w good is = ap (λ name. place_of_vertex name g.vertices) is.vertex ∙ found e.vertex good.vertex

  entry-good : (e : Entry) (w : WrittenPending) → IsGoodEntry g clock e → PendingIs g clock e w → (pending_part g w).good ≡ true
  entry-good e w good is =
      let count : length w.values ≡ length e.values = sym (length-map w.values carried_of) ∙ ap length is.values in
      and_from _ _
      (and_from _ _ (is-at_most (e.time - clock) (2 ^ 63 - 1) w.ticks is.ticks (omega (arith, good.near, good.from_now))) (is-at_most e.priority 255 w.priority is.priority good.priority))
      (and_from _ _ (ap (has_parameters g (length w.values)) (place-is e w good is) ∙ same-count (length w.values) (length (vertex_at g e.vertex).parameters) (count ∙ good.matched)) (all-wide e.values w.values is.values good.wide)) where
        same-count : (n m : ℕ) → n ≡ m → (n == m) ≡ true
        same-count n m e = grind (arith, nat_tests)

  entry-spelled : (e : Entry) (w : WrittenPending) → IsGoodEntry g clock e → PendingIs g clock e w → saved_entry g clock w ≡ e
  entry-spelled e w good is =
      let time : clock + number_or_zero w.ticks ≡ e.time = omega (arith, number-is (e.time - clock) w.ticks is.ticks, good.from_now) in
      let vertex : unwrap_or (place_of_vertex w.vertex.name g.vertices) 0 ≡ e.vertex = ap (λ o. unwrap_or o 0) (place-is e w good is) in
      ap₂ (λ t p. record { time = t; priority = p; vertex = unwrap_or (place_of_vertex w.vertex.name g.vertices) 0; values = map carried_of w.values }) time (number-is e.priority w.priority is.priority)
      ∙ ap₂ (λ v xs. record { time = e.time; priority = e.priority; vertex = v; values = xs }) vertex is.values

  pending-good : (es : List Entry) (ws : List WrittenPending) → AllByRecursion (IsGoodEntry g clock) es → Pairs (PendingIs g clock) es ws → AllGood (map (pending_part g) ws)
  pending-good [] [] good are = tt
  pending-good [] (w ∷ ws) good are = absurd are
  pending-good (e ∷ es) [] good are = absurd are
  pending-good (e ∷ es) (w ∷ ws) (here, good) (is, are) = (entry-good e w here is, pending-good es ws good are)

  pending-spelled : (es : List Entry) (ws : List WrittenPending) → AllByRecursion (IsGoodEntry g clock) es → Pairs (PendingIs g clock) es ws → map (saved_entry g clock) ws ≡ es
  pending-spelled [] [] good are = refl
  pending-spelled [] (w ∷ ws) good are = absurd are
  pending-spelled (e ∷ es) [] good are = absurd are
  pending-spelled (e ∷ es) (w ∷ ws) (here, good) (is, are) = ap₂ (λ x xs. x ∷ xs) (entry-spelled e w here is) (pending-spelled es ws good are)

-- ---- the whole

module _ (g : EventGraph) (found : (v : ℕ) → v < length g.vertices → place_of_vertex (vertex_name g v) g.vertices ≡ Some v) (s : SavedRun) (good : IsGood g s) (w : WrittenSnapshot) (is : SnapshotIs g s w) where
  pub none-is_bad : bad_at g w ≡ None
  none-is_bad =
      let seed = and_from _ _ (is-at_most (s.seed / 2 ^ 32) (2 ^ 32 - 1) w.seed is.seed (omega (arith, good.seed))) (is-at_most (s.seed % 2 ^ 32) (2 ^ 32 - 1) w.seed_rest is.seed_rest (omega arith)) in
      let same : nat_lt (length g.variables) (length g.variables) ≡ false = grind (arith, nat_tests) in
      let last : not (nat_lt (length w.values) (length g.variables)) ≡ true =
      ap (λ n. not (nat_lt n (length g.variables))) (values-many g.variables s.values w.values is.values) ∙ ap not same in
      none-bad (snapshot_parts g w) (
        seed,
        (
          is-at_most s.clock (2 ^ 48) w.clock is.clock good.clock,
          (
            is-at_most s.events (2 ^ 40) w.events is.events good.events,
            good-append (stream_parts 0 w.streams ++ value_parts g.variables w.values ++ noted_parts g w.noted ++ map (pending_part g) w.pending) _
                (good-append (stream_parts 0 w.streams ++ value_parts g.variables w.values ++ noted_parts g w.noted) _
                (good-append (stream_parts 0 w.streams ++ value_parts g.variables w.values) _
                (good-append (stream_parts 0 w.streams) _
                (streams-good 0 0 s.taken w.streams is.streams (omega arith) (omega (arith, good.streams)) good.words)
                (values-good g.variables s.values w.values good.values is.values))
                (noted-good g s.noted w.noted good.noted is.noted))
                (pending-good g found s.clock s.pending w.pending good.pending is.pending))
                (last, tt),
          ),
        ),
      )

  pub run-spelled : saved_run g w ≡ s
  run-spelled =
      let seed : number_or_zero w.seed * 2 ^ 32 + number_or_zero w.seed_rest ≡ s.seed = omega (arith, number-is (s.seed / 2 ^ 32) w.seed is.seed, number-is (s.seed % 2 ^ 32) w.seed_rest is.seed_rest) in
      let clock = number-is s.clock w.clock is.clock in
      let taken : with_taken w.streams (replicate 64 0) ≡ s.taken = ap (λ n. with_taken w.streams (replicate n 0)) (sym good.streams) ∙ streams-spelled [] 0 s.taken w.streams refl is.streams in
      let pending : map (saved_entry g (number_or_zero w.clock)) w.pending ≡ s.pending = ap (λ c. map (saved_entry g c) w.pending) clock ∙ pending-spelled g found s.clock s.pending w.pending good.pending is.pending in
      ap₂ (λ a b. record (saved_run g w) { seed = a; clock = b }) seed clock
      ∙ ap₂ (λ a b. record (saved_run g w) { seed = s.seed; clock = s.clock; events = a; taken = b }) (number-is s.events w.events is.events) taken
      ∙ ap₂ (λ a b. record (saved_run g w) { seed = s.seed; clock = s.clock; events = s.events; taken = s.taken; values = a; noted = b }) (values-spelled g.variables s.values w.values good.values is.values) (noted-spelled s.noted w.noted is.noted)
      ∙ ap (λ a. record s { pending = a }) pending
