-- Edges that are counted and then taken away leave the numbers as they were, and in between the numbers say what edges read.
use Rattle.std.proofs.Common.{◌≡◌, ℕ, zero, suc, ◌+◌, ◌-◌, ◌<◌, ◌≤◌, nat_lt, Bool, true, false, ◌||◌, cond, List, [], ◌∷◌, ◌++◌, map, length, drop, get_or, refl, sym, ◌∙◌, ap, ap₂, add-one, arith}
use Rattle.std.specs.Prelude.{count_by, slice_index}
use Rattle.std.specs.List.{list_any}
use Rattle.std.proofs.Math.Seq.{drop-cons}
use Rattle.std.proofs.lemmas.Bool.Decides.{nat_tests}
use Rattle.std.proofs.lemmas.List.{ext_get_or}
use Rattle.std.proofs.lemmas.List.Folds.{list_any-append}
use Rattle.std.proofs.lemmas.List.Sums.{sum_by-cons}
use Rattle.model_core.specs.declared.vertex.Edge.{Edge}
use Rattle.model_core.specs.EventGraph.{EventEdge}
use Rattle.model_core.specs.Code.Views.{edge_of}
use Rattle.model_core.specs.Rules.MarkedPlaces.{is_among}
use Rattle.model_core.specs.Rules.Uses.{edge_reads}
use Rattle.use_analysis.specs.UseNumbers.{changed_where, raised_at, lowered_at, CanLower}
use Rattle.merge_rules.specs.Inner.ReadingEdges.{reads_it, reads_one_of, counted, uncounted, is_read_by_counts}
use Rattle.merge_rules.proofs.OneStepForTwo.MergeHolds.{is_below}

-- ---- one number

length_changed : (test : ℕ → Bool) (f : ℕ → ℕ) (a : ℕ) (ns : List ℕ) → length (changed_where test f a ns) ≡ length ns
length_changed test f a [] = refl
length_changed test f a (n ∷ ns) = ap suc (length_changed test f (a + 1) ns)

changed_there : (test : ℕ → Bool) (f : ℕ → ℕ) (a k t : ℕ) (ns : List ℕ) → a + k ≡ t → k < length ns → slice_index (changed_where test f a ns) k ≡ cond (test t) (f (slice_index ns k)) (slice_index ns k)
changed_there test f a k t [] is below = absurd (omega (arith, below))
changed_there test f a zero t (n ∷ ns) is below = ap (λ j. cond (test j) (f n) n) (omega (arith, is))
changed_there test f a (suc k) t (n ∷ ns) is below = changed_there test f (a + 1) k t ns (omega (arith, is)) (omega (arith, below))

changed_beyond : (test : ℕ → Bool) (f : ℕ → ℕ) (a k : ℕ) (ns : List ℕ) → length ns ≤ k → slice_index (changed_where test f a ns) k ≡ 0
changed_beyond test f a k [] past = refl
changed_beyond test f a zero (n ∷ ns) past = absurd (omega (arith, past))
changed_beyond test f a (suc k) (n ∷ ns) past = changed_beyond test f (a + 1) k ns (omega (arith, past))

one_if : (b : Bool) (n : ℕ) → cond b (n + 1) n ≡ n + cond b 1 0
one_if true n = refl
one_if false n = omega arith

abbrev counts : ℕ → EventEdge → ℕ
counts v e = cond (reads_it v e) 1 0

raised_there : (e : EventEdge) (ns : List ℕ) (v : ℕ) → v < length ns → slice_index (raised_at (edge_reads e) ns) v ≡ slice_index ns v + counts v e
raised_there e ns v below = changed_there (is_among (edge_reads e)) (λ n. n + 1) 0 v v ns (omega arith) below ∙ one_if (reads_it v e) (slice_index ns v)

one_more_at_most : (b : Bool) → cond b 1 0 ≤ 1
one_more_at_most true = omega arith
one_more_at_most false = omega arith

pub raised_little : (e : EventEdge) (ns : List ℕ) (v : ℕ) → slice_index (raised_at (edge_reads e) ns) v ≤ slice_index ns v + 1
raised_little e ns v = by_place (nat_lt v (length ns)) refl where
  is_beyond : (k n : ℕ) → nat_lt k n ≡ false → n ≤ k
  is_beyond k n is = grind (arith, nat_tests)

  by_place : (b : Bool) → nat_lt v (length ns) ≡ b → slice_index (raised_at (edge_reads e) ns) v ≤ slice_index ns v + 1
  by_place true is = let there = raised_there e ns v (is_below v (length ns) is) in let few = one_more_at_most (reads_it v e) in omega (arith, there, few)
  by_place false is = let there = changed_beyond (is_among (edge_reads e)) (λ n. n + 1) 0 v ns (is_beyond v (length ns) is) in omega (arith, there)

one_less : (b : Bool) (n : ℕ) → cond b 1 0 ≤ n → cond b (n - 1) n + cond b 1 0 ≡ n
one_less true n some = omega (arith, some)
one_less false n some = omega arith

lowered_there : (e : EventEdge) (ns : List ℕ) (v : ℕ) → v < length ns → counts v e ≤ slice_index ns v → slice_index (lowered_at (edge_reads e) ns) v + counts v e ≡ slice_index ns v
lowered_there e ns v below some =
    ap (λ n. n + counts v e) (changed_there (is_among (edge_reads e)) (λ n. n - 1) 0 v v ns (omega arith) below) ∙ one_less (reads_it v e) (slice_index ns v) some

pub can_lower : (e : EventEdge) (es : List EventEdge) (ns : List ℕ) → ((v : ℕ) → v < length ns → count_by (reads_it v) (e ∷ es) ≤ slice_index ns v) → CanLower (edge_reads e) ns
can_lower e es ns enough v below among =
    let more = enough v below in
    let split : count_by (reads_it v) (e ∷ es) ≡ counts v e + count_by (reads_it v) es = sum_by-cons (counts v) e es in
    let one : counts v e ≡ 1 = ap (λ b. cond {A = ℕ} b 1 0) among in
    omega (arith, more, split, one)

pub still_enough : (e : EventEdge) (es : List EventEdge) (ns : List ℕ) → ((v : ℕ) → v < length ns → count_by (reads_it v) (e ∷ es) ≤ slice_index ns v) → (v : ℕ) → v < length (lowered_at (edge_reads e) ns) → count_by (reads_it v) es ≤ slice_index (lowered_at (edge_reads e) ns) v
still_enough e es ns enough v below =
    let long = length_changed (is_among (edge_reads e)) (λ n. n - 1) 0 ns in
    let more = enough v (omega (arith, long, below)) in
    let split : count_by (reads_it v) (e ∷ es) ≡ counts v e + count_by (reads_it v) es = sum_by-cons (counts v) e es in
    let there = lowered_there e ns v (omega (arith, long, below)) (omega (arith, more, split)) in
    omega (arith, more, split, there)

-- ---- many edges

pub length_counted : (es : List EventEdge) (ns : List ℕ) → length (counted es ns) ≡ length ns
length_counted [] ns = refl
length_counted (e ∷ es) ns = length_counted es (raised_at (edge_reads e) ns) ∙ length_changed (is_among (edge_reads e)) (λ n. n + 1) 0 ns

length_uncounted : (es : List EventEdge) (ns : List ℕ) → length (uncounted es ns) ≡ length ns
length_uncounted [] ns = refl
length_uncounted (e ∷ es) ns = length_uncounted es (lowered_at (edge_reads e) ns) ∙ length_changed (is_among (edge_reads e)) (λ n. n - 1) 0 ns

pub counted_there : (es : List EventEdge) (ns : List ℕ) (v : ℕ) → v < length ns → slice_index (counted es ns) v ≡ slice_index ns v + count_by (reads_it v) es
counted_there [] ns v below = omega arith
counted_there (e ∷ es) ns v below =
    let long = length_changed (is_among (edge_reads e)) (λ n. n + 1) 0 ns in
    let later = counted_there es (raised_at (edge_reads e) ns) v (omega (arith, long, below)) in
    let here = raised_there e ns v below in
    let split : count_by (reads_it v) (e ∷ es) ≡ counts v e + count_by (reads_it v) es = sum_by-cons (counts v) e es in
    omega (arith, later, here, split)

uncounted_there : (es : List EventEdge) (ns : List ℕ) (v : ℕ) → v < length ns → count_by (reads_it v) es ≤ slice_index ns v → slice_index (uncounted es ns) v + count_by (reads_it v) es ≡ slice_index ns v
uncounted_there [] ns v below enough = omega arith
uncounted_there (e ∷ es) ns v below enough =
    let long = length_changed (is_among (edge_reads e)) (λ n. n - 1) 0 ns in
    let split : count_by (reads_it v) (e ∷ es) ≡ counts v e + count_by (reads_it v) es = sum_by-cons (counts v) e es in
    let here = lowered_there e ns v below (omega (arith, enough, split)) in
    let later = uncounted_there es (lowered_at (edge_reads e) ns) v (omega (arith, long, below)) (omega (arith, enough, split, here)) in
    omega (arith, later, here, split)

-- edges before a place and after it are counted, and then taken away in the same order
module _ (before after : List EventEdge) (ns : List ℕ) where
  abbrev pub all_counted : List ℕ
  all_counted = counted after (counted before ns)

  pub length_all : length all_counted ≡ length ns
  length_all = length_counted after (counted before ns) ∙ length_counted before ns

  pub all_there : (v : ℕ) → v < length ns → slice_index all_counted v ≡ slice_index ns v + count_by (reads_it v) before + count_by (reads_it v) after
  all_there v below =
      let first = counted_there before ns v below in
      let long = length_counted before ns in
      let then_those = counted_there after (counted before ns) v (omega (arith, long, below)) in
      omega (arith, first, then_those)

  pub enough_before : (v : ℕ) → v < length all_counted → count_by (reads_it v) before ≤ slice_index all_counted v
  enough_before v below = let long = length_all in let there = all_there v (omega (arith, long, below)) in omega (arith, there)

  abbrev pub half_counted : List ℕ
  half_counted = uncounted before all_counted

  length_half : length half_counted ≡ length ns
  length_half = length_uncounted before all_counted ∙ length_all

  half_there : (v : ℕ) → v < length ns → slice_index half_counted v ≡ slice_index ns v + count_by (reads_it v) after
  half_there v below =
      let long = length_all in
      let there = all_there v below in
      let taken = uncounted_there before all_counted v (omega (arith, long, below)) (omega (arith, there)) in
      omega (arith, there, taken)

  pub enough_after : (v : ℕ) → v < length half_counted → count_by (reads_it v) after ≤ slice_index half_counted v
  enough_after v below = let long = length_half in let there = half_there v (omega (arith, long, below)) in omega (arith, there)

  pub back_again : uncounted after half_counted ≡ ns
  back_again = ext_get_or 0 (uncounted after half_counted) ns (length_uncounted after half_counted ∙ length_half) (λ v below.
      let long = length_half in
      let whole = length_uncounted after half_counted in
      let there = half_there v (omega (arith, long, whole, below)) in
      let taken = uncounted_there after half_counted v (omega (arith, whole, below)) (omega (arith, there)) in
      omega (arith, there, taken))

-- ---- what the numbers say

some_counted : (v : ℕ) (es : List EventEdge) → nat_lt 0 (count_by (reads_it v) es) ≡ list_any (reads_it v) es
some_counted v [] = refl
some_counted v (e ∷ es) = ap (nat_lt 0) (sum_by-cons (counts v) e es) ∙ one (reads_it v e) (count_by (reads_it v) es) (list_any (reads_it v) es) (some_counted v es) where
  one : (b : Bool) (n : ℕ) (later : Bool) → nat_lt 0 n ≡ later → nat_lt 0 (cond b 1 0 + n) ≡ (b || later)
  one true n later is = grind (arith, nat_tests)
  one false n later is = ap (nat_lt 0) (omega arith) ∙ is

some_of_two : (v : ℕ) (before after : List EventEdge) (n m : ℕ) → n ≡ 0 → m ≡ n + count_by (reads_it v) before + count_by (reads_it v) after → nat_lt 0 m ≡ (list_any (reads_it v) before || list_any (reads_it v) after)
some_of_two v before after n m none is =
    two (count_by (reads_it v) before) (count_by (reads_it v) after) m (omega (arith, none, is)) ∙ ap₂ (λ a b. a || b) (some_counted v before) (some_counted v after) where
      two : (a b m : ℕ) → m ≡ a + b → nat_lt 0 m ≡ (nat_lt 0 a || nat_lt 0 b)
      two a b m is = grind (arith, nat_tests)

any_alike : {A : Type 0} (p q : A → Bool) → ((x : A) → p x ≡ q x) → (xs : List A) → list_any p xs ≡ list_any q xs
any_alike p q same [] = refl
any_alike p q same (x ∷ xs) = ap₂ (λ a b. a || b) (same x) (any_alike p q same xs)

-- some variable is read by some edge, whichever is asked for first
none_asked : {A : Type 0} (xs : List A) → list_any (λ x. false) xs ≡ false
none_asked [] = refl
none_asked (x ∷ xs) = none_asked xs

either : {A : Type 0} (p q : A → Bool) (xs : List A) → list_any (λ x. p x || q x) xs ≡ (list_any p xs || list_any q xs)
either p q [] = refl
either p q (x ∷ xs) = ap (λ b. (p x || q x) || b) (either p q xs) ∙ turned (p x) (q x) (list_any p xs) (list_any q xs) where
  turned : (a b c d : Bool) → ((a || b) || (c || d)) ≡ ((a || c) || (b || d))
  turned true b c d = refl
  turned false true true d = refl
  turned false true false d = refl
  turned false false c d = refl

swapped : (vs : List ℕ) (es : List EventEdge) → list_any (λ v. list_any (reads_it v) es) vs ≡ list_any (reads_one_of vs) es
swapped vs [] = none_asked vs
swapped vs (e ∷ es) = either (λ v. reads_it v e) (λ v. list_any (reads_it v) es) vs ∙ ap (λ b. list_any (is_among (edge_reads e)) vs || b) (swapped vs es)

module _ (variables : ℕ) (before after : List EventEdge) (ns : List ℕ) (many : variables ≤ length ns) (none : (v : ℕ) → slice_index ns v ≡ 0) where
  by_counts-there : (v : ℕ) → is_read_by_counts variables (all_counted before after ns) before after v ≡ list_any (reads_it v) (before ++ after)
  by_counts-there v = by_place (list_any (reads_it v) before || list_any (reads_it v) after) refl (nat_lt v variables) refl ∙ sym (list_any-append (reads_it v) before after) where
    by_place : (walked : Bool) → (list_any (reads_it v) before || list_any (reads_it v) after) ≡ walked → (b : Bool) → nat_lt v variables ≡ b → cond (nat_lt v variables) (nat_lt 0 (slice_index (all_counted before after ns) v)) walked ≡ walked
    by_place walked is_walked true is =
        let below = is_below v variables is in
        ap (λ b. cond b (nat_lt 0 (slice_index (all_counted before after ns) v)) walked) is
        ∙ some_of_two v before after (slice_index ns v) (slice_index (all_counted before after ns) v) (none v) (all_there before after ns v (omega (arith, below, many)))
        ∙ is_walked
    by_place walked is_walked false is = ap (λ b. cond b (nat_lt 0 (slice_index (all_counted before after ns) v)) walked) is

  pub by_counts-reads : (writes : List ℕ) → list_any (is_read_by_counts variables (all_counted before after ns) before after) writes ≡ list_any (reads_one_of writes) (before ++ after)
  by_counts-reads writes = any_alike _ _ by_counts-there writes ∙ swapped writes (before ++ after)

-- ---- one edge more of the code's

pub one_left : (edges : List Edge) (i : ℕ) (e : Edge) → i < length edges → e ≡ get_or edges i e → map edge_of (drop i edges) ≡ edge_of e ∷ map edge_of (drop (i + 1) edges)
one_left edges i e below is =
    ap (map edge_of) (drop-cons edges i e below ∙ ap (λ (x : Edge). x ∷ drop (suc i) edges) (sym is))
    ∙ ap (λ n. edge_of e ∷ map edge_of (drop n edges)) (sym (add-one i))

-- ---- few edges make small numbers

pub counted_few : (es : List EventEdge) (ns : List ℕ) (v : ℕ) → slice_index (counted es ns) v ≤ slice_index ns v + length es
counted_few [] ns v = omega arith
counted_few (e ∷ es) ns v = let here = raised_little e ns v in let later = counted_few es (raised_at (edge_reads e) ns) v in omega (arith, here, later)
