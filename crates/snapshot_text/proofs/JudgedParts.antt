-- Parts one after the other: each good one is passed, and the first that isn't is reported.
use Rattle.std.proofs.Common.{◌≡◌, ℕ, suc, ◌+◌, ◌<◌, ◌≤◌, ◌∷◌, List, length, map, slice_set, Bool, true, false, cond, ◌&&◌, [], ◌++◌, ℤ, pos, Option, Some, None, unwrap_or, refl, ap, ap₂, sym, ◌∙◌, arith, append_assoc}
use Rattle.std.specs.List.{flat_map, list_all}
use Rattle.std.proofs.lemmas.List.{length-set}
use Rattle.model_core.specs.Text.Written.{WrittenSigned}
use Rattle.model_core.specs.Text.Numbering as numbering
use Rattle.model_core.specs.EventGraph.{Variable}
use Rattle.model_core.specs.Text.SnapshotGrammar.{WrittenStream, WrittenValue}
use Rattle.model_core.specs.Saved.GoodSnapshots.{JudgedPart, first_bad_part, number_or_zero, stream_parts, value_parts, with_taken, signed_values}
use Rattle.snapshot_text.specs.Inner.Judging.{if_good, stream_good, stream_taken, value_good, fits_between, fitting}

pub if_good-some : {X : Type 0} (b : Bool) (x y : X) → Some y ≡ if_good b x → (b ≡ true) × (y ≡ x)
if_good-some true x y e = (refl, cc)
if_good-some false x y e = absurd cc

pub if_good-none : {X : Type 0} (b : Bool) (x : X) → None ≡ if_good b x → b ≡ false
if_good-none true x e = absurd cc
if_good-none false x e = refl

pub passed : (p : JudgedPart) (parts : List JudgedPart) → p.good ≡ true → first_bad_part (p ∷ parts) ≡ first_bad_part parts
passed p parts e = ap (λ b. cond b (first_bad_part parts) (Some p.at)) e

pub first_bad-here : (p : JudgedPart) (parts : List JudgedPart) → p.good ≡ false → first_bad_part (p ∷ parts) ≡ Some p.at
first_bad-here p parts e = ap (λ b. cond b (first_bad_part parts) (Some p.at)) e

-- ---- parts of one kind

pub one_part_more : {A B : Type 0} (part : A → JudgedPart) (value : A → B) (x : A) (later : List A) (y : B) (out : List B) (first : Option ℕ) (all : List B) → Some y ≡ if_good (part x).good (value x)
    → first_bad_part (map part (x ∷ later)) ≡ first → out ++ map value (x ∷ later) ≡ all → (first_bad_part (map part later) ≡ first) × ((out ++ y ∷ []) ++ map value later ≡ all)
one_part_more part value x later y out first all is so_far made =
    let k = if_good-some (part x).good (value x) y is in (
      sym (passed (part x) (map part later) k.0) ∙ so_far,
      append_assoc out (y ∷ []) (map value later) ∙ ap (λ z. out ++ z ∷ map value later) k.1 ∙ made,
    )

pub one_part_reported : {A B : Type 0} (part : A → JudgedPart) (value : A → B) (x : A) (later : List A) (first : Option ℕ) → None ≡ if_good (part x).good (value x) → first_bad_part (map part (x ∷ later)) ≡ first → first ≡ Some (part x).at
one_part_reported part value x later first is so_far = sym so_far ∙ first_bad-here (part x) (map part later) (if_good-none (part x).good (value x) is)

-- ---- streams

pub stream_passed : (least next : ℕ) (s : WrittenStream) (later : List WrittenStream) (total : Option ℕ) → stream_good least s ≡ true → next ≡ suc (number_or_zero s.stream)
    → first_bad_part (stream_parts least (s ∷ later)) ≡ total → first_bad_part (stream_parts next later) ≡ total
stream_passed least next s later total good is so_far =
    ap (λ n. first_bad_part (stream_parts n later)) is ∙ sym (passed (record { good = stream_good least s; at = s.at }) (stream_parts (suc (number_or_zero s.stream)) later) good) ∙ so_far

pub one_stream_more : (least number words : ℕ) (s : WrittenStream) (later : List WrittenStream) (taken : List ℕ) (first : Option ℕ) (all : List ℕ) → Some (number, words) ≡ if_good (stream_good least s) (stream_taken s) → number < 64
    → first_bad_part (stream_parts least (s ∷ later)) ≡ first → with_taken (s ∷ later) taken ≡ all → length taken ≡ 64
    → (first_bad_part (stream_parts (number + 1) later) ≡ first) × (with_taken later (slice_set taken number words) ≡ all) × (length (slice_set taken number words) ≡ 64) × (number + 1 ≤ 64)
one_stream_more least number words s later taken first all is near so_far filled long =
    let k = if_good-some (stream_good least s) (stream_taken s) (number, words) is in
    let n : number ≡ number_or_zero s.stream = ap (λ (p : ℕ × ℕ). p.0) k.1 in
    let m : words ≡ number_or_zero s.words = ap (λ (p : ℕ × ℕ). p.1) k.1 in
    let next : number + 1 ≡ suc (number_or_zero s.stream) = omega (arith, n) in (
      stream_passed least (number + 1) s later first k.0 next so_far,
      ap₂ (λ a b. with_taken later (slice_set taken a b)) n m ∙ filled,
      length-set taken number words ∙ long,
      omega (arith, near),
    )

-- ---- values

pub one_fits : (lo hi : ℤ) (s : WrittenSigned) (later : List WrittenSigned) (x : ℤ) (out : List ℤ) (total : Bool) (all : List ℤ) → Some x ≡ fitting lo hi s → list_all (fits_between lo hi) (s ∷ later) ≡ total → out ++ signed_values (s ∷ later) ≡ all
    → (list_all (fits_between lo hi) later ≡ total) × ((out ++ x ∷ []) ++ signed_values later ≡ all)
one_fits lo hi s later x out total all is so_far added =
    let k = if_good-some (fits_between lo hi s) (unwrap_or (numbering.signed s) (pos 0)) x is in (
      ap (λ b. b && list_all (fits_between lo hi) later) (sym k.0) ∙ so_far,
      append_assoc out (x ∷ []) (signed_values later) ∙ ap (λ y. out ++ y ∷ signed_values later) k.1 ∙ added,
    )

pub none_fits : (lo hi : ℤ) (s : WrittenSigned) (later : List WrittenSigned) (total : Bool) → None ≡ fitting lo hi s → list_all (fits_between lo hi) (s ∷ later) ≡ total → false ≡ total
none_fits lo hi s later total is so_far = ap (λ b. b && list_all (fits_between lo hi) later) (sym (if_good-none (fits_between lo hi s) (unwrap_or (numbering.signed s) (pos 0)) is)) ∙ so_far

pub one_value_more : (v : Variable) (variables : List Variable) (w : WrittenValue) (later : List WrittenValue) (out added : List ℤ) (first : Option ℕ) (all : List ℤ) → value_good v w ≡ true → added ≡ out ++ signed_values w.values
    → first_bad_part (value_parts (v ∷ variables) (w ∷ later)) ≡ first → out ++ flat_map (λ (x : WrittenValue). signed_values x.values) (w ∷ later) ≡ all
    → (first_bad_part (value_parts variables later) ≡ first) × (added ++ flat_map (λ (x : WrittenValue). signed_values x.values) later ≡ all)
one_value_more v variables w later out added first all good is so_far made = (
  sym (passed (record { good = value_good v w; at = w.at }) (value_parts variables later) good) ∙ so_far,
  ap (λ ns. ns ++ flat_map (λ (x : WrittenValue). signed_values x.values) later) is
      ∙ append_assoc out (signed_values w.values) (flat_map (λ (x : WrittenValue). signed_values x.values) later)
      ∙ made,
)

pub one_value_reported : (v : Variable) (variables : List Variable) (w : WrittenValue) (later : List WrittenValue) (first : Option ℕ) → false ≡ value_good v w → first_bad_part (value_parts (v ∷ variables) (w ∷ later)) ≡ first → first ≡ Some w.at
one_value_reported v variables w later first bad so_far = sym so_far ∙ first_bad-here (record { good = value_good v w; at = w.at }) (value_parts variables later) (sym bad)

-- ---- parts, and others after them

one_before : (good : Bool) (first : Option ℕ) (at : ℕ) → cond good first (Some at) ≡ None → (good ≡ true) × (first ≡ None)
one_before true first at h = (refl, h)
one_before false first at h = absurd cc

pub good_before : (a b : List JudgedPart) → first_bad_part a ≡ None → first_bad_part (a ++ b) ≡ first_bad_part b
good_before [] b h = refl
good_before (p ∷ a) b h =
    let k = one_before p.good (first_bad_part a) p.at h in
    ap (λ c. cond c (first_bad_part (a ++ b)) (Some p.at)) k.0 ∙ good_before a b k.1

first_bad-earlier : (good : Bool) (first all : Option ℕ) (at place : ℕ) → cond good first (Some at) ≡ Some place → (first ≡ Some place → all ≡ Some place) → cond good all (Some at) ≡ Some place
first_bad-earlier true first all at place h k = k h
first_bad-earlier false first all at place h k = h

pub bad_before : (a b : List JudgedPart) (at : ℕ) → first_bad_part a ≡ Some at → first_bad_part (a ++ b) ≡ Some at
bad_before [] b at h = absurd cc
bad_before (p ∷ a) b at h = first_bad-earlier p.good (first_bad_part a) (first_bad_part (a ++ b)) p.at at h (λ e. bad_before a b at e)
