-- Uses that are noted one by one give the table of uses.
use Rattle.std.proofs.Common.{◌≡◌, ℕ, ◌+◌, ◌-◌, ◌≤◌, ◌==◌, Bool, true, false, cond, ◌||◌, List, [], ◌∷◌, ◌++◌, length, map, refl, sym, ap, ap₂, arith, ◌∙◌, append-nil, append_assoc, length-append}
use Rattle.std.specs.Prelude.{slice_get}
use Rattle.std.specs.Option.{option_map_or}
use Rattle.std.specs.List.{range_with_len}
use Rattle.sig_base.proofs.Lists.{get-after}
use Rattle.model_core.specs.EventGraph.{EventGraph, EventVertex, watched_variables}
use Rattle.model_core.specs.Rules.MarkedPlaces.{is_among}
use Rattle.model_core.specs.Rules.Uses.{VariableUses, vertex_reads, vertex_writes, places_where}
use Rattle.use_analysis.specs.UseRows.{use_table}
use Rattle.model_core.proofs.PlacesChanged.{same_number, different, same_on_range, place-mapped}
use Rattle.use_analysis.specs.declared.table.Use.{Use}
use Rattle.use_analysis.specs.declared.table.Use.TheVariants as kinds
use Rattle.use_analysis.specs.Inner.Noting.{ends_with, once, noted, noted_all, noted_vertices, no_uses, all_noted}

-- ---- a change made twice

one_change : {A : Type 0} (f : A → A) (a b : Bool) (x : A) → f (f x) ≡ f x → cond b (f (cond a (f x) x)) (cond a (f x) x) ≡ cond (a || b) (f x) x
one_change f true true x twice = twice
one_change f true false x twice = refl
one_change f false true x twice = refl
one_change f false false x twice = refl

-- ---- a use noted twice

ends-snoc : (xs : List ℕ) (y k : ℕ) → ends_with (xs ++ y ∷ []) k ≡ (y == k)
ends-snoc xs y k =
    let last : length (xs ++ y ∷ []) - 1 ≡ length xs = omega (arith, length-append xs (y ∷ [])) in
    ap (λ (n : ℕ). option_map_or (λ last. last == k) (slice_get (xs ++ y ∷ []) n) false) last ∙ ap (λ o. option_map_or (λ last. last == k) o false) (get-after xs y [])

once-twice : (xs : List ℕ) (k : ℕ) → once (once xs k) k ≡ once xs k
once-twice xs k = tested (ends_with xs k) refl where
  tested : (b : Bool) → ends_with xs k ≡ b → once (cond b xs (xs ++ k ∷ [])) k ≡ cond b xs (xs ++ k ∷ [])
  tested true e = ap (λ b. cond b xs (xs ++ k ∷ [])) e
  tested false e = ap (λ b. cond b (xs ++ k ∷ []) ((xs ++ k ∷ []) ++ k ∷ [])) (ends-snoc xs k k ∙ same_number k k refl)

noted-twice : (used : Use) (r : VariableUses) → noted used (noted used r) ≡ noted used r
noted-twice (kinds.Read by) r = ap (λ ks. let s : VariableUses = record r { readers = ks } in s) (once-twice r.readers by)
noted-twice (kinds.Written by) r = ap (λ ks. let s : VariableUses = record r { writers = ks } in s) (once-twice r.writers by)
noted-twice kinds.Watched r = refl

pub noted_all-mapped : (used : Use) (vs : List ℕ) (F : ℕ → VariableUses) (n : ℕ) → noted_all used vs (map F (range_with_len 0 n)) ≡ map (λ j. cond (is_among vs j) (noted used (F j)) (F j)) (range_with_len 0 n)
noted_all-mapped used [] F n = refl
noted_all-mapped used (v ∷ vs) F n =
    let G : ℕ → VariableUses = λ j. cond (v == j) (noted used (F j)) (F j) in
    ap (noted_all used vs) (place-mapped (noted used) F v v 0 n (omega arith)) ∙ noted_all-mapped used vs G n
    ∙ same_on_range (λ j. cond (is_among vs j) (noted used (G j)) (G j)) (λ j. cond (is_among (v ∷ vs) j) (noted used (F j)) (F j)) 0 n (λ j from. one_change (noted used) (v == j) (is_among vs j) (F j) (noted-twice used (F j)))

-- ---- one vertex after the other

-- a row, by its place
abbrev row : (ℕ → List ℕ) → (ℕ → List ℕ) → (ℕ → Bool) → ℕ → VariableUses
row R W M j = record { readers = R j; writers = W j; watched = M j }

-- no row ends with this place or a later one
abbrev Before : (ℕ → List ℕ) → ℕ → Type 0
Before R k = (j i : ℕ) → k ≤ i → ends_with (R j) i ≡ false

-- the rows with the place added where it is one of these
abbrev with_user : List ℕ → ℕ → (ℕ → List ℕ) → ℕ → List ℕ
with_user vs k R j = R j ++ cond (is_among vs j) (k ∷ []) []

added : (xs : List ℕ) (k : ℕ) (b : Bool) → ends_with xs k ≡ false → cond b (once xs k) xs ≡ xs ++ cond b (k ∷ []) []
added xs k true new = ap (λ b. cond b xs (xs ++ k ∷ [])) new
added xs k false new = sym (append-nil xs)

before-more : (vs : List ℕ) (k : ℕ) (R : ℕ → List ℕ) → Before R k → Before (with_user vs k R) (k + 1)
before-more vs k R before j i later = tested (is_among vs j) where
  tested : (b : Bool) → ends_with (R j ++ cond b (k ∷ []) []) i ≡ false
  tested true = ends-snoc (R j) k i ∙ different k i (omega (arith, later))
  tested false = ap (λ xs. ends_with xs i) (append-nil (R j)) ∙ before j i (omega (arith, later))

reader-added : (vs : List ℕ) (k : ℕ) (R W : ℕ → List ℕ) (M : ℕ → Bool) (n : ℕ) → Before R k → noted_all (kinds.Read k) vs (map (row R W M) (range_with_len 0 n)) ≡ map (row (with_user vs k R) W M) (range_with_len 0 n)
reader-added vs k R W M n before =
    noted_all-mapped (kinds.Read k) vs (row R W M) n
    ∙ same_on_range (λ j. cond (is_among vs j) (noted (kinds.Read k) (row R W M j)) (row R W M j)) (row (with_user vs k R) W M) 0 n (λ j from. one j (is_among vs j)) where
      one : (j : ℕ) (b : Bool) → cond b (noted (kinds.Read k) (row R W M j)) (row R W M j) ≡ row (λ j. R j ++ cond b (k ∷ []) []) W M j
      one j true = ap (λ ks. row (λ j. ks) W M j) (added (R j) k true (before j k (omega arith)))
      one j false = ap (λ ks. row (λ j. ks) W M j) (added (R j) k false (before j k (omega arith)))

writer-added : (vs : List ℕ) (k : ℕ) (R W : ℕ → List ℕ) (M : ℕ → Bool) (n : ℕ) → Before W k → noted_all (kinds.Written k) vs (map (row R W M) (range_with_len 0 n)) ≡ map (row R (with_user vs k W) M) (range_with_len 0 n)
writer-added vs k R W M n before =
    noted_all-mapped (kinds.Written k) vs (row R W M) n
    ∙ same_on_range (λ j. cond (is_among vs j) (noted (kinds.Written k) (row R W M j)) (row R W M j)) (row R (with_user vs k W) M) 0 n (λ j from. one j (is_among vs j)) where
      one : (j : ℕ) (b : Bool) → cond b (noted (kinds.Written k) (row R W M j)) (row R W M j) ≡ row R (λ j. W j ++ cond b (k ∷ []) []) M j
      one j true = ap (λ ks. row R (λ j. ks) M j) (added (W j) k true (before j k (omega arith)))
      one j false = ap (λ ks. row R (λ j. ks) M j) (added (W j) k false (before j k (omega arith)))

-- the rows with the places of all users added
abbrev with_users : (EventVertex → List ℕ) → ℕ → List EventVertex → (ℕ → List ℕ) → ℕ → List ℕ
with_users uses k vs R j = R j ++ places_where (λ (w : EventVertex). is_among (uses w) j) k vs

pub noted_vertices-mapped : (vs : List EventVertex) (k : ℕ) (R W : ℕ → List ℕ) (M : ℕ → Bool) (n : ℕ) → Before R k → Before W k → noted_vertices k vs (map (row R W M) (range_with_len 0 n)) ≡ map (row (with_users vertex_reads k vs R) (with_users vertex_writes k vs W) M) (range_with_len 0 n)
noted_vertices-mapped [] k R W M n before_r before_w =
    same_on_range (row R W M) (row (with_users vertex_reads k [] R) (with_users vertex_writes k [] W) M) 0 n (λ j from. ap₂ (λ rs ws. row (λ j. rs) (λ j. ws) M j) (sym (append-nil (R j))) (sym (append-nil (W j))))
noted_vertices-mapped (v ∷ vs) k R W M n before_r before_w =
    let reads_noted = with_user (vertex_reads v) k R in
    let writes_noted = with_user (vertex_writes v) k W in
    ap (noted_vertices (k + 1) vs) (ap (noted_all (kinds.Written k) (vertex_writes v)) (reader-added (vertex_reads v) k R W M n before_r) ∙ writer-added (vertex_writes v) k reads_noted W M n before_w)
    ∙ noted_vertices-mapped vs (k + 1) reads_noted writes_noted M n (before-more (vertex_reads v) k R before_r) (before-more (vertex_writes v) k W before_w)
    ∙ same_on_range (row (with_users vertex_reads (k + 1) vs reads_noted) (with_users vertex_writes (k + 1) vs writes_noted) M) (row (with_users vertex_reads k (v ∷ vs) R) (with_users vertex_writes k (v ∷ vs) W) M) 0 n
    (λ j from. ap₂ (λ rs ws. row (λ j. rs) (λ j. ws) M j)
    (append_assoc (R j) (cond (is_among (vertex_reads v) j) (k ∷ []) []) (places_where (λ (w : EventVertex). is_among (vertex_reads w) j) (k + 1) vs))
    (append_assoc (W j) (cond (is_among (vertex_writes v) j) (k ∷ []) []) (places_where (λ (w : EventVertex). is_among (vertex_writes w) j) (k + 1) vs)))

-- ---- the table

pub noted-table : (g : EventGraph) → all_noted g ≡ use_table g
noted-table g =
    let n = length g.variables in
    let none : ℕ → List ℕ = λ j. [] in
    let M : ℕ → Bool = is_among (watched_variables g.watch) in
    ap (noted_vertices 0 g.vertices)
    (noted_all-mapped kinds.Watched (watched_variables g.watch) (λ j. no_uses) n
    ∙ same_on_range (λ j. cond (is_among (watched_variables g.watch) j) (noted kinds.Watched no_uses) no_uses) (row none none M) 0 n (λ j from. flag (is_among (watched_variables g.watch) j)))
    ∙ noted_vertices-mapped g.vertices 0 none none M n (λ j i later. refl) (λ j i later. refl) where
      flag : (b : Bool) → cond b (noted kinds.Watched no_uses) no_uses ≡ record { readers = []; writers = []; watched = b }
      flag true = refl
      flag false = refl
