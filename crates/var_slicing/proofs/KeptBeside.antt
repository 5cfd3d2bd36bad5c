-- The items beside marked variables, which stay: parameters, targets and values.
use Rattle.std.proofs.Common.{◌≡◌, ℕ, Bool, true, false, cond, List, [], ◌∷◌, map, zip, refl, ap}
use Rattle.std.specs.List.{AllByRecursion, AllZip}
use Rattle.model_core.specs.declared.model.Kind.{Kind}
use Rattle.model_core.specs.EventGraph.{EventGraph, Expression, Location}
use Rattle.model_core.specs.Rules.MarkedPlaces.{rank, is_marked}
use Rattle.model_core.specs.Rules.Slice.{location_renumbered, items_where_marked, sliced_parameters, sliced_targets}
use Rattle.mark_laws.proofs.Marks.{Marked}
use Rattle.var_slicing.proofs.ValuesLeft.{ReadsMarked}
use Rattle.var_slicing.proofs.ChangesLeft.{IndexReadsMarked}
use Rattle.var_slicing.proofs.NeedsClosed.{SetNeeds, ParameterNeeds}

-- ---- targets and parameters

abbrev pub variables_of : List Location → List ℕ
variables_of ls = map (λ (l : Location). l.variable) ls

pub targets-kept : (marks : List Bool) (ls : List Location) → sliced_targets marks ls ≡ map (location_renumbered (rank marks)) (items_where_marked marks (variables_of ls) ls)
targets-kept marks [] = refl
targets-kept marks (l ∷ ls) = tested (is_marked marks l.variable) (targets-kept marks ls) where
  tested : (b : Bool) → sliced_targets marks ls ≡ map (location_renumbered (rank marks)) (items_where_marked marks (variables_of ls) ls) → cond b (location_renumbered (rank marks) l ∷ sliced_targets marks ls) (sliced_targets marks ls) ≡ map (location_renumbered (rank marks)) (cond b (l ∷ items_where_marked marks (variables_of ls) ls) (items_where_marked marks (variables_of ls) ls))
  tested true e = ap (λ rest. location_renumbered (rank marks) l ∷ rest) e
  tested false e = e

-- a target that stays, and whose index reads marked variables alone
abbrev pub TargetMarked : List Bool → Location → Type 0
TargetMarked marks l = Marked marks l.variable × IndexReadsMarked marks l.index

abbrev pub TargetsRead : List Bool → List Location → Type 0
TargetsRead marks ls = AllByRecursion (λ (l : Location). Marked marks l.variable → IndexReadsMarked marks l.index) ls

-- an item beside a marked variable reads marked ones alone
abbrev pub ValuesRead : List Bool → List ℕ → List Expression → Type 0
ValuesRead marks [] es = AllByRecursion (ReadsMarked marks) es
ValuesRead marks (v ∷ vs) [] = Unit {0}
ValuesRead marks (v ∷ vs) (e ∷ es) = (Marked marks v → ReadsMarked marks e) × ValuesRead marks vs es

pub targets-marked : (marks : List Bool) (ls : List Location) → TargetsRead marks ls → AllByRecursion (TargetMarked marks) (items_where_marked marks (variables_of ls) ls)
targets-marked marks [] reads = tt
targets-marked marks (l ∷ ls) reads = tested (is_marked marks l.variable) refl (targets-marked marks ls reads.1) where
  tested : (b : Bool) → is_marked marks l.variable ≡ b → AllByRecursion (TargetMarked marks) (items_where_marked marks (variables_of ls) ls) → AllByRecursion (TargetMarked marks) (cond b (l ∷ items_where_marked marks (variables_of ls) ls) (items_where_marked marks (variables_of ls) ls))
  tested true marked rest = ((marked, reads.0 marked), rest)
  tested false unmarked rest = rest

pub values-marked : (marks : List Bool) (vs : List ℕ) (es : List Expression) → ValuesRead marks vs es → AllByRecursion (ReadsMarked marks) (items_where_marked marks vs es)
values-marked marks [] es reads = reads
values-marked marks (v ∷ vs) [] reads = tt
values-marked marks (v ∷ vs) (e ∷ es) reads = tested (is_marked marks v) refl (values-marked marks vs es reads.1) where
  tested : (b : Bool) → is_marked marks v ≡ b → AllByRecursion (ReadsMarked marks) (items_where_marked marks vs es) → AllByRecursion (ReadsMarked marks) (cond b (e ∷ items_where_marked marks vs es) (items_where_marked marks vs es))
  tested true marked rest = (reads.0 marked, rest)
  tested false unmarked rest = rest

pub parameters-kept : (marks : List Bool) (vs : List ℕ) → sliced_parameters marks vs ≡ map (rank marks) (items_where_marked marks vs vs)
parameters-kept marks [] = refl
parameters-kept marks (v ∷ vs) = tested (is_marked marks v) (parameters-kept marks vs) where
  tested : (b : Bool) → sliced_parameters marks vs ≡ map (rank marks) (items_where_marked marks vs vs) → cond b (rank marks v ∷ sliced_parameters marks vs) (sliced_parameters marks vs) ≡ map (rank marks) (cond b (v ∷ items_where_marked marks vs vs) (items_where_marked marks vs vs))
  tested true e = ap (λ rest. rank marks v ∷ rest) e
  tested false e = e

pub parameters-marked : (marks : List Bool) (vs : List ℕ) → AllByRecursion (Marked marks) (items_where_marked marks vs vs)
parameters-marked marks [] = tt
parameters-marked marks (v ∷ vs) = tested (is_marked marks v) refl (parameters-marked marks vs) where
  tested : (b : Bool) → is_marked marks v ≡ b → AllByRecursion (Marked marks) (items_where_marked marks vs vs) → AllByRecursion (Marked marks) (cond b (v ∷ items_where_marked marks vs vs) (items_where_marked marks vs vs))
  tested true marked rest = (marked, rest)
  tested false unmarked rest = rest

-- ---- lists beside one another

pub zip-kept : {A B : Type 0} (R : A → B → Type 0) (marks : List Bool) (vs : List ℕ) (xs : List A) (ys : List B) → AllZip R xs ys → AllZip R (items_where_marked marks vs xs) (items_where_marked marks vs ys)
zip-kept R marks [] xs ys all = all
zip-kept R marks (v ∷ vs) [] [] all = tt
zip-kept R marks (v ∷ vs) [] (y ∷ ys) all = absurd all
zip-kept R marks (v ∷ vs) (x ∷ xs) [] all = absurd all
zip-kept R marks (v ∷ vs) (x ∷ xs) (y ∷ ys) all = tested (is_marked marks v) (zip-kept R marks vs xs ys all.1) where
  tested : (b : Bool) → AllZip R (items_where_marked marks vs xs) (items_where_marked marks vs ys) → AllZip R (cond b (x ∷ items_where_marked marks vs xs) (items_where_marked marks vs xs)) (cond b (y ∷ items_where_marked marks vs ys) (items_where_marked marks vs ys))
  tested true rest = (all.0, rest)
  tested false rest = rest

pub zip-mapped : {A B C : Type 0} (P : A → Type 0) (R : A → B → Type 0) (Q : C → B → Type 0) (f : A → C) → ((x : A) (y : B) → P x → R x y → Q (f x) y) → (xs : List A) (ys : List B) → AllByRecursion P xs → AllZip R xs ys → AllZip Q (map f xs) ys
zip-mapped P R Q f into [] [] all zipped = tt
zip-mapped P R Q f into [] (y ∷ ys) all zipped = absurd zipped
zip-mapped P R Q f into (x ∷ xs) [] all zipped = absurd zipped
zip-mapped P R Q f into (x ∷ xs) (y ∷ ys) all zipped = (into x y all.0 zipped.0, zip-mapped P R Q f into xs ys all.1 zipped.1)

-- the needs of a `set` and of what an edge carries are what their parts read, as there are as many of both
pub set-reads : (g : EventGraph) (marks : List Bool) (R : Location → Kind → Type 0) (S : Expression → Kind → Type 0) (ls : List Location) (es : List Expression) (ks : List Kind) → AllZip R ls ks → AllZip S es ks → AllByRecursion (SetNeeds g marks) (zip ls es) → TargetsRead marks ls × ValuesRead marks (variables_of ls) es
set-reads g marks R S [] [] ks taken given needs = (tt, tt)
set-reads g marks R S [] (e ∷ es) [] taken given needs = absurd given
set-reads g marks R S [] (e ∷ es) (k ∷ ks) taken given needs = absurd taken
set-reads g marks R S (l ∷ ls) [] [] taken given needs = absurd taken
set-reads g marks R S (l ∷ ls) [] (k ∷ ks) taken given needs = absurd given
set-reads g marks R S (l ∷ ls) (e ∷ es) [] taken given needs = absurd taken
set-reads g marks R S (l ∷ ls) (e ∷ es) (k ∷ ks) taken given needs =
    let reads = needs.0.0 in
    let rest = set-reads g marks R S ls es ks taken.1 given.1 needs.1 in
    (((λ marked. (reads marked).0), rest.0), ((λ marked. (reads marked).1), rest.1))

pub carried-reads : (g : EventGraph) (marks : List Bool) (R : ℕ → Kind → Type 0) (S : Expression → Kind → Type 0) (vs : List ℕ) (es : List Expression) (ks : List Kind) → AllZip R vs ks → AllZip S es ks → AllByRecursion (ParameterNeeds g marks) (zip vs es) → ValuesRead marks vs es
carried-reads g marks R S [] [] ks taken given needs = tt
carried-reads g marks R S [] (e ∷ es) [] taken given needs = absurd given
carried-reads g marks R S [] (e ∷ es) (k ∷ ks) taken given needs = absurd taken
carried-reads g marks R S (v ∷ vs) [] ks taken given needs = tt
carried-reads g marks R S (v ∷ vs) (e ∷ es) [] taken given needs = absurd taken
carried-reads g marks R S (v ∷ vs) (e ∷ es) (k ∷ ks) taken given needs = ((λ marked. (needs.0.0 marked).1), carried-reads g marks R S vs es ks taken.1 given.1 needs.1)
