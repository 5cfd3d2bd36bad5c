-- Each change keeps a state in range.
use Rattle.std.proofs.Common.{◌≡◌, ℕ, zero, suc, ℤ, pos, negsuc, Bool, true, false, cond, ◌&&◌, int_le, int_lt, List, [], ◌∷◌, replicate, slice_index_or, slice_set, zip, Ok, Err, refl, sym, ap₂, subst, arith, All, IsTrue, map, length, ◌<◌, ◌∙◌}
use Rattle.std.proofs.lemmas.Bool.Decides.{nat_tests}
use Rattle.std.proofs.lemmas.List.{length-replicate}
use lib.Pointwise.{pointwise, pointwise_long}
use Rattle.sig_base.specs.declared.fault.FaultKind.{FaultKind}
use Rattle.sig_base.specs.Stream.{word}
use Rattle.model_core.specs.EventGraph.{EventGraph, Variable, StateChange, Set, Draw}
use Rattle.model_core.specs.Run.State.{State, Place, no_variable, variable_at, cell_count, within, in_ranges, in_range, initial_state, cells_of, cell_at, with_cell}
use Rattle.model_core.specs.Run.Value.{OrFault, each, value_of, place_of}
use Rattle.model_core.specs.Run.Changes.{ChangeState, kept, store, set_all, taken_from, drawn_value, one_more, make_change}
use Rattle.model_core.specs.Run.Machine.{Note, Goes}
use Rattle.model_core.specs.Run.History.{Moment, next_move}
use Rattle.model_core.proofs.Results.{bind_ok, in_turn-keeps}
use Rattle.run_laws.proofs.Keeping.{Kept, next_move-keeps}
use Rattle.model_core.proofs.BothTrue.{and_first, and_second}

int_le-refl : (a : ℤ) → int_le a a ≡ true
int_le-refl (pos a) = grind (arith, nat_tests)
int_le-refl (negsuc a) = grind (arith, nat_tests)

int_le-trans : (a b c : ℤ) → int_le a b ≡ true → int_le b c ≡ true → int_le a c ≡ true
int_le-trans (pos a) (pos b) (pos c) e h = grind (arith, nat_tests)
int_le-trans (pos a) (pos b) (negsuc c) e h = cc
int_le-trans (pos a) (negsuc b) c e h = cc
int_le-trans (negsuc a) (pos b) (pos c) e h = refl
int_le-trans (negsuc a) (pos b) (negsuc c) e h = cc
int_le-trans (negsuc a) (negsuc b) (pos c) e h = refl
int_le-trans (negsuc a) (negsuc b) (negsuc c) e h = grind (arith, nat_tests)

-- what is stored lies in a range that isn't empty
kept-cases : (lo hi x y : ℤ) (k : FaultKind) (b clip low : Bool) → within lo hi x ≡ b → int_le lo hi ≡ true → (let r : OrFault ℤ = cond b (Ok x) (cond clip (Ok (cond low lo hi)) (Err k)) in r ≡ Ok y) → within lo hi y ≡ true
kept-cases lo hi x y k true clip low e nonempty done =
    let same : x ≡ y = cc in subst (λ z. within lo hi z ≡ true) same e
kept-cases lo hi x y k false true true e nonempty done =
    let same : lo ≡ y = cc in subst (λ z. within lo hi z ≡ true) same (ap₂ (λ a b. a && b) (int_le-refl lo) nonempty)
kept-cases lo hi x y k false true false e nonempty done =
    let same : hi ≡ y = cc in subst (λ z. within lo hi z ≡ true) same (ap₂ (λ a b. a && b) nonempty (int_le-refl hi))
kept-cases lo hi x y k false false low e nonempty done = cc

pub kept-within : (v : Variable) (x y old : ℤ) → within v.lo v.hi old ≡ true → kept v x ≡ Ok y → within v.lo v.hi y ≡ true
kept-within v x y old inside done =
    kept-cases v.lo v.hi x y _ (within v.lo v.hi x) v.clip (int_lt x v.lo) refl (int_le-trans v.lo old v.hi (and_first (int_le v.lo old) (int_le old v.hi) inside) (and_second (int_le v.lo old) (int_le old v.hi) inside)) done

-- an element is replaced by one that passes beside the same one
pointwise-set : {A B : Type 0} (E : A → B → Bool) (xs : List A) (ys : List B) (k : ℕ) (y : B) (d : A) (c : B) → pointwise E xs ys ≡ true → (E (slice_index_or xs k d) (slice_index_or ys k c) ≡ true → E (slice_index_or xs k d) y ≡ true) → pointwise E xs (slice_set ys k y) ≡ true
pointwise-set E [] [] k y d c e passes = refl
pointwise-set E [] (b ∷ ys) k y d c e passes = cc
pointwise-set E (a ∷ xs) [] k y d c e passes = cc
pointwise-set E (a ∷ xs) (b ∷ ys) zero y d c e passes =
    ap₂ (λ s t. s && t) (passes (and_first (E a b) (pointwise E xs ys) e)) (and_second (E a b) (pointwise E xs ys) e)
pointwise-set E (a ∷ xs) (b ∷ ys) (suc k) y d c e passes =
    ap₂ (λ s t. s && t) (and_first (E a b) (pointwise E xs ys) e) (pointwise-set E xs ys k y d c (and_second (E a b) (pointwise E xs ys) e) passes)

pub replicate-get : {A : Type 0} (n k : ℕ) (a : A) → slice_index_or (replicate n a) k a ≡ a
replicate-get zero k a = refl
replicate-get (suc n) zero a = refl
replicate-get (suc n) (suc k) a = replicate-get n k a

store-in_range : (g : EventGraph) (p : Place × ℤ) (s t : State) → in_range g s ≡ true → store g p s ≡ Ok t → in_range g t ≡ true
store-in_range g (p, x) s t ok done =
    let v = variable_at g p.variable in
    let values = cells_of s p.variable in
    let (y, is_kept, is_stored) = bind_ok (kept v x) (λ y. Ok (with_cell s p y)) t done in
    let E : Variable → List ℤ → Bool = λ v values. in_ranges (replicate (cell_count v) v) values in
    let F : Variable → ℤ → Bool = λ v x. within v.lo v.hi x in
    let stays : in_range g (with_cell s p y) ≡ true =
    pointwise-set E g.variables s p.variable (slice_set values p.index y) _ [] ok (λ inside.
    pointwise-set F (replicate (cell_count v) v) values p.index y v (pos 0) inside (λ old.
    subst (λ w. F w y ≡ true) (sym (replicate-get (cell_count v) p.index v)) (kept-within v x y (slice_index_or values p.index (pos 0)) (subst (λ w. F w (slice_index_or values p.index (pos 0)) ≡ true) (replicate-get (cell_count v) p.index v) old) is_kept))) in
    let same : with_cell s p y ≡ t = cc in
    subst (λ u. in_range g u ≡ true) same stays

change-in_range : (g : EventGraph) (seed clk : ℕ) (c : StateChange) (d e : ChangeState) → in_range g d.state ≡ true → make_change g seed clk c d ≡ Ok e → in_range g e.state ≡ true
change-in_range g seed clk (Set targets rights) d e ok done =
    let (s, is_set, at_end) = bind_ok (set_all g clk targets rights d.state) (λ s. Ok (record d { state = s })) e done in
    let (values, at_values, after_values) = bind_ok (each (value_of g d.state clk) rights) _ s is_set in
    let (places, at_places, stored) = bind_ok (each (place_of g d.state clk) targets) _ s after_values in
    let stays : in_range g s ≡ true = in_turn-keeps (λ (s : State). in_range g s ≡ true) (store g) (λ p a b. store-in_range g p a b) (zip places values) d.state s ok stored in
    let same : s ≡ e.state = cc in
    subst (λ u. in_range g u ≡ true) same stays
change-in_range g seed clk (Draw target stream choice) d e ok done =
    let (p, at_place, after_place) = bind_ok (place_of g d.state clk target) _ e done in
    let (s, stored, at_end) = bind_ok (store g (p, drawn_value g choice (word seed stream (taken_from d.taken stream))) d.state) (λ s. Ok (record { state = s; taken = one_more d.taken stream })) e after_place in
    let same : s ≡ e.state = cc in
    subst (λ u. in_range g u ≡ true) same (store-in_range g (p, drawn_value g choice (word seed stream (taken_from d.taken stream))) d.state s ok stored)

pub in_range-kept : (g : EventGraph) → Kept g (λ s. in_range g s ≡ true)
in_range-kept g = record { by_store = store-in_range g; by_change = change-in_range g }

pub runs_keep_range : (g : EventGraph) (seed until : ℕ) (m later : Moment) (notes : List Note) → IsTrue (in_range g m.now.state) → next_move g seed until m ≡ Goes notes later → IsTrue (in_range g later.now.state)
runs_keep_range g seed until m later notes inside e = next_move-keeps g (λ s. in_range g s ≡ true) (in_range-kept g) seed until m inside notes later e

in_ranges-replicate : (v : Variable) (x : ℤ) (n : ℕ) → within v.lo v.hi x ≡ true → in_ranges (replicate n v) (replicate n x) ≡ true
in_ranges-replicate v x zero inside = refl
in_ranges-replicate v x (suc n) inside = ap₂ (λ a b. a && b) inside (in_ranges-replicate v x n inside)

begin_in_range : (vs : List Variable) → All (λ v. IsTrue (within v.lo v.hi v.initial)) vs → pointwise (λ (v : Variable) (values : List ℤ). in_ranges (replicate (cell_count v) v) values) vs (map (λ v. replicate (cell_count v) v.initial) vs) ≡ true
begin_in_range [] inside = refl
begin_in_range (v ∷ vs) inside =
    ap₂ (λ a b. a && b) (in_ranges-replicate v v.initial (cell_count v) (inside 0 v (omega arith))) (begin_in_range vs (λ k d below. inside (suc k) d (omega arith)))

pub starts_in_range : (g : EventGraph) → All (λ v. IsTrue (within v.lo v.hi v.initial)) g.variables → IsTrue (in_range g (initial_state g))
starts_in_range g inside = begin_in_range g.variables inside

-- ---- what a state in range holds

each-long : (vs : List Variable) (s : State) (d : Variable) → pointwise (λ (v : Variable) (values : List ℤ). in_ranges (replicate (cell_count v) v) values) vs s ≡ true → (v : ℕ) → v < length vs → length (slice_index_or s v []) ≡ cell_count (slice_index_or vs v d)
each-long [] s d e v below = absurd (omega (arith, below))
each-long (w ∷ vs) [] d e v below = cc
each-long (w ∷ vs) (values ∷ s) d e zero below =
    sym (pointwise_long (λ (v : Variable) (x : ℤ). within v.lo v.hi x) (replicate (cell_count w) w) values (and_first (in_ranges (replicate (cell_count w) w) values) _ e)) ∙ length-replicate (cell_count w) w
each-long (w ∷ vs) (values ∷ s) d e (suc v) below = each-long vs s d (and_second (in_ranges (replicate (cell_count w) w) values) _ e) v (omega (arith, below))

-- as many values as the variable declares
pub cells_are_declared : (g : EventGraph) (s : State) (v : ℕ) → IsTrue (in_range g s) → v < length g.variables → length (cells_of s v) ≡ cell_count (variable_at g v)
cells_are_declared g s v inside below = each-long g.variables s _ inside v below

same-within : (n i : ℕ) (w : Variable) (values : List ℤ) → i < n → in_ranges (replicate n w) values ≡ true → within w.lo w.hi (slice_index_or values i (pos 0)) ≡ true
same-within zero i w values below e = absurd (omega arith)
same-within (suc n) i w [] below e = cc
same-within (suc n) zero w (x ∷ values) below e = and_first (within w.lo w.hi x) _ e
same-within (suc n) (suc i) w (x ∷ values) below e = same-within n i w values (omega arith) (and_second (within w.lo w.hi x) _ e)

each-within : (vs : List Variable) (s : State) → pointwise (λ (v : Variable) (values : List ℤ). in_ranges (replicate (cell_count v) v) values) vs s ≡ true → (v i : ℕ) → i < cell_count (slice_index_or vs v no_variable) → within (slice_index_or vs v no_variable).lo (slice_index_or vs v no_variable).hi (slice_index_or (slice_index_or s v []) i (pos 0)) ≡ true
each-within [] [] e v i below = refl
each-within [] (values ∷ s) e v i below = cc
each-within (w ∷ vs) [] e v i below = cc
each-within (w ∷ vs) (values ∷ s) e zero i below = same-within (cell_count w) i w values below (and_first (in_ranges (replicate (cell_count w) w) values) _ e)
each-within (w ∷ vs) (values ∷ s) e (suc v) i below = each-within vs s (and_second (in_ranges (replicate (cell_count w) w) values) _ e) v i below

-- each cell lies in its variable's range, and what names no variable holds 0
pub cells_lie_in_range : (g : EventGraph) (s : State) (v i : ℕ) → IsTrue (in_range g s) → i < cell_count (variable_at g v) → within (variable_at g v).lo (variable_at g v).hi (cell_at s (record { variable = v; index = i })) ≡ true
cells_lie_in_range g s v i inside below = each-within g.variables s inside v i below
