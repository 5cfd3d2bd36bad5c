-- Ends of ranges that aren't the declared ones. A round leaves no more of them, and a late one fewer unless nothing changes.
use Rattle.std.proofs.Common.{◌≡◌, ◌⊎◌, inl, inr, ℕ, suc, ◌+◌, ◌*◌, ◌<◌, ◌≤◌, ℤ, ◌≤ℤ◌, nat_le, int_lt, Bool, true, false, ◌&&◌, cond, List, [], ◌∷◌, length, slice_index_or, refl, sym, ◌∙◌, ap, ap₂, subst, arith}
use Rattle.std.specs.Ordering.{int_eq}
use Rattle.std.proofs.lemmas.Int.{ints}
use Rattle.model_core.specs.EventGraph.{EventGraph, Variable}
use Rattle.model_core.specs.Run.State.{no_variable, variable_at}
use Rattle.bound_laws.proofs.Soundness.Ends.{of_not_lt}
use Rattle.model_core.specs.declared.incoming.Incoming.{Incoming}
use Rattle.model_core.specs.declared.var_range.VarRange.{VarRange}
use Rattle.model_core.specs.Ranges.OtherRanges.{declared_range, range_at}
use Rattle.model_core.specs.Ranges.Inductive.{is_fixed, Encloses, FitsVariable}
use Rattle.model_core.specs.Ranges.Inference.{grown_range, ends_moved, next_range, round}
use Rattle.model_core.specs.Ranges.Incoming.{incoming}
use Rattle.range_infer.proofs.NarrowModels.{fits_everywhere}
use Rattle.range_infer.proofs.OneRound.{Growing, all-holds, all-inside, variable_given, variables_given}
use Rattle.std.specs.List.{fold}
use Rattle.sig_base.proofs.Tests.{int_eq-true}
use Rattle.model_core.proofs.SameExpressions.{true-int_eq}

-- 0 where an end is the declared one, and else 1
abbrev pub open_end : ℤ → ℤ → ℕ
open_end declared x = cond (int_eq x declared) 0 1

abbrev pub open_ends : List Variable → List VarRange → ℕ
open_ends (v ∷ vs) (r ∷ rs) = open_end v.lo r.lo + open_end v.hi r.hi + open_ends vs rs
open_ends vs rs = 0

at_most_one : (d x : ℤ) → open_end d x ≤ 1
at_most_one d x = by (int_eq x d) where
  by : (b : Bool) → cond b 0 1 ≤ 1
  by true = omega arith
  by false = omega arith

pub at_most_two_each : (vs : List Variable) (rs : List VarRange) → open_ends vs rs ≤ 2 * length vs
at_most_two_each [] rs = omega arith
at_most_two_each (v ∷ vs) [] = omega arith
at_most_two_each (v ∷ vs) (r ∷ rs) = omega (arith, at_most_one v.lo r.lo, at_most_one v.hi r.hi, at_most_two_each vs rs)

-- an end moves from x to y: a declared one stays, and where it must jump it stays or goes to the declared one
pub record EndMoves (jumps : Bool) (declared x y : ℤ) : Type 0 where
  pub stays : x ≡ declared → y ≡ declared
  pub lands : jumps ≡ true → (y ≡ x) ⊎ (y ≡ declared)

closed : (d x : ℤ) → x ≡ d → open_end d x ≡ 0
closed d x e = ap (λ (b : Bool). cond b 0 1) (int_eq-true x d e)

no_more : (jumps : Bool) (d x y : ℤ) → EndMoves jumps d x y → open_end d y ≤ open_end d x
no_more jumps d x y m = by (int_eq x d) refl where
  by : (b : Bool) → int_eq x d ≡ b → open_end d y ≤ cond b 0 1
  by true e = let none = closed d y (m.stays (true-int_eq x d e)) in omega (arith, none)
  by false e = at_most_one d y

same_or_fewer : (jumps : Bool) (d x y : ℤ) → EndMoves jumps d x y → jumps ≡ true → (y ≡ x) ⊎ (open_end d y < open_end d x)
same_or_fewer jumps d x y m jump = by (int_eq x d) refl (m.lands jump) where
  by : (b : Bool) → int_eq x d ≡ b → (y ≡ x) ⊎ (y ≡ d) → (y ≡ x) ⊎ (open_end d y < cond b 0 1)
  by b e (inl same) = inl same
  by true e (inr there) = inl (there ∙ sym (true-int_eq x d e))
  by false e (inr there) = let none = closed d y there in inr (omega (arith, none))

pub record RangeMoves (jumps : Bool) (v : Variable) (r s : VarRange) : Type 0 where
  pub low : EndMoves jumps v.lo r.lo s.lo
  pub high : EndMoves jumps v.hi r.hi s.hi

-- no more open ends, and where ends must jump the same ranges or fewer
pub record Fewer (jumps : Bool) (vs : List Variable) (rs ss : List VarRange) : Type 0 where
  pub no_more : open_ends vs ss ≤ open_ends vs rs
  pub fewer : jumps ≡ true → (ss ≡ rs) ⊎ (open_ends vs ss < open_ends vs rs)

of_one : (jumps : Bool) (v : Variable) (r s : VarRange) → RangeMoves jumps v r s → jumps ≡ true → (s ≡ r) ⊎ (open_end v.lo s.lo + open_end v.hi s.hi < open_end v.lo r.lo + open_end v.hi r.hi)
of_one jumps v r s m jump = by (same_or_fewer jumps v.lo r.lo s.lo m.low jump) (same_or_fewer jumps v.hi r.hi s.hi m.high jump) where
  by : (s.lo ≡ r.lo) ⊎ (open_end v.lo s.lo < open_end v.lo r.lo) → (s.hi ≡ r.hi) ⊎ (open_end v.hi s.hi < open_end v.hi r.hi) → (s ≡ r) ⊎ (open_end v.lo s.lo + open_end v.hi s.hi < open_end v.lo r.lo + open_end v.hi r.hi)
  by (inl a) (inl b) = inl (ap₂ (λ (x y : ℤ). record { lo = x; hi = y }) a b)
  by (inl a) (inr b) = let low = no_more jumps v.lo r.lo s.lo m.low in inr (omega (arith, b, low))
  by (inr a) h = let high = no_more jumps v.hi r.hi s.hi m.high in inr (omega (arith, a, high))

one_more : (jumps : Bool) (v : Variable) (r s : VarRange) (vs : List Variable) (rs ss : List VarRange) → RangeMoves jumps v r s → Fewer jumps vs rs ss → Fewer jumps (v ∷ vs) (r ∷ rs) (s ∷ ss)
one_more jumps v r s vs rs ss here later = record { no_more = omega (arith, low, high, later.no_more); fewer = λ jump. by (of_one jumps v r s here jump) (later.fewer jump) } where
  low : open_end v.lo s.lo ≤ open_end v.lo r.lo
  low = no_more jumps v.lo r.lo s.lo here.low

  high : open_end v.hi s.hi ≤ open_end v.hi r.hi
  high = no_more jumps v.hi r.hi s.hi here.high

  by : (s ≡ r) ⊎ (open_end v.lo s.lo + open_end v.hi s.hi < open_end v.lo r.lo + open_end v.hi r.hi) → (ss ≡ rs) ⊎ (open_ends vs ss < open_ends vs rs) → (s ∷ ss ≡ r ∷ rs) ⊎ (open_ends (v ∷ vs) (s ∷ ss) < open_ends (v ∷ vs) (r ∷ rs))
  by (inl a) (inl b) = inl (ap₂ (λ (x : VarRange) (xs : List VarRange). x ∷ xs) a b)
  by (inl a) (inr b) = inr (omega (arith, low, high, b))
  by (inr a) h = inr (omega (arith, a, later.no_more))

pub fewer_open : (jumps : Bool) (vs : List Variable) (rs ss : List VarRange) → length rs ≡ length vs → length ss ≡ length vs → ((k : ℕ) → k < length vs → RangeMoves jumps (slice_index_or vs k no_variable) (range_at rs k) (range_at ss k)) → Fewer jumps vs rs ss
fewer_open jumps [] [] [] e f m = record { no_more = omega arith; fewer = λ jump. inl refl }
fewer_open jumps [] [] (s ∷ ss) e f m = absurd (omega arith)
fewer_open jumps [] (r ∷ rs) ss e f m = absurd (omega arith)
fewer_open jumps (v ∷ vs) [] ss e f m = absurd (omega arith)
fewer_open jumps (v ∷ vs) (r ∷ rs) [] e f m = absurd (omega arith)
fewer_open jumps (v ∷ vs) (r ∷ rs) (s ∷ ss) e f m =
    one_more jumps v r s vs rs ss (m 0 (omega arith)) (fewer_open jumps vs rs ss (omega arith) (omega arith) (λ k small. m (suc k) (omega arith)))

-- ---- what a round moves

low_moves : (late : Bool) (d r n : ℤ) → d ≤ℤ n → n ≤ℤ r → EndMoves late d r (cond (late && int_lt n r) d n)
low_moves late d r n inside grown = by late (int_lt n r) refl where
  by : (s t : Bool) → int_lt n r ≡ t → EndMoves s d r (cond (s && t) d n)
  by true true lt = record { stays = λ e. refl; lands = λ jump. inr refl }
  by true false lt = let low = of_not_lt n r lt in record { stays = λ e. omega (arith, ints, e); lands = λ jump. inl (omega (arith, ints, low)) }
  by false t lt = record { stays = λ e. omega (arith, ints, e); lands = λ jump. cc }

high_moves : (late : Bool) (d r n : ℤ) → n ≤ℤ d → r ≤ℤ n → EndMoves late d r (cond (late && int_lt r n) d n)
high_moves late d r n inside grown = by late (int_lt r n) refl where
  by : (s t : Bool) → int_lt r n ≡ t → EndMoves s d r (cond (s && t) d n)
  by true true lt = record { stays = λ e. refl; lands = λ jump. inr refl }
  by true false lt = let high = of_not_lt r n lt in record { stays = λ e. omega (arith, ints, e); lands = λ jump. inl (omega (arith, ints, high)) }
  by false t lt = record { stays = λ e. omega (arith, ints, e); lands = λ jump. cc }

pub next-moves : (g : EventGraph) (ranges : List VarRange) → Growing g ranges → (late : Bool) (takes : List Incoming) (v : ℕ) → RangeMoves late (variable_at g v) (range_at ranges v) (next_range g late takes ranges v)
next-moves g ranges growing late takes v = by (is_fixed g v) where
  w : Variable
  w = variable_at g v

  r : VarRange
  r = range_at ranges v

  f : FitsVariable g v r
  f = fits_everywhere g ranges growing.fitting v

  n : VarRange
  n = fold (grown_range g v) r takes

  inside : Encloses (declared_range w) n
  inside = all-inside g v (omega (arith, ints, f.ordered, f.inside.low, f.inside.high)) r takes f.inside

  wide : Encloses n r
  wide = all-holds g v (omega (arith, ints, f.ordered, f.inside.low, f.inside.high)) r takes

  by : (b : Bool) → RangeMoves late w r (cond b r (ends_moved late (declared_range w) r n))
  by true = record { low = record { stays = λ e. e; lands = λ jump. inl refl }; high = record { stays = λ e. e; lands = λ jump. inl refl } }
  by false = record { low = low_moves late w.lo r.lo n.lo inside.low wide.low; high = high_moves late w.hi r.hi n.hi inside.high wide.high }

-- one round
pub round-fewer : (g : EventGraph) (ranges : List VarRange) → Growing g ranges → (k : ℕ) → Fewer (nat_le 17 k) g.variables ranges (round g k ranges)
round-fewer g ranges growing k =
    let next : ℕ → VarRange = next_range g (nat_le 17 k) (incoming g ranges) ranges in
    fewer_open (nat_le 17 k) g.variables ranges (round g k ranges) growing.fitting.as_many (variables_given g next) (λ v small.
    subst (λ (s : VarRange). RangeMoves (nat_le 17 k) (variable_at g v) (range_at ranges v) s) (sym (variable_given g next v small)) (next-moves g ranges growing (nat_le 17 k) (incoming g ranges) v))
