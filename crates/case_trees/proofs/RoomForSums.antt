-- Sums within the limits have room to be added up.
use Rattle.std.proofs.Common.{◌≡◌, ℕ, zero, suc, ◌+◌, ◌*◌, ◌≤◌, nat_le, ℤ, pos, neg_ℤ, ◌+ℤ◌, ◌≤ℤ◌, int_le, Bool, true, false, cond, ◌&&◌, refl, arith, lit≤}
use Rattle.std.proofs.lemmas.Int.{ints}
use Rattle.std.proofs.Math.Nat.{mul-le-mul_left}
use Rattle.model_core.proofs.BothTrue.{and_first, and_second}
use Rattle.sig_base.proofs.Tests.{true-int_le, int_le-true}
use Rattle.std.specs.Ordering.{int_eq}
use Rattle.tree_laws.specs.LinearSums.{SumAtom, SumTerms, NoTerms, Term, same_atom, with_term, terms_added}
use Rattle.tree_laws.specs.Limits.{up_to, count, small_coefficients, COEFFICIENT_MAX, TERMS_MAX}
use Rattle.case_trees.specs.Rooms.{COEFFICIENT_ROOM, has_room, have_room}

both : (a b : Bool) → a ≡ true → b ≡ true → a && b ≡ true
both true true e f = refl
both true false e f = f
both false b e f = e

pub record UpTo (n : ℕ) (c : ℤ) : Type 0 where
  pub low : neg_ℤ (pos n) ≤ℤ c
  pub high : c ≤ℤ pos n

pub true-up_to : (n : ℕ) (c : ℤ) → up_to n c ≡ true → UpTo n c
true-up_to n c e = record { low = true-int_le (neg_ℤ (pos n)) c (and_first (int_le (neg_ℤ (pos n)) c) (int_le c (pos n)) e); high = true-int_le c (pos n) (and_second (int_le (neg_ℤ (pos n)) c) (int_le c (pos n)) e) }

pub up_to-true : (n : ℕ) (c : ℤ) → UpTo n c → up_to n c ≡ true
up_to-true n c h = both (int_le (neg_ℤ (pos n)) c) (int_le c (pos n)) (int_le-true _ _ h.low) (int_le-true _ _ h.high)

abbrev pub Bounded : ℕ → SumTerms → Type 0
Bounded n NoTerms = Unit {0}
Bounded n (Term c a ts) = UpTo n c × Bounded n ts

small-bounded : (ts : SumTerms) → small_coefficients ts ≡ true → Bounded COEFFICIENT_MAX ts
unfolding small_coefficients
small-bounded NoTerms e = tt
small-bounded (Term c a ts) e = (true-up_to COEFFICIENT_MAX c (and_first _ _ e), small-bounded ts (and_second (up_to COEFFICIENT_MAX c) _ e))

wider : (m n : ℕ) (c : ℤ) → m ≤ n → UpTo m c → UpTo n c
wider m n c le h = let low = h.low in let high = h.high in record { low = omega (arith, ints); high = omega (arith, ints) }

bounded-wider : (m n : ℕ) (ts : SumTerms) → m ≤ n → Bounded m ts → Bounded n ts
bounded-wider m n NoTerms le h = tt
bounded-wider m n (Term c a ts) le h = (wider m n c le h.0, bounded-wider m n ts le h.1)

sum-up_to : (m n : ℕ) (c d : ℤ) → UpTo m c → UpTo n d → UpTo (n + m) (c +ℤ d)
sum-up_to m n c d h i = let low = h.low in let high = h.high in let low2 = i.low in let high2 = i.high in record { low = omega (arith, ints); high = omega (arith, ints) }

more : (n m : ℕ) → n ≤ n + m
more n m = omega arith

module _ (before : SumAtom → SumAtom → Bool) where
  with_term-bounded : (m n : ℕ) (c : ℤ) (a : SumAtom) (ts : SumTerms) → UpTo m c → Bounded n ts → Bounded (n + m) (with_term before c a ts)
  unfolding with_term
  with_term-bounded m n c a NoTerms h b = (wider m (n + m) c (omega arith) h, tt)
  with_term-bounded m n c a (Term d x ts) h b = by (with_term-bounded m n c a ts h b.1) (same_atom a x) (before a x) (int_eq (c +ℤ d) (pos 0)) where
    by : Bounded (n + m) (with_term before c a ts) → (s t u : Bool) → Bounded (n + m) (cond s (cond u ts (Term (c +ℤ d) x ts)) (cond t (Term c a (Term d x ts)) (Term d x (with_term before c a ts))))
    by rest true t true = bounded-wider n (n + m) ts (more n m) b.1
    by rest true t false = (sum-up_to m n c d h b.0, bounded-wider n (n + m) ts (more n m) b.1)
    by rest false true u = (wider m (n + m) c (omega arith) h, (wider n (n + m) d (more n m) b.0, bounded-wider n (n + m) ts (more n m) b.1))
    by rest false false u = (wider n (n + m) d (more n m) b.0, rest)

  terms_added-bounded : (m n : ℕ) (ts us : SumTerms) → Bounded m ts → Bounded n us → Bounded (n + count ts * m) (terms_added before ts us)
  unfolding terms_added count
  terms_added-bounded m n NoTerms us h i = bounded-wider n (n + zero * m) us (more n (zero * m)) i
  terms_added-bounded m n (Term c a ts) us h i =
      bounded-wider (n + count ts * m + m) (n + suc (count ts) * m) _ (step m n (count ts)) (with_term-bounded m (n + count ts * m) c a (terms_added before ts us) h.0 (terms_added-bounded m n ts us h.1 i)) where
        step : (m n k : ℕ) → n + k * m + m ≤ n + suc k * m
        step m n k = omega arith

  bounded-room : (m n : ℕ) (c : ℤ) (ts : SumTerms) → UpTo m c → Bounded n ts → n + m ≤ COEFFICIENT_ROOM → has_room c ts ≡ true
  unfolding has_room
  bounded-room m n c NoTerms h b le = refl
  bounded-room m n c (Term d a ts) h b le = both _ _ (up_to-true COEFFICIENT_ROOM (c +ℤ d) (wider (n + m) COEFFICIENT_ROOM (c +ℤ d) le (sum-up_to m n c d h b.0))) (bounded-room m n c ts h b.1 le)

  bounded-rooms : (m n : ℕ) (ts us : SumTerms) → Bounded m ts → Bounded n us → n + count ts * m ≤ COEFFICIENT_ROOM → have_room before ts us ≡ true
  unfolding have_room count
  bounded-rooms m n NoTerms us h i le = refl
  bounded-rooms m n (Term c a ts) us h i le =
      both _ _ (bounded-rooms m n ts us h.1 i (less m n (count ts) COEFFICIENT_ROOM le)) (bounded-room m (n + count ts * m) c (terms_added before ts us) h.0 (terms_added-bounded m n ts us h.1 i) (same m n (count ts) COEFFICIENT_ROOM le)) where
        less : (m n k r : ℕ) → n + suc k * m ≤ r → n + k * m ≤ r
        less m n k r h = omega arith

        same : (m n k r : ℕ) → n + suc k * m ≤ r → n + k * m + m ≤ r
        same m n k r h = omega arith

  at_most : (k m r : ℕ) → k ≤ 64 → m + 64 * m ≤ r → m + k * m ≤ r
  at_most k m r h i = let l : m * k ≤ m * 64 = mul-le-mul_left m h in omega arith

  -- two lists within the limits
  pub small-have_room : (ts us : SumTerms) → nat_le (count ts) TERMS_MAX && small_coefficients ts ≡ true → nat_le (count us) TERMS_MAX && small_coefficients us ≡ true → have_room before ts us ≡ true
  small-have_room ts us e f =
      let few : count ts ≤ 64 = few_of (count ts) (and_first _ _ e) in
      bounded-rooms COEFFICIENT_MAX COEFFICIENT_MAX ts us (small-bounded ts (and_second (nat_le (count ts) TERMS_MAX) _ e)) (small-bounded us (and_second (nat_le (count us) TERMS_MAX) _ f)) (at_most (count ts) COEFFICIENT_MAX COEFFICIENT_ROOM few (lit≤ tt)) where
        few_of : (k : ℕ) → nat_le k 64 ≡ true → k ≤ 64
        few_of k e = grind arith

pub ruleset have_room_rules = (small-have_room)
