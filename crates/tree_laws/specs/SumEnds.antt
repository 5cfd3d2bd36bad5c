-- The ends of atoms, lists of terms and sums, under what is known of primitive lists.
use Rattle.std.specs.Prelude.{ℕ, ◌-◌, ◌^◌, max, ℤ, pos, negsuc, neg_ℤ, ◌+ℤ◌, ◌*ℤ◌, int_div, int_le, Bool, cond, List, [], ◌∷◌, Option, Some, None}
use Rattle.std.specs.Int.{int_min, int_max}
use Rattle.std.specs.Int.RustNames.{unsigned_abs}
use Rattle.model_core.specs.Run.State.{within}
use Rattle.model_core.specs.Rules.BoundsTable.{least_of, greatest_of}
use Rattle.tree_laws.specs.LinearSums.{Operation, Mul, Div, Rem, SumAtom, VariableAtom, ReceivedAtom, WordAtom, ClockAtom, CellAtom, OperationAtom, SumTerms, NoTerms, Term, LinearSum, only_atom, same_terms, divisor, primitive}
use Rattle.tree_laws.specs.Limits.{◌>>=◌, Interval, limited_ends}

-- what a model gives: the orders of atoms and of lists of terms, and the ends of atoms in which there is no sum
pub record Ground : Type 0 where
  pub before : SumAtom → SumAtom → Bool
  pub terms_before : SumTerms → SumTerms → Bool
  pub sum_before : LinearSum → LinearSum → Bool
  pub variable : ℕ → Interval
  pub cell : ℕ → Interval
  pub received : ℕ → Interval
  pub word : ℕ → Interval

-- that the value of a primitive list lies between these ends
pub record Fact : Type 0 where
  pub terms : SumTerms
  pub ends : Interval

-- the first fact about a list counts
abbrev pub Known : Type 0
Known = List Fact

unfoldable pub known_of : Known → SumTerms → Option Interval
known_of [] p = None
known_of (f ∷ k) p = cond (same_terms f.terms p) (Some f.ends) (known_of k p)

-- what both have, unless nothing is left
abbrev pub met : Interval → Option Interval → Interval
met e None = e
met e (Some f) = cond (int_le (int_max e.lo f.lo) (int_min e.hi f.hi)) (record { lo = int_max e.lo f.lo; hi = int_min e.hi f.hi }) e

abbrev pub times_ends : ℤ → Interval → Interval
times_ends (pos n) e = record { lo = pos n *ℤ e.lo; hi = pos n *ℤ e.hi }
times_ends (negsuc n) e = record { lo = negsuc n *ℤ e.hi; hi = negsuc n *ℤ e.lo }

abbrev pub plus_ends : Interval → Interval → Interval
plus_ends e f = record { lo = e.lo +ℤ f.lo; hi = e.hi +ℤ f.hi }

-- ---- the rows for products, quotients and rests

abbrev pub ends_of_four : (ℤ → ℤ → ℤ) → Interval → Interval → Interval
ends_of_four f a b = record { lo = least_of (f a.lo b.lo) (f a.lo b.hi) (f a.hi b.lo) (f a.hi b.hi); hi = greatest_of (f a.lo b.lo) (f a.lo b.hi) (f a.hi b.lo) (f a.hi b.hi) }

abbrev pub ends_size : Interval → ℕ
ends_size a = max (unsigned_abs a.lo) (unsigned_abs a.hi)

abbrev pub greatest_rest_by : Interval → ℤ
greatest_rest_by b = pos (max (ends_size b) 1 - 1)

abbrev pub operation_ends : Operation → Interval → Interval → Interval
operation_ends Mul a b = ends_of_four (λ x y. x *ℤ y) a b
operation_ends Div a b = cond (within b.lo b.hi (pos 0)) (record { lo = neg_ℤ (pos (ends_size a)); hi = pos (ends_size a) }) (ends_of_four int_div a b)
operation_ends Rem a b = record {
  lo = cond (int_le (pos 0) a.lo) (pos 0) (int_max a.lo (neg_ℤ (greatest_rest_by b)));
  hi = cond (int_le a.hi (pos 0)) (pos 0) (int_min a.hi (greatest_rest_by b));
}

-- ---- ends under what is known

-- a primitive list of one term has the ends of its atom, which are met with what is known already
abbrev pub met_unless_alone : Known → SumTerms → Interval → Interval
met_unless_alone k NoTerms e = e
met_unless_alone k (Term c a NoTerms) e = e
met_unless_alone k ts e = met e (known_of k ts)

module _ (base : Ground) (k : Known) where
  -- the ends of a sum, from those of its terms over their divisor
  abbrev pub around : SumTerms → ℤ → Interval → Option Interval
  around ts c e = do
    p ← limited_ends (met_unless_alone k (primitive ts) e)
    limited_ends (plus_ends (times_ends (divisor ts) p) (record { lo = c; hi = c }))

  -- ends are limited before they are met with what is known, so that no product beyond the limit is cut to fit
  abbrev pub narrowed : SumAtom → Interval → Option Interval
  narrowed a e = do
    f ← limited_ends e
    Some (met f (known_of k (only_atom a)))

  unfoldable mutual
    pub atom_ends : SumAtom → Option Interval
    atom_ends (VariableAtom i) = narrowed (VariableAtom i) (base.variable i)
    atom_ends (ReceivedAtom i) = narrowed (ReceivedAtom i) (base.received i)
    atom_ends (WordAtom i) = narrowed (WordAtom i) (base.word i)
    atom_ends ClockAtom = narrowed ClockAtom (record { lo = pos 0; hi = pos (2 ^ 48) })
    atom_ends (CellAtom i ts c) = narrowed (CellAtom i ts c) (base.cell i)
    atom_ends (OperationAtom op ts c us d) = do
      e ← terms_ends (divisor ts) ts
      a ← around ts c e
      f ← terms_ends (divisor us) us
      b ← around us d f
      narrowed (OperationAtom op ts c us d) (operation_ends op a b)

    -- of the list that is this one over g, by its atoms
    pub terms_ends : ℤ → SumTerms → Option Interval
    terms_ends g NoTerms = Some (record { lo = pos 0; hi = pos 0 })
    terms_ends g (Term c a ts) = do
      e ← atom_ends a
      f ← terms_ends g ts
      limited_ends (plus_ends (times_ends (int_div c g) e) f)

  -- of a primitive list
  abbrev pub primitive_ends : SumTerms → Option Interval
  primitive_ends p = do
    e ← terms_ends (pos 1) p
    limited_ends (met_unless_alone k p e)

  abbrev pub sum_ends : LinearSum → Option Interval
  sum_ends s = do
    e ← terms_ends (divisor s.terms) s.terms
    around s.terms s.constant e

  -- K where P is at most m, and above m
  abbrev pub known_most : SumTerms → ℤ → Option Known
  known_most p m = do
    e ← primitive_ends p
    Some (record { terms = p; ends = record { lo = e.lo; hi = int_min e.hi m } } ∷ k)

  abbrev pub known_above : SumTerms → ℤ → Option Known
  known_above p m = do
    e ← primitive_ends p
    Some (record { terms = p; ends = record { lo = int_max e.lo (m +ℤ pos 1); hi = e.hi } } ∷ k)
