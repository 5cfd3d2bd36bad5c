-- Operations on sums, and sums settled under what is known.
use Rattle.std.specs.Prelude.{ℤ, pos, negsuc, ◌+ℤ◌, ◌*ℤ◌, int_le, Bool, true, false, not, ◌&&◌, cond, Option, Some}
use Rattle.std.specs.Int.RustNames.{unsigned_abs}
use Rattle.std.specs.Ordering.{int_eq}
use Rattle.tree_laws.specs.LinearSums.{Operation, Mul, Div, Rem, SumAtom, VariableAtom, ReceivedAtom, WordAtom, ClockAtom, CellAtom, OperationAtom, SumTerms, NoTerms, Term, LinearSum, number, atom_sum, same_sum, sum_added, sum_scaled, sum_divisor, sum_divided}
use Rattle.tree_laws.specs.SumValues.{operation_value}
use Rattle.tree_laws.specs.Limits.{◌>>=◌, Interval, limited}
use Rattle.tree_laws.specs.SumEnds.{Ground, Known, atom_ends, sum_ends}

abbrev pub is_number : LinearSum → Bool
is_number s = elim s.terms [ NoTerms ↦ true | Term c a ts ↦ false ]

abbrev pub both_numbers : LinearSum → LinearSum → Bool
both_numbers s t = is_number s && is_number t

-- the atom of an operation on two sums
abbrev pub combined : Operation → LinearSum → LinearSum → LinearSum
combined op s t = atom_sum (OperationAtom op s.terms s.constant t.terms t.constant)

-- within 0..abs(n) - 1
abbrev pub stays_below : ℤ → Interval → Bool
stays_below n e = int_le (pos 0) e.lo && int_le (e.hi +ℤ pos 1) (pos (unsigned_abs n))

module _ (base : Ground) where
  abbrev pub added : LinearSum → LinearSum → Option LinearSum
  added s t = limited (sum_added base.before s t)

  abbrev pub scaled : ℤ → LinearSum → Option LinearSum
  scaled k s = limited (sum_scaled k s)

  abbrev pub subtracted : LinearSum → LinearSum → Option LinearSum
  subtracted s t = do
    u ← scaled (negsuc 0) t
    added s u

  abbrev pub product_in_order : LinearSum → LinearSum → LinearSum
  product_in_order s t = cond (base.sum_before t s) (combined Mul t s) (combined Mul s t)

  -- of two sums that are no numbers
  abbrev pub product : LinearSum → LinearSum → Option LinearSum
  product s t = scaled (sum_divisor s *ℤ sum_divisor t) (product_in_order (sum_divided (sum_divisor s) s) (sum_divided (sum_divisor t) t))

  abbrev pub multiplied : LinearSum → LinearSum → Option LinearSum
  multiplied s t = cond (is_number s) (scaled s.constant t) (cond (is_number t) (scaled t.constant s) (product s t))

  abbrev pub quotient : LinearSum → LinearSum → Option LinearSum
  quotient s t =
      cond (both_numbers s t) (limited (number (operation_value Div s.constant t.constant)))
      (cond (same_sum t (number (pos 1))) (Some s) (limited (combined Div s t)))

  module _ (k : Known) where
    abbrev pub rest : LinearSum → LinearSum → Option LinearSum
    rest s t =
        cond (both_numbers s t) (limited (number (operation_value Rem s.constant t.constant)))
        (cond (is_number t && not (int_eq t.constant (pos 0)))
        (do
          e ← sum_ends base k s
          cond (stays_below t.constant e) (Some s) (limited (combined Rem s t)))
        (limited (combined Rem s t)))

    abbrev pub operation : Operation → LinearSum → LinearSum → Option LinearSum
    operation Mul s t = multiplied s t
    operation Div s t = quotient s t
    operation Rem s t = rest s t

    -- an atom, or its one number
    abbrev pub pinned : SumAtom → Option LinearSum
    pinned a = do
      e ← atom_ends base k a
      Some (cond (int_eq e.lo e.hi) (number e.lo) (atom_sum a))

    -- a multiple of one atom, or its one number
    abbrev pub pinned_multiple : SumTerms → ℤ → Option LinearSum
    pinned_multiple (Term c a NoTerms) n = do
      s ← pinned a
      t ← scaled c s
      added t (number n)
    pinned_multiple ts n = Some (record { terms = ts; constant = n })

    -- a sum, or its one number
    abbrev pub sum_closed : LinearSum → ℤ → Option LinearSum
    sum_closed s c = do
      t ← added s (number c)
      e ← sum_ends base k t
      Some (cond (int_eq e.lo e.hi) (number e.lo) t)

    unfoldable mutual
      -- the sum to which an atom gives way
      pub settled_atom : SumAtom → Option LinearSum
      settled_atom (VariableAtom i) = pinned (VariableAtom i)
      settled_atom (ReceivedAtom i) = pinned (ReceivedAtom i)
      settled_atom (WordAtom i) = pinned (WordAtom i)
      settled_atom ClockAtom = pinned ClockAtom
      settled_atom (CellAtom i ts c) = do
        r ← settled_terms ts
        s ← sum_closed r c
        pinned (CellAtom i s.terms s.constant)
      settled_atom (OperationAtom op ts c us d) = do
        q ← settled_terms ts
        s ← sum_closed q c
        r ← settled_terms us
        t ← sum_closed r d
        o ← operation op s t
        pinned_multiple o.terms o.constant

      pub settled_terms : SumTerms → Option LinearSum
      settled_terms NoTerms = Some (number (pos 0))
      settled_terms (Term c a ts) = do
        s ← settled_atom a
        t ← scaled c s
        r ← settled_terms ts
        added t r

    abbrev pub sum_settled : LinearSum → Option LinearSum
    sum_settled s = do
      r ← settled_terms s.terms
      sum_closed r s.constant
