-- Sums: atoms with coefficients, and a constant.
use Rattle.std.specs.Prelude.{ℕ, zero, suc, ◌%◌, ◌==◌, ℤ, pos, negsuc, ◌+ℤ◌, ◌*ℤ◌, neg_ℤ, int_div, Bool, true, false, ◌&&◌, cond}
use Rattle.std.specs.Ordering.{int_eq}
use Rattle.std.specs.Int.RustNames.{unsigned_abs}

-- the operations that atoms can be
pub data Operation : Type 0 where
  Mul : Operation
  Div : Operation
  Rem : Operation

mutual
  -- a sum inside an atom is a list of terms and its constant
  pub data SumAtom : Type 0 where
    VariableAtom : ℕ → SumAtom
    ReceivedAtom : ℕ → SumAtom
    WordAtom : ℕ → SumAtom
    ClockAtom : SumAtom
    CellAtom : ℕ → SumTerms → ℤ → SumAtom
    OperationAtom : Operation → SumTerms → ℤ → SumTerms → ℤ → SumAtom

  -- atoms with coefficients
  pub data SumTerms : Type 0 where
    NoTerms : SumTerms
    Term : ℤ → SumAtom → SumTerms → SumTerms

pub record LinearSum : Type 0 where
  pub terms : SumTerms
  pub constant : ℤ

abbrev pub number : ℤ → LinearSum
number n = record { terms = NoTerms; constant = n }

abbrev pub only_atom : SumAtom → SumTerms
only_atom a = Term (pos 1) a NoTerms

abbrev pub atom_sum : SumAtom → LinearSum
atom_sum a = record { terms = only_atom a; constant = pos 0 }

-- ---- whether two are the same

abbrev pub same_operation : Operation → Operation → Bool
same_operation Mul Mul = true
same_operation Div Div = true
same_operation Rem Rem = true
same_operation p q = false

unfoldable mutual
  pub same_atom : SumAtom → SumAtom → Bool
  same_atom (VariableAtom i) (VariableAtom j) = i == j
  same_atom (ReceivedAtom i) (ReceivedAtom j) = i == j
  same_atom (WordAtom i) (WordAtom j) = i == j
  same_atom ClockAtom ClockAtom = true
  same_atom (CellAtom i ts c) (CellAtom j us d) = (i == j) && (same_terms ts us && int_eq c d)
  same_atom (OperationAtom p ts c us d) (OperationAtom q xs e ys f) = same_operation p q && (same_terms ts xs && (int_eq c e && (same_terms us ys && int_eq d f)))
  same_atom a b = false

  pub same_terms : SumTerms → SumTerms → Bool
  same_terms NoTerms NoTerms = true
  same_terms (Term c a ts) (Term d b us) = int_eq c d && (same_atom a b && same_terms ts us)
  same_terms ts us = false

abbrev pub same_sum : LinearSum → LinearSum → Bool
same_sum s t = same_terms s.terms t.terms && int_eq s.constant t.constant

-- ---- adding up

-- a term in front, unless its coefficient is 0
abbrev pub term_unless_zero : ℤ → SumAtom → SumTerms → SumTerms
term_unless_zero c a ts = cond (int_eq c (pos 0)) ts (Term c a ts)

module _ (before : SumAtom → SumAtom → Bool) where
  -- a term put into its place in the order of the atoms
  unfoldable pub with_term : ℤ → SumAtom → SumTerms → SumTerms
  with_term c a NoTerms = Term c a NoTerms
  with_term c a (Term d b ts) = cond (same_atom a b) (term_unless_zero (c +ℤ d) b ts) (cond (before a b) (Term c a (Term d b ts)) (Term d b (with_term c a ts)))

  unfoldable pub terms_added : SumTerms → SumTerms → SumTerms
  terms_added NoTerms us = us
  terms_added (Term c a ts) us = with_term c a (terms_added ts us)

  abbrev pub sum_added : LinearSum → LinearSum → LinearSum
  sum_added s t = record { terms = terms_added s.terms t.terms; constant = s.constant +ℤ t.constant }

unfoldable pub terms_scaled : ℤ → SumTerms → SumTerms
terms_scaled k NoTerms = NoTerms
terms_scaled k (Term c a ts) = Term (k *ℤ c) a (terms_scaled k ts)

abbrev pub sum_scaled : ℤ → LinearSum → LinearSum
sum_scaled k s = cond (int_eq k (pos 0)) (number (pos 0)) (record { terms = terms_scaled k s.terms; constant = k *ℤ s.constant })

-- ---- divisors

-- the greatest common divisor, by n steps at most; 1 past them
unfoldable pub gcd_within : ℕ → ℕ → ℕ → ℕ
gcd_within zero a b = 1
gcd_within (suc n) a zero = a
gcd_within (suc n) a (suc b) = gcd_within n (suc b) (a % suc b)

abbrev pub gcd : ℕ → ℕ → ℕ
gcd a b = gcd_within (suc b) a b

unfoldable pub terms_gcd : SumTerms → ℕ
terms_gcd NoTerms = 0
terms_gcd (Term c a ts) = gcd (terms_gcd ts) (unsigned_abs c)

-- the number with the sign of the first coefficient
abbrev pub signed_by : SumTerms → ℕ → ℤ
signed_by (Term (negsuc n) a ts) g = neg_ℤ (pos g)
signed_by ts g = pos g

-- what a list of terms is the multiple of
abbrev pub divisor : SumTerms → ℤ
divisor ts = signed_by ts (terms_gcd ts)

-- what a sum is the multiple of, its constant too
abbrev pub sum_divisor : LinearSum → ℤ
sum_divisor s = signed_by s.terms (gcd (terms_gcd s.terms) (unsigned_abs s.constant))

unfoldable pub terms_divided : ℤ → SumTerms → SumTerms
terms_divided g NoTerms = NoTerms
terms_divided g (Term c a ts) = Term (int_div c g) a (terms_divided g ts)

abbrev pub sum_divided : ℤ → LinearSum → LinearSum
sum_divided g s = record { terms = terms_divided g s.terms; constant = int_div s.constant g }

-- the primitive list of a list of terms
abbrev pub primitive : SumTerms → SumTerms
primitive ts = terms_divided (divisor ts) ts
