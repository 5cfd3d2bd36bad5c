-- The values of atoms and sums, where variables, received values, words, the clock and cells have values.
use Rattle.std.specs.Prelude.{ℕ, ℤ, pos, ◌+ℤ◌, ◌*ℤ◌, int_div, int_rem, cond}
use Rattle.std.specs.Ordering.{int_eq}
use Rattle.tree_laws.specs.LinearSums.{Operation, Mul, Div, Rem, SumAtom, VariableAtom, ReceivedAtom, WordAtom, ClockAtom, CellAtom, OperationAtom, SumTerms, NoTerms, Term, LinearSum}

-- a cell outside its array has a value too
pub record Valuation : Type 0 where
  pub variable : ℕ → ℤ
  pub received : ℕ → ℤ
  pub word : ℕ → ℤ
  pub clock : ℤ
  pub cell : ℕ → ℤ → ℤ

-- a quotient and a rest by 0 are 0
abbrev pub operation_value : Operation → ℤ → ℤ → ℤ
operation_value Mul x y = x *ℤ y
operation_value Div x y = cond (int_eq y (pos 0)) (pos 0) (int_div x y)
operation_value Rem x y = cond (int_eq y (pos 0)) (pos 0) (int_rem x y)

module _ (v : Valuation) where
  unfoldable mutual
    pub atom_value : SumAtom → ℤ
    atom_value (VariableAtom i) = v.variable i
    atom_value (ReceivedAtom i) = v.received i
    atom_value (WordAtom i) = v.word i
    atom_value ClockAtom = v.clock
    atom_value (CellAtom i ts c) = v.cell i (terms_value ts +ℤ c)
    atom_value (OperationAtom op ts c us d) = operation_value op (terms_value ts +ℤ c) (terms_value us +ℤ d)

    pub terms_value : SumTerms → ℤ
    terms_value NoTerms = pos 0
    terms_value (Term c a ts) = c *ℤ atom_value a +ℤ terms_value ts

  abbrev pub sum_value : LinearSum → ℤ
  sum_value s = terms_value s.terms +ℤ s.constant
