-- The plain value of each atom and list of terms of the code. A quoted form is one with boxes, seen with where each lies in memory.
use Rattle.case_trees.specs.declared.terms.Operation.{Operation as CodeOperation}
use Rattle.case_trees.specs.declared.terms.Operation.TheVariants as operations
use Rattle.case_trees.specs.declared.terms.Atom.{Atom}
use Rattle.case_trees.specs.declared.terms.Atom.TheVariants as atoms
use Rattle.case_trees.specs.declared.terms.Terms.{Terms}
use Rattle.case_trees.specs.declared.terms.Terms.TheVariants as lists
use Rattle.tree_laws.specs.LinearSums.{Operation, Mul, Div, Rem, SumAtom, VariableAtom, ReceivedAtom, WordAtom, ClockAtom, CellAtom, OperationAtom, SumTerms, NoTerms, Term}

abbrev pub operation_of : CodeOperation → Operation
operation_of operations.Mul = Mul
operation_of operations.Div = Div
operation_of operations.Rem = Rem

abbrev mutual
  pub atom_of : Atom → SumAtom
  atom_of (atoms.Var i) = VariableAtom i
  atom_of (atoms.Received i) = ReceivedAtom i
  atom_of (atoms.Word i) = WordAtom i
  atom_of atoms.Clk = ClockAtom
  atom_of (atoms.Cell' i p ts c) = CellAtom i (terms_of ts) c.value
  atom_of (atoms.Combined' op p ts c q us d) = OperationAtom (operation_of op) (terms_of ts) c.value (terms_of us) d.value

  pub terms_of : Terms → SumTerms
  terms_of lists.None = NoTerms
  terms_of (lists.Term' c a p ts) = Term c.value (atom_of a) (terms_of ts)
