-- The plain value of each number of the code.
use Rattle.std.specs.Prelude.{ℤ}
use Rattle.tree_laws.specs.Limits.{Interval}
use Rattle.case_trees.specs.declared.limited.Coefficient.{Coefficient}
use Rattle.case_trees.specs.declared.limited.Number.{Number}
use Rattle.case_trees.specs.declared.limited.Ends.{Ends}

abbrev pub coefficient_value : Coefficient → ℤ
coefficient_value c = c.value

abbrev pub number_value : Number → ℤ
number_value n = n.value

abbrev pub ends_of : Ends → Interval
ends_of e = record { lo = e.lo.value; hi = e.hi.value }
