-- What a variable is declared to hold, in the order in which the code looks at it.
use Rattle.std.specs.Prelude.{pos, false, List, ◌++◌, Option, Some}
use Rattle.std.specs.Option.{option_map}
use Rattle.model_core.specs.declared.model.Kind.TheVariants as kinds
use Rattle.model_core.specs.Text.Written as written
use Rattle.model_core.specs.Text.Written.{WrittenSigned, WrittenKind, WrittenLiteral}
use Rattle.model_core.specs.Text.Numbering.{◌>>=◌, initial, signed}
use Rattle.model_core.specs.Static.FaultOrder.{StaticFault}
use Rattle.model_core.specs.Static.RuleTable.{kind_mismatch, literal_too_large, initial_outside}
use Rattle.sig_types.specs.declared.variables.Range.{Range}

-- the initial value of a number between these bounds
abbrev pub initial_faults : WrittenSigned → WrittenSigned → WrittenLiteral → List StaticFault
initial_faults lo hi (written.TruthLiteral at b) = kind_mismatch (Some kinds.Range) (Some kinds.Truth) at
initial_faults lo hi (written.SignedLiteral s) = literal_too_large s ++ initial_outside lo hi s

-- what is held
abbrev pub numbered_range : WrittenKind → WrittenLiteral → Option Range
numbered_range written.TruthKind l = option_map (λ start. record { kind = kinds.Truth; lo = pos 0; hi = pos 1; clip = false; initial = start }) (initial l)
numbered_range (written.RangeKind lo hi clip) l = do
  least ← signed lo
  greatest ← signed hi
  start ← initial l
  Some (record { kind = kinds.Range; lo = least; hi = greatest; clip = clip; initial = start })
