-- What is read of the parts of a model by which variables take something: the variables in them, and the postfix form of long
-- values.
use Rattle.std.specs.Prelude.{nat_le, Bool, cond, List, [], map, length, None}
use Rattle.model_core.specs.EventGraph.{Expression, StateChange, Set, Draw, EventEdge, EventVertex}
use Rattle.model_core.specs.Rules.Uses.{variables_in}
use Rattle.range_infer.specs.declared.part_reads.TheConstants.{LONG}
use Rattle.range_infer.specs.declared.part_reads.ValueReads.{ValueReads}
use Rattle.range_infer.specs.declared.part_reads.EdgeReads.{EdgeReads}
use Rattle.range_infer.specs.declared.part_reads.VertexReads.{VertexReads}
use Rattle.range_infer.specs.declared.postfix.PostfixItem.{PostfixItem}
use Rattle.range_infer.specs.Inner.Postfix.{postfix_of}

-- a value is long that reads variables so many times
abbrev pub is_long : Expression → Bool
is_long e = nat_le LONG (length (variables_in e))

-- the postfix form of a long value
abbrev pub long_postfix : Expression → List PostfixItem
long_postfix e = cond (is_long e) (postfix_of e None) []

abbrev pub value_reads : Expression → ValueReads
value_reads e = record { vars = variables_in e; postfix = long_postfix e }

abbrev pub each_reads : List Expression → List ValueReads
each_reads values = map value_reads values

-- of each value that a change sets. What is drawn reads none
abbrev pub set_reads : StateChange → List ValueReads
set_reads (Set targets values) = each_reads values
set_reads (Draw target stream choice) = []

-- of the condition of an edge, and of each value that it carries
abbrev pub carried_reads : EventEdge → EdgeReads
carried_reads e = record { condition = variables_in e.condition; values = each_reads e.values }

-- of each change and of each edge of a vertex
abbrev pub parts_read : EventVertex → VertexReads
parts_read v = record { sets = map set_reads v.changes; carried = map carried_reads v.edges }
