-- Words for writing down written models: parts with the bytes at which their first tokens begin.
use Rattle.std.specs.Prelude.{ℕ, ◌+◌, pos, true, false, List, [], Some, None, codes}
use Rattle.model_core.specs.declared.static_kind.StaticKind.{StaticKind}
use Rattle.model_core.specs.Text.Written.{WrittenName, WrittenNumber, WrittenSigned, TruthKind, RangeKind, WrittenLiteral, WrittenExpression, Number, Scalar, WrittenVariable, WrittenRow, WrittenTable, WrittenTarget, WrittenChange, WrittenEdgeKind, WrittenEdge, WrittenVertex, WrittenModel}
use Rattle.model_core.specs.Static.FaultOrder.{StaticFault}

abbrev pub spelled : List ℕ → ℕ → WrittenName
spelled name at = record { name = name; at = at }

-- ---- numbers

abbrev pub figure : ℕ → ℕ → WrittenNumber
figure n at = record { value = Some (pos n); at = at }

-- a number above 2^63 - 1
abbrev pub huge : ℕ → WrittenNumber
huge at = record { value = None; at = at }

abbrev pub plain_figure : ℕ → ℕ → WrittenSigned
plain_figure n at = record { at = at; negative = false; number = figure n at }

-- a number after a sign at this byte
abbrev pub minus_figure : ℕ → ℕ → WrittenSigned
minus_figure n at = record { at = at; negative = true; number = figure n (at + 1) }

abbrev pub plain_huge : ℕ → WrittenSigned
plain_huge at = record { at = at; negative = false; number = huge at }

abbrev pub minus_huge : ℕ → WrittenSigned
minus_huge at = record { at = at; negative = true; number = huge (at + 1) }

-- ---- expressions

abbrev pub constant : ℕ → ℕ → WrittenExpression
constant n at = Number at (figure n at)

-- a name without an index
abbrev pub reading : List ℕ → ℕ → WrittenExpression
reading name at = Scalar at (spelled name at)

-- ---- declarations

abbrev pub ranging : ℕ → WrittenName → WrittenSigned → WrittenSigned → WrittenLiteral → WrittenVariable
ranging at name lo hi initial = record { at = at; name = name; size = None; kind = RangeKind lo hi false; initial = initial }

abbrev pub ranging_clip : ℕ → WrittenName → WrittenSigned → WrittenSigned → WrittenLiteral → WrittenVariable
ranging_clip at name lo hi initial = record { at = at; name = name; size = None; kind = RangeKind lo hi true; initial = initial }

abbrev pub truth_valued : ℕ → WrittenName → WrittenLiteral → WrittenVariable
truth_valued at name initial = record { at = at; name = name; size = None; kind = TruthKind; initial = initial }

-- an array of so many of these
abbrev pub sized : WrittenNumber → WrittenVariable → WrittenVariable
sized n v = record v { size = Some n }

abbrev pub tabled : ℕ → WrittenName → List WrittenRow → WrittenTable
tabled at name rows = record { at = at; name = name; rows = rows }

-- ---- changes and edges

-- a target without an index
abbrev pub storing : List ℕ → ℕ → WrittenTarget
storing name at = record { at = at; name = spelled name at; index = None }

abbrev pub to_index : WrittenName → WrittenExpression → WrittenTarget
to_index name index = record { at = name.at; name = name; index = Some index }

abbrev pub leading : ℕ → WrittenName → WrittenEdgeKind → WrittenEdge
leading at target kind = record { at = at; target = target; values = None; condition = None; kind = kind }

abbrev pub with_carried : List WrittenExpression → WrittenEdge → WrittenEdge
with_carried values e = record e { values = Some values }

abbrev pub with_condition : WrittenExpression → WrittenEdge → WrittenEdge
with_condition condition e = record e { condition = Some condition }

-- ---- vertices and models

abbrev pub occurring : ℕ → WrittenName → List WrittenChange → List WrittenEdge → WrittenVertex
occurring at name changes edges = record { at = at; name = name; parameters = None; changes = changes; edges = edges }

-- the vertex RUN, with its word at this byte
abbrev pub run_at : ℕ → List WrittenChange → List WrittenEdge → WrittenVertex
run_at at changes edges = occurring at (spelled (codes "RUN") (at + 7)) changes edges

abbrev pub with_parameters : List WrittenName → WrittenVertex → WrittenVertex
with_parameters names v = record v { parameters = Some names }

-- the model M of these variables and vertices, with its word `end` at this byte
abbrev pub composed : List WrittenVariable → List WrittenVertex → ℕ → WrittenModel
composed variables vertices end_at = record { at = 0; version = None; name = spelled (codes "M") 6; variables = variables; tables = []; watch = None; vertices = vertices; end_at = end_at }

abbrev pub with_tables : List WrittenTable → WrittenModel → WrittenModel
with_tables tables m = record m { tables = tables }

abbrev pub with_watch : List WrittenName → WrittenModel → WrittenModel
with_watch names m = record m { watch = Some names }

abbrev pub with_own_name : WrittenName → WrittenModel → WrittenModel
with_own_name name m = record m { name = name }

-- ---- faults

abbrev pub static_fault : StaticKind → ℕ → StaticFault
static_fault kind at = record { at = at; kind = kind }
