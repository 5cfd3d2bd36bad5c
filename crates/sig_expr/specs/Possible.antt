-- Which expressions and changes a model could have, as far as computing them asks: their variables and tables exist,
-- `not` is given truth values alone, and a draw has a stream and some values.
use Rattle.std.specs.Prelude.{◌≡◌, ℕ, ◌^◌, ◌<◌, ◌≤◌, ℤ, pos, ◌-ℤ◌, ◌≤ℤ◌, ◌<ℤ◌, All, List, length, map, sum, slice_index_or, Option, Some, None}
use Rattle.sig_base.specs.declared.limits.TheConstants.{TARGETS_MAX}
use Rattle.model_core.specs.EventGraph.{EventGraph, Variable, Expression, Number, Truth, Clock, Scalar, Cell, Negative, Not, Binary, If, Operator, Add, Subtract, Multiply, Divide, Remainder, Least, Greatest, And, Or, Location, Choice, Uniform, ByTable, StateChange, Set, Draw}
use Rattle.model_core.specs.Run.State.{variable_at}
use Rattle.model_core.specs.Run.Changes.{no_table}

-- 0 or 1
pub record IsTruth (x : ℤ) : Type 0 where
  pub low : pos 0 ≤ℤ x
  pub high : x ≤ℤ pos 1

-- a variable whose range has no other values
pub record HoldsTruth (v : Variable) : Type 0 where
  pub low : pos 0 ≤ℤ v.lo
  pub high : v.hi ≤ℤ pos 1

-- an operator gives a truth value, where its operands do so
abbrev pub OperatorGivesTruth : Operator → Type 0 → Type 0 → Type 0
OperatorGivesTruth Add a b = ⊥
OperatorGivesTruth Subtract a b = ⊥
OperatorGivesTruth Multiply a b = ⊥
OperatorGivesTruth Divide a b = ⊥
OperatorGivesTruth Remainder a b = ⊥
OperatorGivesTruth Least a b = ⊥
OperatorGivesTruth Greatest a b = ⊥
OperatorGivesTruth And a b = a × b
OperatorGivesTruth Or a b = a × b
OperatorGivesTruth comparison a b = Unit

-- each value of the expression is a truth value
abbrev pub GivesTruth : EventGraph → Expression → Type 0
GivesTruth g (Number n) = ⊥
GivesTruth g (Truth b) = Unit
GivesTruth g Clock = ⊥
GivesTruth g (Scalar v) = HoldsTruth (variable_at g v)
GivesTruth g (Cell v e) = HoldsTruth (variable_at g v)
GivesTruth g (Negative a) = ⊥
GivesTruth g (Not a) = GivesTruth g a
GivesTruth g (Binary op a b) = OperatorGivesTruth op (GivesTruth g a) (GivesTruth g b)
GivesTruth g (If c a b) = GivesTruth g a × GivesTruth g b

-- the expression can be computed
abbrev pub PossibleExpression : EventGraph → Expression → Type 0
PossibleExpression g (Number n) = Unit
PossibleExpression g (Truth b) = Unit
PossibleExpression g Clock = Unit
PossibleExpression g (Scalar v) = v < length g.variables
PossibleExpression g (Cell v e) = (v < length g.variables) × PossibleExpression g e
PossibleExpression g (Negative a) = PossibleExpression g a
PossibleExpression g (Not a) = GivesTruth g a × PossibleExpression g a
PossibleExpression g (Binary op a b) = PossibleExpression g a × PossibleExpression g b
PossibleExpression g (If c a b) = PossibleExpression g c × PossibleExpression g a × PossibleExpression g b

-- ---- changes

-- so can an index, if there is one
abbrev pub PossibleIndex : EventGraph → Option Expression → Type 0
PossibleIndex g None = Unit
PossibleIndex g (Some e) = PossibleExpression g e

-- the target can be found
pub record PossibleLocation (g : EventGraph) (l : Location) : Type 0 where
  pub declared : l.variable < length g.variables
  pub index : PossibleIndex g l.index

-- a draw from lo..hi
pub record PossibleRange (lo hi : ℤ) : Type 0 where
  pub order : lo ≤ℤ hi
  pub few_values : (hi -ℤ lo) <ℤ (pos (2 ^ 32))
  pub low : (pos 0 -ℤ pos (2 ^ 62)) ≤ℤ lo
  pub high : hi ≤ℤ (pos (2 ^ 62))

-- a draw by the table at this place
pub record PossibleTable (g : EventGraph) (t : ℕ) : Type 0 where
  pub declared : t < length g.tables
  pub small_sum : sum (map (λ r. r.weight) (slice_index_or g.tables t no_table).rows) ≤ 2 ^ 32

-- the choice can be drawn from
abbrev pub PossibleChoice : EventGraph → Choice → Type 0
PossibleChoice g (Uniform lo hi) = PossibleRange lo hi
PossibleChoice g (ByTable t) = PossibleTable g t

-- a `set` has as many targets as right sides, within the limit
pub record PossibleSet (g : EventGraph) (targets : List Location) (rights : List Expression) : Type 0 where
  pub few_rights : length rights ≤ TARGETS_MAX
  pub matched : length targets ≡ length rights
  pub locations : All (PossibleLocation g) targets
  pub expressions : All (PossibleExpression g) rights

-- a value can be drawn so from the stream
pub record PossibleSource (g : EventGraph) (stream : ℕ) (choice : Choice) : Type 0 where
  pub exists : stream < 64
  pub possible : PossibleChoice g choice

-- the draw can be made and stored
pub record PossibleDraw (g : EventGraph) (target : Location) (stream : ℕ) (choice : Choice) : Type 0 where
  pub location : PossibleLocation g target
  pub source : PossibleSource g stream choice

-- the change can be made
abbrev pub PossibleChange : EventGraph → StateChange → Type 0
PossibleChange g (Set targets rights) = PossibleSet g targets rights
PossibleChange g (Draw target stream choice) = PossibleDraw g target stream choice
