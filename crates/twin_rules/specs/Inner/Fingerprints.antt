-- Fingerprints of what vertices do. Equal parts have equal fingerprints, and no proof uses more.
use Rattle.std.specs.Prelude.{ℕ, ◌+◌, ◌*◌, ◌/◌, ◌%◌, ◌^◌, Bool, true, false, List, [], ◌∷◌, map, Option, Some, None, unsigned_abs}
use Rattle.model_core.specs.EventGraph.{EventVertex, EventEdge, EdgeKind, Schedule, Urgent, CancelNext, CancelEqual, CancelAll, Delay, Fixed, Drawn, StateChange, Set, Draw, Choice, Uniform, ByTable, Location, Operator, Add, Subtract, Multiply, Divide, Remainder, Least, Greatest, Equal, NotEqual, Below, AtMost, Above, AtLeast, And, Or, Expression, Number, Truth, Clock, Scalar, Cell, Negative, Not, Binary, If}

-- a print with one more word in it
unfoldable pub mixed : ℕ → ℕ → ℕ
mixed print word = (print * 6364136223846793005 % 2 ^ 64 + word) % 2 ^ 64

-- the upper half of a print, into which all its words are mixed
unfoldable pub half : ℕ → ℕ
half print = mixed print 0 / 2 ^ 32

-- a print with the words of a list in it
abbrev pub list_fingerprint_on : ℕ → List ℕ → ℕ
list_fingerprint_on print [] = print
list_fingerprint_on print (word ∷ words) = list_fingerprint_on (mixed print word) words

-- the print of a list, by the words of its parts
abbrev pub list_fingerprint : List ℕ → ℕ
list_fingerprint words = list_fingerprint_on 0 words

-- the print of a truth value
abbrev pub truth_fingerprint : Bool → ℕ
truth_fingerprint true = 1
truth_fingerprint false = 0

-- the print of an operator
abbrev pub operator_fingerprint : Operator → ℕ
operator_fingerprint Add = 11
operator_fingerprint Subtract = 12
operator_fingerprint Multiply = 13
operator_fingerprint Divide = 14
operator_fingerprint Remainder = 15
operator_fingerprint Least = 16
operator_fingerprint Greatest = 17
operator_fingerprint Equal = 18
operator_fingerprint NotEqual = 19
operator_fingerprint Below = 20
operator_fingerprint AtMost = 21
operator_fingerprint Above = 22
operator_fingerprint AtLeast = 23
operator_fingerprint And = 24
operator_fingerprint Or = 25

-- the print of an expression
abbrev pub expression_fingerprint : Expression → ℕ
expression_fingerprint (Number n) = mixed (unsigned_abs n) 1
expression_fingerprint (Truth b) = mixed (truth_fingerprint b) 2
expression_fingerprint Clock = 3
expression_fingerprint (Scalar v) = mixed v 4
expression_fingerprint (Cell v i) = mixed (mixed (expression_fingerprint i) v) 5
expression_fingerprint (Negative a) = mixed (expression_fingerprint a) 6
expression_fingerprint (Not a) = mixed (expression_fingerprint a) 7
expression_fingerprint (Binary op a b) = mixed (mixed (expression_fingerprint a) (expression_fingerprint b)) (operator_fingerprint op)
expression_fingerprint (If c a b) = mixed (mixed (mixed (expression_fingerprint c) (expression_fingerprint a)) (expression_fingerprint b)) 8

-- the print of an index, if there is one
abbrev pub index_fingerprint : Option Expression → ℕ
index_fingerprint None = 0
index_fingerprint (Some i) = mixed (expression_fingerprint i) 1

-- the print of what takes a value
abbrev pub location_fingerprint : Location → ℕ
location_fingerprint l = mixed (index_fingerprint l.index) l.variable

-- the print of what a draw takes its value from
abbrev pub choice_fingerprint : Choice → ℕ
choice_fingerprint (Uniform lo hi) = mixed (mixed (unsigned_abs lo) (unsigned_abs hi)) 1
choice_fingerprint (ByTable table) = mixed table 2

-- the print of a change
abbrev pub change_fingerprint : StateChange → ℕ
change_fingerprint (Set targets values) = mixed (list_fingerprint (map location_fingerprint targets)) (list_fingerprint (map expression_fingerprint values))
change_fingerprint (Draw target stream choice) = mixed (mixed (location_fingerprint target) stream) (choice_fingerprint choice)

-- the print of a delay
abbrev pub delay_fingerprint : Delay → ℕ
delay_fingerprint (Fixed e) = mixed (expression_fingerprint e) 1
delay_fingerprint (Drawn stream choice) = mixed (choice_fingerprint choice) stream

-- the print of what an edge does
abbrev pub kind_fingerprint : EdgeKind → ℕ
kind_fingerprint (Schedule delay priority) = mixed (delay_fingerprint delay) priority
kind_fingerprint Urgent = 1
kind_fingerprint CancelNext = 2
kind_fingerprint CancelEqual = 3
kind_fingerprint CancelAll = 4

-- the print of an edge, whose target is left out
abbrev pub edge_fingerprint : EventEdge → ℕ
edge_fingerprint e = mixed (mixed (kind_fingerprint e.kind) (expression_fingerprint e.condition)) (list_fingerprint (map expression_fingerprint e.values))

-- the print of what a vertex does: of its parameters, changes and edges
abbrev pub vertex_fingerprint : EventVertex → ℕ
vertex_fingerprint v = mixed (mixed (list_fingerprint (map (λ p. p) v.parameters)) (list_fingerprint (map change_fingerprint v.changes))) (list_fingerprint (map edge_fingerprint v.edges))

-- the print of the targets of edges, by the number of each
abbrev pub targets_fingerprint : (ℕ → ℕ) → List EventEdge → ℕ
targets_fingerprint number es = list_fingerprint (map (λ (e : EventEdge). number e.target) es)
