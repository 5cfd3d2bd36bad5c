-- The English sentences of a model: one a line, in the order of its text, with expressions and locations in canonical text.
use Rattle.std.specs.Prelude.{ℕ, zero, suc, ℤ, Bool, true, false, List, [], ◌∷◌, ◌++◌, map, zip, codes, decimal}
use Rattle.std.specs.Fmt.{signed_decimal}
use Rattle.std.specs.List.{flat_map}
use Rattle.model_core.specs.declared.model.Kind.{Kind}
use Rattle.model_core.specs.declared.model.Kind.TheVariants as kinds
use Rattle.model_core.specs.EventGraph.{Expression, Truth, Location, Choice, Uniform, ByTable, StateChange, Set, Draw, Delay, Fixed, Drawn, EdgeKind, Schedule, Urgent, CancelNext, CancelEqual, CancelAll, EventEdge, EventVertex, Variable, Weighted, WeightTable, EventGraph}
use Rattle.model_core.specs.Text.Canonical.{joined, variable_name, vertex_name, table_name, expression_text, expression_texts, location_text, initial_truth, watched_name}

-- ---- declarations

abbrev pub model_sentence : List ℕ → List ℕ
model_sentence name = codes "This is the model " ++ name ++ codes ".\n"

-- a variable, or an array with its number of cells
abbrev pub variable_phrase : List ℕ → ℕ → List ℕ
variable_phrase name zero = codes "The variable " ++ name
variable_phrase name (suc n) = codes "The array " ++ name ++ codes " of " ++ decimal (suc n) ++ codes " cells"

-- stores outside the range take the nearest bound
abbrev pub kept_phrase : Bool → List ℕ
kept_phrase true = codes ", kept within these bounds,"
kept_phrase false = []

-- a range with its bounds
abbrev pub range_phrase : ℤ → ℤ → Bool → List ℕ
range_phrase lo hi clip = codes " is a whole number from " ++ signed_decimal lo ++ codes " to " ++ signed_decimal hi ++ kept_phrase clip

-- what a variable holds, and its initial value
abbrev pub held_phrase : Variable → Kind → List ℕ
held_phrase v kinds.Truth = codes " is a truth value and starts at " ++ initial_truth v.initial
held_phrase v kinds.Range = range_phrase v.lo v.hi v.clip ++ codes " and starts at " ++ signed_decimal v.initial

abbrev pub variable_sentence : Variable → List ℕ
variable_sentence v = variable_phrase v.name v.size ++ held_phrase v v.kind ++ codes ".\n"

abbrev pub row_phrase : Weighted → List ℕ
row_phrase r = signed_decimal r.value ++ codes " with weight " ++ decimal r.weight

abbrev pub table_sentence : WeightTable → List ℕ
table_sentence t = codes "The table " ++ t.name ++ codes " gives " ++ joined (map row_phrase t.rows) ++ codes ".\n"

-- the names of what is watched
abbrev pub watch_sentence : List (List ℕ) → List ℕ
watch_sentence [] = codes "Nothing is watched.\n"
watch_sentence (n ∷ ns) = codes "Watched are " ++ joined (n ∷ ns) ++ codes ".\n"

abbrev pub first_event_sentence : List ℕ → List ℕ
first_event_sentence name = codes "The first event is " ++ name ++ codes ".\n"

-- ---- draws

-- each whole number of a range alike, or the values of a table by their weights
abbrev pub choice_phrase : EventGraph → Choice → List ℕ
choice_phrase g (Uniform lo hi) = codes " between " ++ signed_decimal lo ++ codes " and " ++ signed_decimal hi
choice_phrase g (ByTable t) = codes " by the table " ++ table_name g t

abbrev pub drawn_phrase : EventGraph → ℕ → Choice → List ℕ
drawn_phrase g stream choice = codes "drawn from stream " ++ decimal stream ++ choice_phrase g choice

-- ---- changes

abbrev pub becomes_phrase : EventGraph → Location × Expression → List ℕ
becomes_phrase g (l, e) = location_text g l ++ codes " becomes " ++ expression_text g e

-- the phrases after the first one, each after `and`
abbrev pub after_ands : List (List ℕ) → List ℕ
after_ands phrases = flat_map (λ p. codes " and " ++ p) phrases

-- phrases with `and` between two
abbrev pub joined_by_and : List (List ℕ) → List ℕ
joined_by_and [] = []
joined_by_and (p ∷ ps) = p ++ after_ands ps

-- each location becomes the value at the same place, or one is drawn
abbrev pub change_phrase : EventGraph → StateChange → List ℕ
change_phrase g (Set locations values) = joined_by_and (map (becomes_phrase g) (zip locations values))
change_phrase g (Draw location stream choice) = location_text g location ++ codes " is " ++ drawn_phrase g stream choice

-- a change by the event of this name
abbrev pub change_sentence : EventGraph → List ℕ → StateChange → List ℕ
change_sentence g name c = codes "When " ++ name ++ codes " occurs, " ++ change_phrase g c ++ codes ".\n"

-- ---- edges

-- the condition, which is left out where it is the word `true`
abbrev pub condition_phrase : EventGraph → Expression → List ℕ
condition_phrase g (Truth true) = []
condition_phrase g e = codes "if " ++ expression_text g e ++ codes ", "

abbrev pub delay_phrase : EventGraph → Delay → List ℕ
delay_phrase g (Fixed e) = expression_text g e ++ codes " ticks"
delay_phrase g (Drawn stream choice) = codes "a delay " ++ drawn_phrase g stream choice

-- the values that an event carries, after these words, or nothing where it carries none
abbrev pub values_phrase : List ℕ → List (List ℕ) → List ℕ
values_phrase words [] = []
values_phrase words (v ∷ vs) = words ++ joined (v ∷ vs)

-- what an edge does to the event of this name, with these values
abbrev pub deed_phrase : EventGraph → EdgeKind → List ℕ → List (List ℕ) → List ℕ
deed_phrase g (Schedule delay priority) name values =
    codes "event " ++ name ++ codes " is scheduled after " ++ delay_phrase g delay ++ codes " with priority " ++ decimal priority ++ values_phrase (codes ", carrying ") values
deed_phrase g Urgent name values = codes "event " ++ name ++ codes " follows at once" ++ values_phrase (codes ", carrying ") values
deed_phrase g CancelNext name values = codes "the next pending " ++ name ++ codes " is cancelled"
deed_phrase g CancelEqual name values = codes "the next pending " ++ name ++ values_phrase (codes " carrying ") values ++ codes " is cancelled"
deed_phrase g CancelAll name values = codes "every pending " ++ name ++ codes " is cancelled"

-- an edge from the event of this name
abbrev pub edge_sentence : EventGraph → List ℕ → EventEdge → List ℕ
edge_sentence g name e = codes "After " ++ name ++ codes ", " ++ condition_phrase g e.condition ++ deed_phrase g e.kind (vertex_name g e.target) (expression_texts g e.values) ++ codes ".\n"

-- ---- events and the whole model

-- the names of the variables that take the values of an event
abbrev pub parameters_phrase : List (List ℕ) → List ℕ
parameters_phrase [] = codes "no values"
parameters_phrase (n ∷ ns) = joined (n ∷ ns)

abbrev pub vertex_sentences : EventGraph → EventVertex → List ℕ
vertex_sentences g v =
    codes "Event " ++ v.name ++ codes " takes " ++ parameters_phrase (map (variable_name g) v.parameters) ++ codes ".\n"
    ++ flat_map (change_sentence g v.name) v.changes ++ flat_map (edge_sentence g v.name) v.edges

-- the description of a model
abbrev pub description : EventGraph → List ℕ
description g =
    model_sentence g.name ++ flat_map variable_sentence g.variables ++ flat_map table_sentence g.tables ++ watch_sentence (map (watched_name g) g.watch)
    ++ first_event_sentence (vertex_name g 0) ++ flat_map (vertex_sentences g) g.vertices
