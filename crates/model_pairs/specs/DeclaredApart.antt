-- Where two models declare otherwise what a comparison of their runs needs: the lines that differ first.
use Rattle.std.specs.Prelude.{ℕ, Bool, true, false, not, ◌&&◌, ◌||◌, ◌==◌, if◌then◌else◌, List, [], ◌∷◌, ◌++◌, map, length, find, zip, codes, Option, Some, None, is_some, slice_get}
use Rattle.std.specs.Option.{option_map_or}
use Rattle.std.specs.Ordering.{int_eq}
use Rattle.model_core.specs.declared.model.Kind.{Kind}
use Rattle.model_core.specs.declared.model.Kind.TheVariants as kinds
use Rattle.model_core.specs.EventGraph.{EventGraph, Watched, WatchedVariable, WatchedVertex}
use Rattle.model_core.specs.Run.State.{variable_at}
use Rattle.model_core.specs.Run.Step.{vertex_at}
use Rattle.model_core.specs.Text.Lexing.{same_bytes}
use Rattle.model_core.specs.Text.Canonical.{variable_line, variable_name, vertex_name, watch_line, in_parentheses}
use Rattle.model_pairs.specs.declared.line_pair.LinePair.{LinePair}

-- two things, at one place of two lists
abbrev pub Beside : Type 0 → Type 0
Beside A = A × A

-- the first two things at one place of two lists that differ so
abbrev pub first_beside : {A : Type 0} → (A → A → Bool) → List A → List A → Option (Beside A)
first_beside differ xs ys = find (λ p. differ p.0 p.1) (zip xs ys)

-- two lists differ: in how many things they have, or at a place
abbrev pub lists_differ : {A : Type 0} → (A → A → Bool) → List A → List A → Bool
lists_differ differ xs ys = not (length xs == length ys) || is_some (first_beside differ xs ys)

-- ---- what differs

-- the name of what is watched: one is a variable and the other a vertex, or their names have other bytes
abbrev pub watched_differ : EventGraph → EventGraph → Watched → Watched → Bool
watched_differ g h (WatchedVariable v) (WatchedVariable w) = not (same_bytes (variable_name g v) (variable_name h w))
watched_differ g h (WatchedVertex v) (WatchedVertex w) = not (same_bytes (vertex_name g v) (vertex_name h w))
watched_differ g h one other = true

abbrev pub same_kind : Kind → Kind → Bool
same_kind kinds.Truth kinds.Truth = true
same_kind kinds.Range kinds.Range = true
same_kind one other = false

-- the kind or the size of what is watched
abbrev pub shapes_differ : EventGraph → EventGraph → Watched → Watched → Bool
shapes_differ g h (WatchedVariable v) (WatchedVariable w) =
    not (same_kind (variable_at g v).kind (variable_at h w).kind && ((variable_at g v).size == (variable_at h w).size))
shapes_differ g h one other = false

-- the name of a parameter
abbrev pub names_differ : EventGraph → EventGraph → ℕ → ℕ → Bool
names_differ g h v w = not (same_bytes (variable_name g v) (variable_name h w))

-- the kind or the range of a parameter
abbrev pub ranges_differ : EventGraph → EventGraph → ℕ → ℕ → Bool
ranges_differ g h v w =
    not (same_kind (variable_at g v).kind (variable_at h w).kind && int_eq (variable_at g v).lo (variable_at h w).lo && int_eq (variable_at g v).hi (variable_at h w).hi)

-- ---- the lines of it

-- the line of a watch list, and a dash where nothing is watched
abbrev pub line_or_dash : List ℕ → List ℕ
line_or_dash [] = codes "-\n"
line_or_dash (byte ∷ bytes) = byte ∷ bytes

-- the line of the variable at this place, and no bytes where there is none
abbrev pub line_at : EventGraph → ℕ → List ℕ
line_at g v = option_map_or variable_line (slice_get g.variables v) []

-- the line of what is watched, where it is a variable
abbrev pub watched_line : EventGraph → Watched → List ℕ
watched_line g (WatchedVariable v) = line_at g v
watched_line g (WatchedVertex v) = []

-- the first vertex with the names of its parameters
abbrev pub first_vertex_line : EventGraph → List ℕ
first_vertex_line g = codes "vertex " ++ vertex_name g 0 ++ in_parentheses (map (variable_name g) (vertex_at g 0).parameters) ++ codes "\n"

abbrev pub lines_of_both : {A : Type 0} → (EventGraph → A → List ℕ) → EventGraph → EventGraph → Beside A → LinePair
lines_of_both line g h both = record { first = line g both.0; second = line h both.1 }

-- ---- the first of it, in this order: the watch list, the watched variables, and the parameters of the first vertices by name and
-- then by kind and range

abbrev pub ranges_apart : EventGraph → EventGraph → Option (Beside ℕ) → Option LinePair
ranges_apart g h (Some both) = Some (lines_of_both line_at g h both)
ranges_apart g h None = None

abbrev pub parameters_apart : EventGraph → EventGraph → Option LinePair
parameters_apart g h =
    let ps = (vertex_at g 0).parameters in
    let qs = (vertex_at h 0).parameters in
    if lists_differ (names_differ g h) ps qs then Some (record { first = first_vertex_line g; second = first_vertex_line h })
    else ranges_apart g h (first_beside (ranges_differ g h) ps qs)

abbrev pub shapes_apart : EventGraph → EventGraph → Option (Beside Watched) → Option LinePair
shapes_apart g h (Some both) = Some (lines_of_both watched_line g h both)
shapes_apart g h None = parameters_apart g h

-- the lines that differ first of what two models declare, where some do
abbrev pub declared_apart : EventGraph → EventGraph → Option LinePair
declared_apart g h =
    if lists_differ (watched_differ g h) g.watch h.watch then Some (record { first = line_or_dash (watch_line g); second = line_or_dash (watch_line h) })
    else shapes_apart g h (first_beside (shapes_differ g h) g.watch h.watch)
