-- Tables of names: what is found in one, and what is put into it.
use Rattle.std.specs.Prelude.{◌≡◌, ℕ, if◌then◌else◌, List, [], ◌∷◌, ◌++◌, Option, Some, None, is_none, map}
use Rattle.model_core.specs.EventGraph.{Variable, EventVertex}
use Rattle.model_core.specs.Text.Lexing.{same_bytes}
use Rattle.model_core.specs.Text.Numbering.{declared_place}

-- the place that a table has for a name
abbrev pub listed_place : List ℕ → List (List ℕ × ℕ) → Option ℕ
listed_place name [] = None
listed_place name (e ∷ es) = if same_bytes e.0 name then Some e.1 else listed_place name es

-- the table with this place for a name that it doesn't have yet
abbrev pub with_first : List (List ℕ × ℕ) → List ℕ → ℕ → List (List ℕ × ℕ)
with_first table name place = if is_none (listed_place name table) then table ++ (name, place) ∷ [] else table

-- the table has the first place of each of these names
abbrev pub HasPlaces : List (List ℕ) → List (List ℕ × ℕ) → Type 0
HasPlaces names table = (name : List ℕ) → listed_place name table ≡ declared_place name names

abbrev pub names_of_vertices : List EventVertex → List (List ℕ)
names_of_vertices vs = map (λ (v : EventVertex). v.name) vs

abbrev pub names_of_variables : List Variable → List (List ℕ)
names_of_variables vs = map (λ (v : Variable). v.name) vs
