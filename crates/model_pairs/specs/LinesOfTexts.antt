-- The lines of a text, and the first place at which the lines of two texts differ.
use Rattle.std.specs.Prelude.{ℕ, suc, ◌==◌, cond, List, [], ◌∷◌, Option, Some, None}
use Rattle.model_core.specs.Text.Lexing.{same_bytes}
use Rattle.model_pairs.specs.declared.lines_apart.LinesApart.{LinesApart}

-- a byte before the first line of a text
abbrev pub before_lines : ℕ → List (List ℕ) → List (List ℕ)
before_lines byte [] = (byte ∷ []) ∷ []
before_lines byte (line ∷ lines) = (byte ∷ line) ∷ lines

-- the lines of a text, each with the line feed that ends it; the last may have none
abbrev pub lines_of : List ℕ → List (List ℕ)
lines_of [] = []
lines_of (byte ∷ bytes) = cond (byte == 10) ((byte ∷ []) ∷ lines_of bytes) (before_lines byte (lines_of bytes))

-- the first two lines at one place that differ, where places are counted from this one. Where one list is a front of the other there
-- are none
abbrev pub first_lines_apart : ℕ → List (List ℕ) → List (List ℕ) → Option LinesApart
first_lines_apart place (x ∷ xs) (y ∷ ys) = cond (same_bytes x y) (first_lines_apart (suc place) xs ys) (Some (record { line = place; first = x; second = y }))
first_lines_apart place xs ys = None
