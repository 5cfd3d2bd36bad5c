-- Marks at the places of ranges that moved.
use Rattle.std.specs.Prelude.{◌≡◌, ◌↔◌, ℕ, Bool, false, List, slice_index_or}
use Rattle.model_core.specs.declared.var_range.VarRange.{VarRange}
use Rattle.model_core.specs.Ranges.OtherRanges.{range_at}

-- a place without a mark has none that is set
abbrev pub is_moved : List Bool → ℕ → Bool
is_moved moved v = slice_index_or moved v false

-- the marks that aren't set are those of the ranges that stayed
abbrev pub MarksMoved : List VarRange → List VarRange → List Bool → Type 0
MarksMoved old new moved = (v : ℕ) → (is_moved moved v ≡ false) ↔ (range_at old v ≡ range_at new v)
