-- The value of each part of a snapshot, where the part is good.
use Rattle.std.specs.Prelude.{◌≡◌, ℕ, ◌+◌, ◌*◌, ◌^◌, ◌-◌, not, ◌&&◌, nat_lt, Bool, true, if◌then◌else◌, ℤ, pos, List, Option, Some, None, Result, Ok, Err, unwrap_or, replicate, length, take, map, [], ◌∷◌, ◌++◌}
use Rattle.std.specs.List.{list_all}
use Rattle.std.specs.Option.{is_some}
use Rattle.model_core.specs.EventGraph.{EventGraph, Variable, Watched, WatchedVariable, WatchedVertex}
use Rattle.model_core.specs.Run.State.{variable_at, cell_count, within}
use Rattle.model_core.specs.Text.Lexing.{same_bytes}
use Rattle.model_core.specs.Text.Written.{WrittenNumber, WrittenSigned}
use Rattle.model_core.specs.Text.Numbering as numbering
use Rattle.model_core.specs.Text.SnapshotGrammar.{WrittenStream, WrittenValue, WrittenSnapshot}
use Rattle.model_core.specs.Saved.SavedRun.{SavedRun}
use Rattle.model_core.specs.Saved.GoodSnapshots.{JudgedPart, stream_parts, value_parts, noted_parts, pending_part, saved_entry, saved_run, first_bad_part, number_or_zero, is_at_most, from_one_to, fit_variables}
use Rattle.snapshot_text.specs.declared.snapshot_error.SnapshotError.{SnapshotError}
use Rattle.snapshot_text.specs.declared.snapshot_error.SnapshotError.TheVariants as errors

-- a value, where it is good
abbrev pub if_good : {X : Type 0} → Bool → X → Option X
if_good good x = if good then Some x else None

-- The result that a call built from parts is right, and they are good; or it named the first that isn't.
abbrev pub Judged : {X : Type 0} → Result X SnapshotError → List JudgedPart → (X → Type 0) → Type 0
Judged (Ok x) parts P = (first_bad_part parts ≡ None) × P x
Judged (Err (errors.Bad at)) parts P = first_bad_part parts ≡ Some at
Judged (Err errors.NoMemory) parts P = Unit {0}

-- the seed of its two parts
abbrev pub seed_kept : WrittenNumber → WrittenNumber → Option ℕ
seed_kept high low = if_good (is_at_most (2 ^ 32 - 1) high && is_at_most (2 ^ 32 - 1) low) (number_or_zero high * 2 ^ 32 + number_or_zero low)

-- ---- streams

-- the stream is good after those below this one
abbrev pub stream_good : ℕ → WrittenStream → Bool
stream_good least s = (is_at_most 63 s.stream && not (nat_lt (number_or_zero s.stream) least)) && from_one_to (2 ^ 52) s.words

-- its number, and how many words it gave
abbrev pub stream_taken : WrittenStream → ℕ × ℕ
stream_taken s = (number_or_zero s.stream, number_or_zero s.words)

-- ---- values

-- a value that is known and from lo to hi
abbrev pub fits_between : ℤ → ℤ → WrittenSigned → Bool
fits_between lo hi s = is_some (numbering.signed s) && within lo hi (unwrap_or (numbering.signed s) (pos 0))

abbrev pub fitting : ℤ → ℤ → WrittenSigned → Option ℤ
fitting lo hi s = if_good (fits_between lo hi s) (unwrap_or (numbering.signed s) (pos 0))

-- a snapshot's values of a variable are good
abbrev pub value_good : Variable → WrittenValue → Bool
value_good v w = same_bytes w.variable.name v.name && fit_variables (replicate (cell_count v) v) w.values

-- there are values for the cells of a variable, and the first of them fit
abbrev pub cells_good : Variable → List WrittenSigned → Bool
cells_good v ws = not (nat_lt (length ws) (cell_count v)) && list_all (fits_between v.lo v.hi) (take (cell_count v) ws)

-- so it is of what is watched; a vertex has no cells
abbrev pub watched_good : EventGraph → Watched → List WrittenSigned → Bool
watched_good g (WatchedVariable v) ws = cells_good (variable_at g v) ws
watched_good g (WatchedVertex v) ws = true

abbrev pub watched_cells : EventGraph → Watched → ℕ
watched_cells g (WatchedVariable v) = cell_count (variable_at g v)
watched_cells g (WatchedVertex v) = 0

-- ---- the whole

-- the parts after the seed, the clock and the number of events
abbrev pub later_parts : EventGraph → WrittenSnapshot → List JudgedPart
later_parts g w =
    stream_parts 0 w.streams ++ value_parts g.variables w.values ++ noted_parts g w.noted ++ map (pending_part g) w.pending
    ++ record { good = not (nat_lt (length w.values) (length g.variables)); at = w.end_at } ∷ []

-- the saved run with this seed, clock and number of events
abbrev pub later_saved : EventGraph → WrittenSnapshot → ℕ → ℕ → ℕ → SavedRun
later_saved g w seed clock events = record (saved_run g w) { seed = seed; clock = clock; events = events; pending = map (saved_entry g clock) w.pending }
