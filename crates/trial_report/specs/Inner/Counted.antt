-- A count of notes, which stays at the last value.
use Rattle.std.proofs.Common.{◌≡◌, ℕ, ◌+◌, ◌-◌, ◌^◌, List, [], ◌++◌, length, min, arith, length-append}
use Rattle.model_core.specs.Run.Machine.{Note}

abbrev pub CountsNotes : ℕ → ℕ → List Note → Type 0
CountsNotes old new notes = min new (2 ^ 64 - 1) ≡ min (old + length notes) (2 ^ 64 - 1)

pub no_note_counted : (s : ℕ) → CountsNotes s s []
no_note_counted s = omega arith

pub both_counted : (s t u : ℕ) (a b : List Note) → CountsNotes s t a → CountsNotes t u b → CountsNotes s u (a ++ b)
both_counted s t u a b first second = omega (arith, first, second, length-append a b)
