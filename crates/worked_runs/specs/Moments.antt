-- Moments of the clock that counts, and of a run of one scalar.
use Rattle.std.specs.Prelude.{ℕ, ◌+◌, List, [], ◌∷◌, replicate, slice_set, Some}
use Rattle.model_core.specs.Run.Pending.{Entry}
use Rattle.model_core.specs.Run.Step.{Configuration}
use Rattle.model_core.specs.Run.History.{Moment}
use Rattle.worked_runs.specs.Building.{scalars}

-- the next count is due 5 ticks later
abbrev pub next_count : ℕ → Entry
next_count time = record { time = time + 5; priority = 5; vertex = 0; values = [] }

-- at this time N has this value, and the last note had that one
abbrev pub counted_to : ℕ → ℕ → ℕ → Moment
counted_to time n last =
    let now : Configuration = record { clock = time; state = scalars (n ∷ []); taken = replicate 64 0; pending = next_count time ∷ [] } in
    record { now = now; noted = Some (scalars (last ∷ [])) }

-- at this clock the scalar has this value, so many words were taken from stream 54, and these events are pending
abbrev pub configuration_at : ℕ → ℕ → ℕ → List Entry → Configuration
configuration_at clock n words pending = record { clock = clock; state = scalars (n ∷ []); taken = slice_set (replicate 64 0) 54 words; pending = pending }
