-- How many steps a run makes.
use Rattle.std.specs.Prelude.{ℕ, zero, suc, ℤ, List}
use Rattle.model_core.specs.EventGraph.{EventGraph}
use Rattle.model_core.specs.Run.Machine.{Move, Rests, Fails, Goes}
use Rattle.model_core.specs.Run.History.{next_move, start}

-- a move that goes on is a step, with those after it. One that fails is a step too, the last; a rest takes none
abbrev pub steps_from : {S : Type 0} → (S → ℕ) → Move S → ℕ
steps_from later (Rests notes end) = 0
steps_from later (Fails notes end) = 1
steps_from later (Goes notes s) = suc (later s)

-- how many steps are made from here, of at most so many
abbrev pub steps_made : {S : Type 0} → (S → Move S) → ℕ → S → ℕ
steps_made move zero s = 0
steps_made move (suc n) s = steps_from (steps_made move n) (move s)

-- how many steps a run with this seed and stop time makes, of at most so many
abbrev pub steps_of_run : EventGraph → ℕ → List ℤ → ℕ → ℕ → ℕ
steps_of_run g seed starts until n = steps_made (next_move g seed until) n (start g starts)
