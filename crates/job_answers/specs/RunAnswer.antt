-- What `run` answers for a model: the history of its run, or why the starting values aren't taken.
use Rattle.std.specs.Prelude.{◌≡◌, ℕ, ◌+◌, ◌<◌, ◌≤◌, ℤ, List, length, Option, Some, None}
use Rattle.model_core.specs.EventGraph.{EventGraph}
use Rattle.model_core.specs.Run.Pending.{EntryAndRest, next_entry}
use Rattle.model_core.specs.Run.Step.{vertex_at}
use Rattle.model_core.specs.Run.Machine.{RunStatus, Ended, Stopped, Faulted, Going, Look, Reached}
use Rattle.model_core.specs.Run.History.{Moment, start, look, reached_from}
use Rattle.model_core.specs.Text.HistoryText.{history_text}
use Rattle.run_control.specs.Room.{scheduled_by}
use Rattle.answer_delivery.specs.declared.answer.Answer.{Answer}
use Rattle.answer_delivery.specs.declared.answer.Answer.TheVariants.{Given, Refused}
use Rattle.answer_delivery.specs.declared.status.End.{End}
use Rattle.answer_delivery.specs.declared.status.End.TheVariants as ends
use Rattle.answer_delivery.specs.declared.status.Refusal.TheVariants as refusals
use Rattle.job_answers.specs.StartingValues.{start_refusal}

-- ---- the answer

-- how a job ends, by the standing of its run
abbrev pub end_of : RunStatus → End
end_of (Ended t) = ends.Done
end_of Stopped = ends.Done
end_of (Faulted t kind) = ends.ModelFault
end_of Going = ends.Budget

-- the text of what is seen of the run
abbrev pub answer_of_look : EventGraph → ℕ → ℕ → Look → Answer
answer_of_look g until events seen = Given (end_of seen.standing) (history_text g until events seen)

-- the run is refused with this line, if there is one
abbrev pub refused_or : Option (List ℕ) → Answer → Answer
refused_or (Some line) answer = Refused refusals.BadStart line
refused_or None answer = answer

-- what `run` answers for a model
abbrev pub run_answer : EventGraph → ℕ → ℕ → ℕ → List ℤ → Answer
run_answer g until seed events starts = refused_or (start_refusal g starts) (answer_of_look g until events (look g seed starts until events))

-- ---- the room

-- Where fewer steps than the budget lead from this moment an event is due, and what is pending and what its vertex schedules are together
-- more than there is room for.
pub record ExceedsRoomFrom (g : EventGraph) (until seed events : ℕ) (m : Moment) (room : ℕ) : Type 0 where
  pub steps : ℕ
  pub within : steps < events
  pub here : Reached Moment
  pub lead : reached_from g seed until steps m ≡ Some here
  pub next : EntryAndRest
  pub comes : next_entry here.moment.now.pending ≡ Some next
  pub due : next.entry.time ≤ until
  pub exceeds : room < scheduled_by (vertex_at g next.entry.vertex).edges + length here.moment.now.pending

-- a run exceeds its room from its beginning
abbrev pub ExceedsRoom : EventGraph → ℕ → ℕ → ℕ → List ℤ → ℕ → Type 0
ExceedsRoom g until seed events starts room = ExceedsRoomFrom g until seed events (start g starts) room
