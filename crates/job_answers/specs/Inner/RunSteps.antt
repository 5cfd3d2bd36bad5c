-- The clauses between the steps of writing a history: how the job ends, and how the history is delivered.
use Rattle.std.specs.Prelude.{◌≡◌, ℕ, Result, Ok, Err}
use Rattle.sig_base.specs.Sink.{Outlet}
use Rattle.model_core.specs.EventGraph.{EventGraph}
use Rattle.model_core.specs.Run.History.{Moment, look_from}
use Rattle.watch_trace.specs.declared.outcome.Outcome.{Outcome}
use Rattle.watch_trace.specs.declared.outcome.Outcome.TheVariants as outcomes
use Rattle.answer_delivery.specs.declared.delivering.DeliveryOutcome.{DeliveryOutcome}
use Rattle.answer_delivery.specs.declared.status.End.{End}
use Rattle.answer_delivery.specs.declared.status.End.TheVariants as ends
use Rattle.answer_delivery.specs.declared.status.Failure.{Failure}
use Rattle.answer_delivery.specs.declared.status.Failure.TheVariants as failures
use Rattle.answer_delivery.specs.Delivery.{DeliversSome}
use Rattle.job_answers.specs.RunAnswer.{answer_of_look, ExceedsRoomFrom}

-- how a job ends, by the outcome of its run
abbrev pub ending : Outcome → Result End Failure
ending (outcomes.Ended time) = Ok ends.Done
ending outcomes.Stopped = Ok ends.Done
ending (outcomes.Faulted time kind) = Ok ends.ModelFault
ending outcomes.Budget = Ok ends.Budget
ending outcomes.WriteFault = Err failures.WriteFault
ending outcomes.NoMemory = Err failures.NoMemory

-- The history from this moment on is delivered. Memory may be refused after a front of it where this room is exceeded.
abbrev pub DeliversHistory : {K : Type 0} → (K → Outlet) → EventGraph → ℕ → ℕ → ℕ → Moment → ℕ → Result DeliveryOutcome Failure → K → K → Type 0
DeliversHistory seen g until seed events m room r o p =
    DeliversSome seen (λ a. a ≡ answer_of_look g until events (look_from g seed until events m)) (ExceedsRoomFrom g until seed events m room) r o p
