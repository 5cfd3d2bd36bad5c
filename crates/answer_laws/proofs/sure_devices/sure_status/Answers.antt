-- Counts that are the constant 0 never rise.
use Rattle.std.proofs.Common.{◌≡◌, ◌⊎◌, inl, inr, ℕ, List, Option, Some, None, ap, subst}
use Rattle.std.specs.Prelude.{IfSome}
use Rattle.command_words.specs.declared.reading.Reading.{Reading}
use Rattle.command_words.specs.Readings.{reading_of, limit_of}
use Rattle.answer_delivery.specs.declared.answer.Answer.{Answer}
use Rattle.answer_delivery.specs.declared.status.Status.{Status}
use Rattle.answer_delivery.specs.declared.status.Status.TheVariants.{NoMemory}
use Rattle.job_answers.specs.Answers.{Answers}
use Rattle.answer_delivery.specs.Statuses.{status_of_answer}
use Rattle.sigma_top.specs.StatusTable.{text_of}
use Rattle.answer_laws.proofs.SteadyDevices.{no_rise}
use Rattle.answer_laws.proofs.sure_devices.sure_status.Goals as goal

-- of what holds beside the status nothing is kept
status_alone : (reading : Reading) (status : Status) (o : Option (List ℕ)) (Grows : Answer → Type 0) → IfSome o (λ text. (a : Answer) × Answers reading text a × (status ≡ status_of_answer a) × Grows a)
    → IfSome o (λ text. (a : Answer) × Answers reading text a × (status ≡ status_of_answer a))
status_alone reading status None Grows h = tt
status_alone reading status (Some text) Grows (a, answers, is, grows) = (a, answers, is)

ends : (reading : Reading) (status : Status) (o p : Option (List ℕ)) (Grows : Answer → Type 0) → o ≡ p → (status ≡ NoMemory) ⊎ IfSome o (λ text. (a : Answer) × Answers reading text a × (status ≡ status_of_answer a) × Grows a)
    → (status ≡ NoMemory) ⊎ IfSome p (λ text. (a : Answer) × Answers reading text a × (status ≡ status_of_answer a))
ends reading status o p Grows e (inl none) = inl none
ends reading status o p Grows e (inr h) = inr (subst (λ q. IfSome q (λ text. (a : Answer) × Answers reading text a × (status ≡ status_of_answer a))) e (status_alone reading status o Grows h))

pub returns : goal.returns
returns c = λ job asked. ends (reading_of job) c.sigma.result _ _ _ (ap (λ s. text_of (limit_of (reading_of job)) (Some s.left)) c.new-input.ensures) (c.sigma.ensures.complete job asked no_rise no_rise)
