-- The terms in which answers and their delivery are defined, under one name.
pub use Rattle.answer_delivery.specs.declared.answer.Answer.{Answer}
pub use Rattle.answer_delivery.specs.declared.answer.Answer.TheVariants.{Given, Refused}
pub use Rattle.answer_delivery.specs.declared.status.End.{End}
pub use Rattle.answer_delivery.specs.declared.status.Refusal.{Refusal}
pub use Rattle.answer_delivery.specs.declared.status.Failure.{Failure}
pub use Rattle.answer_delivery.specs.declared.delivering.DeliveryOutcome.{DeliveryOutcome}
pub use Rattle.answer_delivery.specs.AnswerForms.{IsDone, done}
pub use Rattle.answer_delivery.specs.Statuses.{status_of_answer, status_of_end}
pub use Rattle.answer_delivery.specs.Delivery.{Delivers, DeliversSome}
pub use Rattle.answer_delivery.specs.FrontWritten.{GrowsByFront}
pub use Rattle.answer_delivery.specs.DeliverySteps.{Closed, Written}
