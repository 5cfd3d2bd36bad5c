pub mod Complaints
pub mod AnswerForms
pub mod Statuses
pub mod FailureStatus
pub mod FrontWritten
pub mod Delivery
pub mod DeliverySteps
