pub mod VerdictView
pub mod Inner
pub mod EdgeApplications
