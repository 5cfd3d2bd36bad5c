pub mod Chains
pub mod Verdicts
mod CertificateReads
pub mod PlacesByTable
pub mod NamesKept
mod ApplicationLoops
pub mod FewerVariables
pub mod RuleAnswers
pub mod SameAfterDrop
