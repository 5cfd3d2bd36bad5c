pub mod Links
pub mod ByClass
