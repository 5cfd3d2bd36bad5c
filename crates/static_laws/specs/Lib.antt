pub mod PlacedMeanings
pub mod Checked
pub mod DeclaredFaults
pub mod Roles
pub mod Wanted
pub mod FitsVersion
