pub mod FirstLines
pub mod SideBySide
pub mod LinesDeclared
pub mod SameLines
pub mod ShownRuns
