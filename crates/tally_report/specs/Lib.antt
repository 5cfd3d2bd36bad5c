pub mod CellCourse
pub mod Tallying
pub mod SmallAreas
pub mod Totalling
pub mod ReportText
pub mod TallyRefusals
pub mod Inner
