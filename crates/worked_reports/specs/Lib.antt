pub mod Gauge
pub mod GaugeRuns
pub mod ShelfReport
pub mod DescribedModels
pub mod CommandLines
pub mod AskedOptions
