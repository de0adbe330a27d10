pub mod Writing
pub mod StepLaws
pub mod ReportLaws
pub mod Lengths
