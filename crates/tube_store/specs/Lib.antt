pub mod TubeCounts
pub mod NameSteps
