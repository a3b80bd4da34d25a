pub mod NameMaps
pub mod NameSteps
