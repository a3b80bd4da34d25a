pub mod spelling
pub mod texts
pub mod stops
