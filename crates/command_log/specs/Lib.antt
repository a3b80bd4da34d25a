pub mod Text
pub mod Lines
pub mod Spelling
pub mod Reading
pub mod Faults
pub mod Progress
