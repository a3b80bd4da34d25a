-- Whose jobs are due within a second.
pub mod Counted
pub mod FirstHeld
pub mod Holders
pub mod Lines
pub mod Touched
pub mod Owed
