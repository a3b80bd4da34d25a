-- The folders, lowest first.
pub mod chosen
pub mod order
pub mod answered
pub mod every
pub mod books
