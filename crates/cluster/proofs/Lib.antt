-- The folders, lowest first.
pub mod alone
pub mod catching_up
pub mod together
