-- Which slots have a chosen command, and which keys took effect.
pub mod Voters
pub mod Placed
pub mod Standing
pub mod Seeking
pub mod InOrder
