pub mod Others
pub mod Proposing
pub mod Obeyed
