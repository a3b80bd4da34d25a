pub mod Places
pub mod Owning
