pub mod Members
pub mod Fresh
pub mod Places
pub mod Rests
