pub mod Memberships
pub mod Kept
pub mod Rests
