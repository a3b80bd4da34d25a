pub mod Firsts
pub mod Records
pub mod Kept
pub mod Fates
pub mod Chronicles
pub mod Growing
