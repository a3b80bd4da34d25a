pub mod Formats
pub mod Numbers
pub mod Joined
pub mod Variants
pub mod Decisions
pub mod Words
pub mod Commands
pub mod Operations
