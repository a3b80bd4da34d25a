pub mod LoopCounts
pub mod Courses
pub mod Seats
pub mod Sessions
