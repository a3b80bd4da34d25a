pub mod HallCalls
pub mod Idle
pub mod Round
