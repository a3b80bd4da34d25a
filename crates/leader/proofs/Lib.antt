pub mod Kept
pub mod Outcomes
pub mod GreatestValues
pub mod VoteRows
pub mod PromiseRows
pub mod Saying
pub mod Rests
