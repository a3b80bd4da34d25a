-- What each leader of a reachable world has, and what it may become.
pub mod LeaderCases
pub mod Leading
pub mod LeadingEvery
