pub mod WordsLemmas
pub mod CommandLemmas
pub mod WeightWords
pub mod VersionWords
