-- Names of tubes, and sets of them.
pub mod Names
pub mod NameSets
