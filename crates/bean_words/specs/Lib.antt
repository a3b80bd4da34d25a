pub mod Names
pub mod NameLists
pub mod NameSets
