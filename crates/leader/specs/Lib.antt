pub mod Leaders
pub mod Adoptions
pub mod Greatest
pub mod Promises
pub mod Votes
pub mod Rests
