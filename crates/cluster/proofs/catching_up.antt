-- What a snapshot stands for, and what a host becomes that takes one over.
pub mod Told
pub mod Histories
pub mod CatchingUp
pub mod TakingOver
pub mod ComingBack
