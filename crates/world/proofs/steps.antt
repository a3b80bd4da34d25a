-- A step of the code is exactly its event, and brings nothing where its event does.
pub mod Places
pub mod Noted
pub mod Events
pub mod Idle
pub mod Watching
pub mod WatchedDeeds
pub mod Acting
pub mod Delivering
