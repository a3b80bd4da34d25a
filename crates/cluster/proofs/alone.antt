-- What a host proves of itself alone.
pub mod Envelopes
pub mod Slots
pub mod Acting
pub mod Elsewhere
pub mod Forgetting
pub mod Opening
