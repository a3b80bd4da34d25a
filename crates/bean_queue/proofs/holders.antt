-- No job is held by two sessions.
pub mod Held
pub mod RowHolds
pub mod Given
pub mod EffectHolds
pub mod OneHolder
