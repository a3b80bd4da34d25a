-- There is one order, for which what happened is legal.
pub mod Deciding
pub mod Origins
pub mod Submitted
pub mod Timeline
pub mod Rising
pub mod Once
pub mod Legal
pub mod OneOrder
