-- What was performed is answered, once each, by one object that obeys the order so far.
pub mod Performed
pub mod Answered
pub mod Told
pub mod Reaching
pub mod Placing
pub mod SoFar
