-- A text is read where it is that of a chronicle, and else has one bad line, at which reading stops.
pub mod Grown
pub mod Drafted
pub mod Stops
pub mod ReadOn
pub mod OneBadLine
