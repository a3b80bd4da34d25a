-- A line of a dump says one thing, and each thing is spelled in one way.
pub mod Words
pub mod Back
pub mod Heads
pub mod Spelled
pub mod ToldBack
pub mod ToldValues
pub mod ValueLists
pub mod EntryLines
pub mod Tells
