-- A chronicle has one text, and of two chronicles with one text both are one.
pub mod InTime
pub mod Texts
pub mod LineLists
pub mod OneChronicle
pub mod ValuesFit
