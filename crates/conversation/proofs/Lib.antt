pub mod Acts
pub mod Answers
pub mod Going
pub mod Steps
pub mod Handing
pub mod Transcripts
