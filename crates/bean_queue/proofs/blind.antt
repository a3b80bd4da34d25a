-- No answer depends on what has happened to a job.
pub mod Jobs
pub mod Rows
pub mod Serving
pub mod Blind
