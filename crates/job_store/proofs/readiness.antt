-- Which jobs are ready, and which tubes have some, by the shelves.
pub mod Readiness
pub mod TubeJobs
