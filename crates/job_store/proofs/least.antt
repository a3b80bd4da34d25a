-- What is least of what passes a test.
pub mod Least
pub mod Firsts
