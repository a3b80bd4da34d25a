-- What stands on the shelves follows the jobs.
pub mod Places
pub mod Numbered
pub mod Shelving
pub mod Following
pub mod ShelfFields
pub mod Racks
pub mod Everywhere
