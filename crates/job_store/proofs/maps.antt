-- Jobs by id: the entries of a map before and after a change, and after it was taken back.
pub mod Entries
pub mod Members
pub mod Undone
