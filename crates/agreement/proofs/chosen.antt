-- At most one command is chosen for a slot, and what is chosen stays so: what each event keeps of the letters, acceptors and
-- leaders.
pub mod Sets
pub mod Invariants
pub mod Grows
pub mod Turns
pub mod Good
pub mod LeaderRows
pub mod Rows
pub mod Reach
pub mod Bounds
pub mod Growing
