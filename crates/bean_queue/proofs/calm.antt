-- Between commands nothing is left to give; what a command wakes covers all that can be given after it.
pub mod Calm
pub mod Called
pub mod Woken
pub mod Reserving
pub mod Sound
pub mod Ticked
