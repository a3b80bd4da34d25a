pub mod Sent
pub mod Posts
pub mod OnWay
pub mod Seats
pub mod Turned
pub mod Acting
pub mod Opened
pub mod Delivering
