pub mod Clients
pub mod Owning
