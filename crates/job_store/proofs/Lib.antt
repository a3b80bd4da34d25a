pub mod maps
pub mod least
pub mod shelving
pub mod readiness
pub mod counting
