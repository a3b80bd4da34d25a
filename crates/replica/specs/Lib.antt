pub mod Replicas
pub mod CatchingUp
