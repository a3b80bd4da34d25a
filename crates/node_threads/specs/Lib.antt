pub mod Attending
pub mod Clusters
pub mod Rings
