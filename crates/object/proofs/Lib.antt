pub mod NumberMaps
pub mod KeyMaps
pub mod LatestMaps
pub mod Filters
