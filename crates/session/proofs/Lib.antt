pub mod Items
pub mod FitsMore
pub mod Standing
pub mod Slices
pub mod Going
pub mod Endings
pub mod Whole
