pub mod Working
pub mod Going
pub mod GoingLaws
