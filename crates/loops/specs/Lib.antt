pub mod Comparing
pub mod Taking
pub mod Lending
pub mod LendingLaws
pub mod Desks
pub mod LeadingLaws
