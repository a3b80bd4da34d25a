pub mod Lists
pub mod Orders
pub mod Replays
pub mod HandedIn
pub mod Said
pub mod FirstMembers
pub mod NoSecond
pub mod Heaviest
