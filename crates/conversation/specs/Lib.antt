pub mod Keeping
pub mod Tickets
pub mod TicketLaws
pub mod Talks
pub mod Conversing
pub mod Desks
pub mod Links
