-- There is a way out of every world: a slot after the other is proposed, decided and performed.
pub mod Going
pub mod Allowing
pub mod Passing
pub mod Telling
pub mod LetterTests
pub mod Finding
pub mod Lengthening
pub mod MentionsFew
pub mod SlotBooksNext
pub mod Booking
pub mod Proposing
pub mod Learning
pub mod Bringing
pub mod Beginning
pub mod Rescued
pub mod WaysBack
