-- What leaders and the books of replicas hold in every world, and what anybody mentions there.
pub mod LeadingSlots
pub mod LeadingRuns
pub mod Mentions
pub mod MentionsEvery
pub mod SlotBooks
pub mod SlotBooksEvery
