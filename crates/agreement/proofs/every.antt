-- What is so of every world, by the lemmas of the other folders.
pub mod Events
pub mod Every
