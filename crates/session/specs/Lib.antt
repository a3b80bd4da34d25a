pub mod Streams
pub mod StreamStates
pub mod Items
pub mod Held
pub mod Serving
