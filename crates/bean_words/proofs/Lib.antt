pub mod naming
