pub mod steps
pub mod standing
pub mod alike
pub mod leading
pub mod rounds
pub mod ways
