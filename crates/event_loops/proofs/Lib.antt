pub mod Courses
pub mod HandingIn
