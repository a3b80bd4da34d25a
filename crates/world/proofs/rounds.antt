-- A round of questions ends: its leader is beaten by one whom fewer are above, leads, or is at rest.
pub mod Hearing
pub mod Stepping
pub mod Talking
pub mod Rivals
pub mod Rounds
pub mod RoundMembers
pub mod RoundTrips
pub mod RoundSteps
pub mod RoundAll
pub mod Asking
pub mod Turning
pub mod Working
