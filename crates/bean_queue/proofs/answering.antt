-- No key is answered twice; and worked rows, computed.
pub mod OneAnswer
pub mod Worked
