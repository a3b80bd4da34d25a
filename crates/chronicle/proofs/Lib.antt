pub mod verdicts
