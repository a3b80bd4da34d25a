pub mod OneVerdict
pub mod LogsRead
