pub mod Networks
pub mod Posting
pub mod MailLaws
