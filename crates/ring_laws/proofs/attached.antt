pub mod AttachedUser
pub mod MailboxThere
