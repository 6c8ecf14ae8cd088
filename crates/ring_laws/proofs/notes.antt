pub mod Noted
pub mod NoteIds
pub mod NoteBytes
