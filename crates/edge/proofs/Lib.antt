pub mod NamedFiles
pub mod Known
