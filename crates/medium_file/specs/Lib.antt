pub mod FileState
