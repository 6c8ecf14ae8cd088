pub mod TailMoved
