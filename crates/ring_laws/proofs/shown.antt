pub mod StatSame
pub mod TodoSame
pub mod PictureShown
