pub mod Playing
pub mod InPart
pub mod Opened
pub mod Words
pub mod Calls
pub mod Loads
pub mod Top
pub mod Laws
