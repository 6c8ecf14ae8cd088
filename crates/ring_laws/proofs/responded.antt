pub mod Responds
pub mod RespondsWhole
pub mod RespondedJobs
pub mod RespondedKept
pub mod InOrderAnswer
pub mod InOrderKept
pub mod OrderedRows
pub mod PlacedRun
