pub mod CleanedAll
pub mod CleanedJobs
pub mod CleanedOne
pub mod CleanedRecords
pub mod CleanedRing
pub mod Completing
