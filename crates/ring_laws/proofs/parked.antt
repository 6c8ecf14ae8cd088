pub mod ParkedJobs
pub mod ParkedKept
