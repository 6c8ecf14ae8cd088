pub mod HandledJobs
pub mod HandledKept
