pub mod StoreCalls
pub mod FileCalls
