pub mod HandRises
pub mod HandTells
