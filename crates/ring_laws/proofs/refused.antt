pub mod RefusedSame
