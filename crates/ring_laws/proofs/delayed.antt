pub mod DelayedKept
