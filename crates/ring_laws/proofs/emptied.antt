pub mod EmptiedKept
