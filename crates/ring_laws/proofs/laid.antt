pub mod LaidEntry
pub mod LaidRing
pub mod LaidIds
pub mod LaidBlocks
pub mod LaidCommands
pub mod LaidPoints
pub mod RingLaid
pub mod Scatter
