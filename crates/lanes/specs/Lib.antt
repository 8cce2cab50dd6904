pub mod Lanes
pub mod Kept
pub mod LanesMeaning
pub mod Making
