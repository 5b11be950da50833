-- Where a replay stops it has ended.
pub mod Stops
