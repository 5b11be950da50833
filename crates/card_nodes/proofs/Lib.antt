pub mod Scan
pub mod Turns
pub mod Searches
pub mod Records
pub mod ParentWorded
pub mod Positions
