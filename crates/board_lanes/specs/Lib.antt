pub mod Board
pub mod Records
