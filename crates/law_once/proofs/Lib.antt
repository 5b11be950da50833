-- For each public function of a library, that its promise admits one answer.
mod Law
pub mod Leaves
pub mod Cards
pub mod Requests
pub mod Texts
pub mod Lines
pub mod Inspections
pub mod Boards
pub mod Library
pub mod Salvages
