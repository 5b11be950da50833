pub mod ListingWorded
pub mod BuiltCards
mod TableLaws
mod Filled
pub mod Columns
pub mod TagLaws
pub mod Puts
mod Answered
mod Found
mod Version
mod Lists
