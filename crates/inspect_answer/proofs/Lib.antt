-- Laws of its own: a question's name in its line, and what stands at the front of a buffer that was lent; and examples.
mod Names
mod Fronts
mod Listings
pub mod Rows
