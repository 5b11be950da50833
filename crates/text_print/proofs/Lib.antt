-- Laws of its own, numbers as digits; and examples of fields.
mod Digits
pub mod Rows
