pub mod Digit
pub mod Hex
pub mod Codes
pub mod Decimal
