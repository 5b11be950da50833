-- Laws of the definitions, which callers cite too, and examples that antt computes.
pub mod DigitLaws
pub mod HexLaws
pub mod HexRows
pub mod CodeLaws
pub mod CodeRows
pub mod DecimalLaws
pub mod DecimalRows
