-- Laws of the definitions, which callers cite too, and examples that antt computes.
pub mod EndLaws
pub mod FieldLaws
pub mod Rows
