-- To be read in this order: a request without its card, what is alike on two cards, the statements.
pub mod On
pub mod Alike
pub mod Systems
-- What the codes of a request come to on both cards: of use to the proofs alone.
pub mod Rows
