-- To be read in this order: nodes moved, the card of its own, two systems on one card.
pub mod Moved
pub mod Own
pub mod Two
