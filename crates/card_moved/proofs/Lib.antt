-- Moved nodes: searches, additions, refusal 8's walk, what is known of built cards' nodes.
pub mod Looks
pub mod Building
mod Accepted
pub mod Begun
pub mod Laid
-- The card of its own, and two systems on one card.
pub mod Sound
pub mod Own
pub mod Two
