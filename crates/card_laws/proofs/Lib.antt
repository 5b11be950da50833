-- The theorem of refusal 8, then the laws of built cards.
mod Made
mod Cards
mod Decided
pub mod Built
pub mod Places
pub mod Laid
pub mod Kept
pub mod Steps
-- What lies under an area, and its recursions as docs/RULES.md words them.
pub mod UnderLaws
pub mod Worded
pub mod TotalsWorded
pub mod ChildLaws
-- Which new stores there is room for, and which counts agree.
pub mod Room
-- A service's refusals in their order.
pub mod ServiceWorded
