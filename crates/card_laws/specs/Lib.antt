pub mod Built
-- What lies under an area, and its recursions as docs/RULES.md words them.
pub mod Under
pub mod Worded
pub mod TotalsWorded
pub mod Children
-- A service's refusals in their order.
pub mod ServiceWorded
