-- Laws of the definitions, which callers cite too: each case, what packing and unpacking say of each other, lists.
pub mod Cases
pub mod Round
pub mod Says
pub mod ListsLaws
-- What the walks of the reader's functions cite.
pub mod Lent
pub mod Turns
