-- What callers cite: where a line ends, and whether both fit.
pub mod Walking
pub mod Extents
