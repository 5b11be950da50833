-- The laws: Shown (a refresh shows the store as it stands), Lines (it leaves everything, and has no part in a later one).
pub mod Shown
pub mod Lines
