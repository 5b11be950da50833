pub mod Directory
pub mod Tags
pub mod Table
pub mod ListingWorded
pub mod Total
pub mod Keys
