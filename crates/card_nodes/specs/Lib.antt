pub mod Node
pub mod Find
pub mod ParentWorded
