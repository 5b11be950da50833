pub mod Cyclic
