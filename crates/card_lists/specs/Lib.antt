pub mod Gather
pub mod Packet
pub mod Information
pub mod Coded
