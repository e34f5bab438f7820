pub mod DeedLines
pub mod OneReport
pub mod Nodes
