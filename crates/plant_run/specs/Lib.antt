pub mod Given
pub mod Ran
pub mod Reporting
pub mod Running
pub mod Script
pub mod ScriptLine
pub mod WorkedScripts
