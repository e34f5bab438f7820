pub mod ByName
pub mod Handed
pub mod JournalText
pub mod Noted
pub mod Plant
pub mod WorkedLines
