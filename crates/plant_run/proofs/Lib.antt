mod Hearing
mod NextLine
mod RanPlant
mod ScriptFits
mod Scripted
mod TakenApps
mod Waiting
pub mod Common
