-- The law's first step, what both ends' items say of one another: the claim (Joint) over the item that an end awaits
-- (Awaited), what keeps it (JointSteps), what an entry says that takes the awaited item (Taking), and that each entry
-- keeps the claim (Related).
pub mod Awaited
pub mod Joint
pub mod JointSteps
pub mod Taking
pub mod Related
