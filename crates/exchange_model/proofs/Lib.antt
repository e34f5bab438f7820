-- The argument of the law of the pair, in the order in which it goes: what holds of any run, the law's five steps
-- (Joint is the first, Alone has the second, the third and the fifth, Terms the fourth), the parts of a fair run, what
-- outputs rest on, and honest schedules.
pub mod Worlds
pub mod Joint
pub mod Alone
pub mod Terms
pub mod Fairness
pub mod Offering
pub mod Honest
-- Beside it: what monitors keep.
pub mod Monitors
pub mod Common
