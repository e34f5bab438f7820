-- Why what is kept of the ages is what the definitions say: how an entry changes what is kept of the item that an end
-- awaits (Waiting) and of its outputs (Outputs), and so all that is kept (Noted); and how old outputs get (Bounded),
-- and that those with a bit as 1 have an age (Aged). Why what a reaction keeps is what the definitions say (Kept).
pub mod Waiting
pub mod Outputs
pub mod Noted
pub mod Bounded
pub mod Aged
pub mod Kept
pub mod Common
