-- What holds of every run of both ends: each end runs there as it runs alone (Projection), and its items are the frames
-- that it sent (Frames), numbered in their order (Numbered). A longer schedule goes on from a shorter one's entries
-- (Longer); those before the first other entry are a run too (Others).
pub mod Projection
pub mod Numbered
pub mod Frames
pub mod Others
pub mod Longer
