-- The parts of a fair run: outputs by looking back (Shown) and data taken once (Once), whatever comes; and the law,
-- which joins its five steps (Headline).
pub mod Shown
pub mod Once
pub mod Headline
