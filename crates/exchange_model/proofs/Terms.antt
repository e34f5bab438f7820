-- The law's fourth step: in Data what a slave uploaded says the master's terms (Agree), and both ends tell equal ones
-- (Told).
pub mod Agree
pub mod Told
