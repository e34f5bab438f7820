-- What each end does by itself, whatever comes: how its frames begin (Framed). The law's second step is what a master
-- sends (Pieces), its third what a slave tests (Uploads), its fifth what a data frame carries (Loads).
pub mod Framed
pub mod Pieces
pub mod Uploads
pub mod Loads
