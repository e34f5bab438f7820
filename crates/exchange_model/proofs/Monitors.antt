-- What a monitor keeps after an entry: the one without lists (Noted), and the one with lists (ListNoted).
pub mod Noted
pub mod ListNoted
