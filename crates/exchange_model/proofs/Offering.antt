-- What an end's outputs rest on, whatever clocks both ends have: what holds of a run's older entries, and the ticks
-- since (Older); the entry whose data are shown (Shown); the entry that sent an awaited item, since when its awaiter
-- sent nothing (Sending); that the awaiter's watchdog had not expired when it took the item (Young); and the law, which
-- joins them (Offered).
pub mod Older
pub mod Shown
pub mod Sending
pub mod Young
pub mod Offered
