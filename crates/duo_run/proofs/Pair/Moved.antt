-- What an event is to its end: by the last 64 frames of its peer as by all of them.
use Rattle.duo_run.proofs.Common.{DuoView, Event, Fits, IsDuo, IsProper, IsWritable, OfMaster, OfSlave, WindowView, altered_delivery, back_th, delivery, end_of_event, length_of, lengths_of, move_at, move_from, profile_of, profiles_of, window_of}
use Rattle.std.proofs.Common.{◌≡◌, ℕ, List, refl, ap, ◌∙◌, arith}
use Rattle.fsoe_base.specs.declared.command.End.TheVariants as end_name
use Rattle.black_channel.proofs.Pushed.{back_within}
use Rattle.schedule_file.specs.declared.event.Event.TheVariants as event

-- the frames of a window are enough
pub moved_within : (v : WindowView) (frames : List (List ℕ)) (event : Event) → IsWritable event → v ≡ window_of frames → move_from v.frames event ≡ move_from frames event
moved_within v frames (event.Deliver to back) writable h = ap delivery (ap (λ (v : WindowView). back_th back v.frames) h ∙ back_within 64 back frames writable.1)
moved_within v frames (event.Altered to back pos mask) writable h = ap (altered_delivery pos mask) (ap (λ (v : WindowView). back_th back v.frames) h ∙ back_within 64 back frames writable.1)
moved_within v frames _ writable h = refl

-- what an event is to its end is proper there, where the event fits
pub master_proper : (v : DuoView) (event : Event) (came : List ℕ) → end_of_event event ≡ end_name.Master → Fits (length_of (lengths_of v)) (profile_of (profiles_of v)) event → IsProper (OfMaster v.master.kit.settings) (move_at event came)
master_proper v event came h k = grind arith

pub slave_proper : (v : DuoView) (event : Event) (came : List ℕ) → IsDuo v → end_of_event event ≡ end_name.Slave → Fits (length_of (lengths_of v)) (profile_of (profiles_of v)) event → IsProper (OfSlave v.slave.kit.settings) (move_at event came)
slave_proper v event came h k l = grind arith
