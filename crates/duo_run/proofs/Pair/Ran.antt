-- A pair over a whole list of events.
use Rattle.duo_run.proofs.Common.{DuoStands, DuoView, Entry, Event, MasterSettings, SlaveSettings, going_on, world, world_after}
use Rattle.std.proofs.Common.{◌≡◌, List, [], ◌∷◌, Option, sym, ap, subst, ◌∙◌, inl, inr}
use Rattle.duo_run.specs.Ran.{Ran}

-- the entries are those of the world that follow these, and the pair stands for them
pub ran_after : (ms : MasterSettings) (ss : SlaveSettings) (first last : DuoView) (events : List Event) (w whole : List Entry) → DuoStands ms ss first w → Ran first events w last whole → (whole ≡ world_after ms ss events w) × DuoStands ms ss last whole
ran_after ms ss first last [] w whole h r = (sym r.1, subst (λ (v : DuoView). DuoStands ms ss v whole) r.0 (subst (λ (w : List Entry). DuoStands ms ss first w) r.1 h))
ran_after ms ss first last (event ∷ events) w whole h (inl r) =
    let rest = ran_after ms ss r.1 last events (r.0 ∷ w) whole (r.2.stands ms ss w h) r.3 in
    (rest.0 ∙ ap (λ (next : Option Entry). going_on w next (world_after ms ss events)) (sym (r.2.entry ms ss w h)), rest.1)
ran_after ms ss first last (event ∷ events) w whole h (inr r) = (
  sym r.2 ∙ ap (λ (next : Option Entry). going_on w next (world_after ms ss events)) (sym (r.0.misses ms ss w h)),
  subst (λ (v : DuoView). DuoStands ms ss v whole) r.1 (subst (λ (w : List Entry). DuoStands ms ss first w) r.2 h),
)

pub entries_are_world : (ms : MasterSettings) (ss : SlaveSettings) (first last : DuoView) (events : List Event) (w : List Entry) → DuoStands ms ss first [] → Ran first events [] last w → w ≡ world ms ss events
entries_are_world ms ss first last events w h r = (ran_after ms ss first last events [] w h r).0
