-- What is kept of the ages after an entry is what the definitions say of the entries with it.
use Rattle.reaction_bound.proofs.Common.{AgesView, Did, End, Entry, HasParts, MonitorView, NotesEntry, NotesParts, Standing, acted_next, age_in, age_of, awaited, awaited_by, delivered, greater, is_other, is_tick, item_number, items, kept_of, peer, same_end, told_age, view_of, watchdog_in, worst_of}
use Rattle.reaction_bound.specs.Ages.{heard_next}
use Rattle.std.proofs.Common.{◌≡◌, ℕ, List, ◌∷◌, Bool, true, false, Option, IfSome, refl, sym, ap, ◌∙◌, arith}
use Rattle.fsoe_base.specs.declared.command.End.TheVariants as end_name
use Rattle.fsoe_base.specs.declared.command.Command.TheVariants as command
use Rattle.exchange_model.specs.Monitor as monitor
use Rattle.exchange_model.proofs.Offering.Offered.{same_itself}
use Rattle.reaction_bound.specs.declared.end_age.EndAge.{EndAge}
use Rattle.reaction_bound.proofs.Waiting.{waited_step}
use Rattle.reaction_bound.proofs.Outputs.{heard_outputs, acted_outputs, acted_worst, heard_worst}

keeps : (n n' : ℕ) (s s' : Option Standing) (worst worst' : Option ℕ) → n ≡ n' → s ≡ s' → worst ≡ worst'
    → (let k : EndAge = record { waited = n; standing = s; worst = worst } in k) ≡ record { waited = n'; standing = s'; worst = worst' }
keeps n n' s s' worst worst' h i j = cc

-- what is kept of an end after an entry of its own
acted : (which : End) (x : Entry) (w : List Entry) → same_end which x.end ≡ true
    → acted_next (is_tick x.what) (is_other (items w) x) x.did (watchdog_in x.terms) (awaited_by which w) (awaited_by which (x ∷ w)) (kept_of which w) ≡ kept_of which (x ∷ w)
acted which x w e =
    keeps _ _ _ _ _ _ (sym (waited_step which x w true e)) (sym (acted_outputs which x w e))
    (sym (acted_worst which x w ∙ ap (λ (s : Option Standing). greater (age_in s) (told_age (worst_of which w))) (acted_outputs which x w e)))

-- the same after an entry of its peer
heard : (which : End) (x : Entry) (w : List Entry) → same_end which x.end ≡ false → heard_next (awaited_by which w) (awaited_by which (x ∷ w)) (kept_of which w) ≡ kept_of which (x ∷ w)
heard which x w e = keeps _ _ _ _ _ _ (sym (waited_step which x w false e)) (sym (heard_outputs which x w e)) (ap told_age (sym (heard_worst which x w e)))

-- the number of the item that an end awaits, as a monitor tells it
abbrev TellsAwaited : MonitorView → End → Option ℕ → Type 0
TellsAwaited v which number = (w : List Entry) → v ≡ monitor.view_of w → number ≡ item_number (awaited (items w) which)

-- whether an entry is other, as a monitor tells it before the entry
abbrev TellsOther : MonitorView → End → List ℕ → Did → Bool → Type 0
TellsOther v at came did other = (w : List Entry) (x : Entry) (sent : List ℕ) → v ≡ monitor.view_of w → HasParts x at came did sent → other ≡ is_other (items w) x

same-watchdog : (tick other : Bool) (did : Did) (watchdog watchdog' before after : Option ℕ) (old : EndAge) → IfSome did.took (λ t. t.command ≡ command.ProcessData → watchdog ≡ watchdog')
    → acted_next tick other did watchdog before after old ≡ acted_next tick other did watchdog' before after old
same-watchdog tick other did watchdog watchdog' before after old h = grind arith

-- what is kept of an end
abbrev pub side_of : End → AgesView → EndAge
side_of end_name.Master v = v.master
side_of end_name.Slave v = v.slave

side-kept : (which : End) (w : List Entry) → side_of which (view_of w) ≡ kept_of which w
side-kept end_name.Master w = refl
side-kept end_name.Slave w = refl

same-parts : (m m' : MonitorView) (a a' b b' : EndAge) → m ≡ m' → a ≡ a' → b ≡ b' → (let v : AgesView = record { monitor = m; master = a; slave = b } in v) ≡ record { monitor = m'; master = a'; slave = b' }
same-parts m m' a a' b b' h i j = cc

same-view : (which : End) (v : AgesView) (w : List Entry) → v.monitor ≡ monitor.view_of w → side_of which v ≡ kept_of which w → side_of (peer which) v ≡ kept_of (peer which) w → v ≡ view_of w
same-view end_name.Master v w m mine theirs = same-parts _ _ _ _ _ _ m mine theirs
same-view end_name.Slave v w m mine theirs = same-parts _ _ _ _ _ _ m theirs mine

other-end : (which : End) → same_end (peer which) which ≡ false
other-end end_name.Master = refl
other-end end_name.Slave = refl

-- ages that step so note an entry of an end
pub notes_parts : {which at : End} {old new : AgesView} {tick other : Bool} {came sent : List ℕ} {did : Did} {watchdog own peers own' peers' : Option ℕ}
    → at ≡ which → TellsOther old.monitor at came did other → TellsAwaited old.monitor which own → TellsAwaited old.monitor (peer which) peers
    → monitor.NotesParts old.monitor at came did sent new.monitor → TellsAwaited new.monitor which own' → TellsAwaited new.monitor (peer which) peers'
    → side_of which new ≡ acted_next tick other did watchdog own own' (side_of which old) → side_of (peer which) new ≡ heard_next peers peers' (side_of (peer which) old)
    → NotesParts old at tick came did sent watchdog new
notes_parts {which} {at} {old} {new} {tick} {other} {came} {sent} {did} {watchdog} {own} {peers} {own'} {peers'} here o m s noted m' s' acts hears = record {
  notes = λ x parts. record {
    notes = λ w is.
        let before : old.monitor ≡ monitor.view_of w = ap (λ (v : AgesView). v.monitor) is in
        let after : new.monitor ≡ monitor.view_of (x ∷ w) = (noted.notes x parts.parts).notes w before in
        let kept : (end : End) → side_of end old ≡ kept_of end w = λ end. ap (side_of end) is ∙ side-kept end w in
        let at_it : x.end ≡ which = parts.parts.end_is ∙ here in
        let mine : side_of which new ≡ kept_of which (x ∷ w) =
        acts
        ∙ rw (sym parts.tick_is, o w x sent before parts.parts, sym parts.parts.did_is, m w before, m' (x ∷ w) after, kept which)
        (same-watchdog (is_tick x.what) (is_other (items w) x) x.did watchdog (watchdog_in x.terms) (awaited_by which w) (awaited_by which (x ∷ w)) (kept_of which w) parts.watchdog_is
        ∙ acted which x w (ap (same_end which) at_it ∙ same_itself which)) in
        let theirs : side_of (peer which) new ≡ kept_of (peer which) (x ∷ w) =
        hears ∙ rw (s w before, s' (x ∷ w) after, kept (peer which)) (heard (peer which) x w (ap (same_end (peer which)) at_it ∙ other-end which)) in
        same-view which new (x ∷ w) after mine theirs;
  };
}

-- an entry has its own parts
pub notes_whole : (old new : AgesView) (x : Entry) → NotesParts old x.end (is_tick x.what) (delivered x.what) x.did x.sent (watchdog_in x.terms) new → NotesEntry old x new
notes_whole old new x h = grind arith

pub age_is : (v : AgesView) (at : End) (w : List Entry) → v ≡ view_of w → age_in (side_of at v).standing ≡ told_age (age_of at w)
age_is v at w h = grind arith

pub worst_is : (v : AgesView) (at : End) (w : List Entry) → v ≡ view_of w → (side_of at v).worst ≡ told_age (worst_of at w)
worst_is v at w h = grind arith
