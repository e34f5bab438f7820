-- The slave of a connection and what notes its pair, after a deed of either end.
use Rattle.plant_core.proofs.Common.{Acted, AgesNote, AgesView, Deed, Did, End, Entry, Fixed, HasAgeParts, IfSome, IsNoted, Lengths, LinkConf, LinkStands, LinkView, Move, NotesOne, OfSlave, SlaveActs, SlaveIsAfter, SlaveView, ChannelTold, Trace, deed_in, deeds, delivered, is_some, new_ages, new_link, next_of, place_of, same_end, sent_uses, told_terms, watchdog_in}
use Rattle.fsoe_base.specs.declared.did.Took.{Took}
use Rattle.end_model.specs.Step.{step}
use Rattle.std.proofs.Common.{◌≡◌, ℕ, ◌+◌, List, [], ◌∷◌, Bool, false, ap, ap₂, refl, sym, subst, Option, if◌then◌else◌, ◌∙◌, arith}
use Rattle.fsoe_base.specs.declared.command.Command.TheVariants as command
use Rattle.fsoe_base.specs.declared.command.End.TheVariants as side
use Rattle.param_load.specs.declared.slave_settings.SlaveSettings.{SlaveSettings}
use Rattle.param_load.specs.declared.terms.Terms.{Terms}
use Rattle.exchange_model.specs.Honest.{is_tick}
use Rattle.exchange_model.specs.Monitor.{HasParts}
use Rattle.exchange_model.specs.Monitor as monitor
use Rattle.reaction_bound.specs.Ages as ages
use Rattle.slave_core.specs.Standing as slave_core

pub is_new : (link : LinkConf) (aged : Bool) (new : LinkView) → SlaveIsAfter link.slave new.slave [] → new.monitor ≡ monitor.view_of [] → new.ages ≡ new_ages aged → new.cut ≡ false → new ≡ new_link aged link
is_new link aged new h k l m = grind arith

-- what is new stands for no entries
pub new_stands : (aged : Bool) (link : LinkConf) → LinkStands link (new_link aged link) []
new_stands aged link = grind arith

-- ages that had noted some entries have noted one more
ages_noted : (old new : Option AgesView) (at : End) (tick : Bool) (came : List ℕ) (did : Did) (sent : List ℕ) (watchdog : Option ℕ) (x : Entry) (w : List Entry) → AgesNote old at tick came did sent watchdog new
    → HasAgeParts x at tick came did sent watchdog → IfSome old (λ a. a ≡ ages.view_of w) → IfSome new (λ a. a ≡ ages.view_of (x ∷ w))
ages_noted old new at tick came did sent watchdog x w h k l = grind arith

-- what is told whatever was taken
pub whatever : (took : Option Took) (watchdog told : Option ℕ) → watchdog ≡ told → IfSome took (λ t. t.command ≡ command.ProcessData → watchdog ≡ told)
whatever took watchdog told h = grind arith

abbrev fixed_by : Lengths → Bool → Fixed
fixed_by lengths aged = record { lengths = lengths; aged = aged }

pub notes_one : (old new : LinkView) → new.monitor.noted ≡ old.monitor.noted + 1 → new.slave.kit.settings ≡ old.slave.kit.settings → is_some new.ages ≡ is_some old.ages → new.cut ≡ old.cut → NotesOne old new
notes_one old new noted settings aged cut = record {
  noted = noted;
  fixed = ap₂ fixed_by (ap (λ (s : SlaveSettings). s.lengths) settings) aged;
  cut = cut;
}

pub slave_acts : (k : ℕ) (what : Move) (tick : Bool) (came : List ℕ) (old mid new : LinkView) (did : Did) (sent : List ℕ) (terms : Option Terms) (watchdog : Option ℕ) (before after : ChannelTold) → slave_core.Follows old.slave what mid.slave → slave_core.Answers old.slave what did sent
    → slave_core.Shows mid.slave terms told_terms → watchdog ≡ watchdog_in terms → IsNoted side.Slave tick came did sent watchdog mid new → Trace (sent_uses (place_of k side.Master) sent mid.cut) before after
    → is_tick what ≡ tick → delivered what ≡ came → mid.slave.kit.settings ≡ old.slave.kit.settings → mid ≡ record old { slave = mid.slave } → SlaveActs k what old new before after
slave_acts k what tick came old mid new did sent terms watchdog before after follows answers shown told noted pushed ticked brought settings stays = record {
  acts = λ link w h.
      let e : List Deed = deeds side.Slave w in
      let x : Entry = next_of side.Slave what link w in
      let after_it = follows.is_after link.slave e h.slave in
      let s = answers.sent link.slave e h.slave in
      let told_so : watchdog ≡ watchdog_in x.terms = told ∙ ap watchdog_in (shown.shows link.slave (step (OfSlave link.slave) e what ∷ e) after_it) in
      let parts : HasParts x side.Slave came did sent = record { end_is = refl; came_is = brought; did_is = sym (answers.did link.slave e h.slave); sent_is = sym s } in
      record {
        stands = record {
          slave = subst (λ (z : SlaveView). SlaveIsAfter link.slave z (step (OfSlave link.slave) e what ∷ e)) (sym noted.slave) after_it;
          monitor = (noted.monitor.notes x parts).notes w (ap (λ (v : LinkView). v.monitor) stays ∙ h.monitor);
          ages = ages_noted mid.ages new.ages side.Slave tick came did sent watchdog x w noted.ages
              (record { parts = parts; tick_is = ticked; watchdog_is = whatever x.did.took watchdog (watchdog_in x.terms) told_so }) (rw (ap (λ (v : LinkView). v.ages) stays) h.ages);
        };
        channel = subst (λ (f : List ℕ). Trace (sent_uses (place_of k side.Master) f old.cut) before after) s (rw (← ap (λ (v : LinkView). v.cut) stays) pushed);
      };
  notes = notes_one old new (noted.notes.noted ∙ ap (λ (v : LinkView). v.monitor.noted + 1) stays) (ap (λ (v : SlaveView). v.kit.settings) noted.slave ∙ settings)
      (ap (λ (f : Fixed). f.aged) noted.notes.fixed ∙ ap (λ (v : LinkView). is_some v.ages) stays) (noted.notes.cut ∙ ap (λ (v : LinkView). v.cut) stays);
}

-- an entry of the master is none of the slave's deeds
masters_own : (end : End) (x : Entry) (w : List Entry) → end ≡ side.Master → (if same_end side.Slave end then deed_in x ∷ deeds side.Slave w else deeds side.Slave w) ≡ deeds side.Slave w
masters_own end x w h = grind arith

-- what is kept stands for an entry more of the master
pub master_stands : (tick : Bool) (came : List ℕ) (did : Did) (sent : List ℕ) (watchdog : Option ℕ) (old new : LinkView) (link : LinkConf) (w : List Entry) (x : Entry) → IsNoted side.Master tick came did sent watchdog old new → LinkStands link old w
    → HasAgeParts x side.Master tick came did sent watchdog → LinkStands link new (x ∷ w)
master_stands tick came did sent watchdog old new link w x noted h is = record {
  slave = rw (noted.slave, masters_own x.end x w is.parts.end_is) h.slave;
  monitor = (noted.monitor.notes x is.parts).notes w h.monitor;
  ages = ages_noted old.ages new.ages side.Master tick came did sent watchdog x w noted.ages is h.ages;
}

-- and its frame is pushed
pub master_acts : (n : ℕ) (tick : Bool) (came : List ℕ) (did : Did) (sent : List ℕ) (watchdog : Option ℕ) (old new : LinkView) (before after : ChannelTold) (link : LinkConf) (w : List Entry) (x : Entry) → IsNoted side.Master tick came did sent watchdog old new
    → Trace (sent_uses (place_of n side.Slave) sent old.cut) before after → LinkStands link old w → HasAgeParts x side.Master tick came did sent watchdog → Acted n side.Slave link x w old new before after
master_acts n tick came did sent watchdog old new before after link w x noted pushed h is = record {
  stands = master_stands tick came did sent watchdog old new link w x noted h is;
  channel = subst (λ (f : List ℕ). Trace (sent_uses (place_of n side.Slave) f old.cut) before after) (sym is.parts.sent_is) pushed;
}
