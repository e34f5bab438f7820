-- What the readers of an end give after an entry of that end is what the entry tells.
use Rattle.duo_run.proofs.Common.{Deed, DuoStands, DuoView, End, Entry, IsNextEntry, IsRun, MasterIsAfter, MasterSettings, OfMaster, OfSlave, Setup, ShowsLast, SlaveIsAfter, SlaveSettings, deed_in, deeds, setup_of}
use Rattle.std.proofs.Common.{◌≡◌, List, ◌∷◌, sym, ap, subst, ◌∙◌, arith}
use Rattle.fsoe_base.specs.declared.command.End.TheVariants as end_name
use Rattle.end_model.specs.Readiness.{state_of, told_terms}
use Rattle.end_model.specs.Outputs.{outputs, out}
use Rattle.end_model.proofs.Shown.{looking_back}
use Rattle.master_core.specs.Standing as master_core
use Rattle.slave_core.specs.Standing as slave_core

-- an entry tells a word of the deeds with its own
pub record Tells {X : Type 0} (told : Entry → X) (word : Setup → List Deed → X) : Type 0 where
  pub tells : (s : Setup) (x : Entry) (e : List Deed) → IsRun s (deed_in x ∷ e) → IsNextEntry s x e → told x ≡ word s (deed_in x ∷ e)

pub tells_state : Tells (λ (x : Entry). x.state) state_of
tells_state = record { tells = λ s x e run next. ap (λ (x : Entry). x.state) next.stepped ∙ sym (ap (λ (x : Entry). state_of s (deed_in x ∷ e)) next.stepped) }

pub tells_outputs : Tells (λ (x : Entry). x.outputs) out
tells_outputs = record {
  tells = λ s x e run next.
      ap (λ (x : Entry). x.outputs) next.stepped ∙ sym (ap (λ (x : Entry). outputs s (deed_in x ∷ e)) next.stepped) ∙ looking_back s (deed_in x ∷ e) run;
}

pub tells_terms : Tells (λ (x : Entry). x.terms) told_terms
tells_terms = record { tells = λ s x e run next. ap (λ (x : Entry). x.terms) next.stepped ∙ sym (ap (λ (x : Entry). told_terms s (deed_in x ∷ e)) next.stepped) }

-- the deeds of an end after an entry of its own
own-deeds : (which : End) (x : Entry) (w : List Entry) → x.end ≡ which → deeds which (x ∷ w) ≡ deed_in x ∷ deeds which w
own-deeds which x w h = grind arith

next-of : (which : End) (ms : MasterSettings) (ss : SlaveSettings) (v : DuoView) (x : Entry) (w : List Entry) → x.end ≡ which → DuoStands ms ss v (x ∷ w) → IsNextEntry (setup_of ms ss which) x (deeds which w)
next-of which ms ss v x w h stands = subst (λ (at : End). IsNextEntry (setup_of ms ss at) x (deeds at w)) h stands.world.0

pub master_shows : {X : Type 0} (v : DuoView) (shown : X) (told : Entry → X) (word : Setup → List Deed → X) → master_core.Shows v.master shown word → Tells told word → ShowsLast v end_name.Master shown told
master_shows v shown told word is t = record {
  shows = λ ms ss x w stands h.
      let after : MasterIsAfter ms v.master (deed_in x ∷ deeds end_name.Master w) = subst (MasterIsAfter ms v.master) (own-deeds end_name.Master x w h) stands.master in
      t.tells (OfMaster ms) x (deeds end_name.Master w) after.reached (next-of end_name.Master ms ss v x w h stands) ∙ sym (is.shows ms _ after);
}

pub slave_shows : {X : Type 0} (v : DuoView) (shown : X) (told : Entry → X) (word : Setup → List Deed → X) → slave_core.Shows v.slave shown word → Tells told word → ShowsLast v end_name.Slave shown told
slave_shows v shown told word is t = record {
  shows = λ ms ss x w stands h.
      let after : SlaveIsAfter ss v.slave (deed_in x ∷ deeds end_name.Slave w) = subst (SlaveIsAfter ss v.slave) (own-deeds end_name.Slave x w h) stands.slave in
      t.tells (OfSlave ss) x (deeds end_name.Slave w) after.reached (next-of end_name.Slave ms ss v x w h stands) ∙ sym (is.shows ss _ after);
}
