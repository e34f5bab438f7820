-- Both ends tell equal terms in state Data: those of the master's settings.
use Rattle.exchange_model.proofs.Common.{Command, Deed, End, Entry, IsNextEntry, IsWorld, Item, MasterSettings, OfMaster, OfSlave, SameLengths, SlaveSettings, State, Terms, command_in, deed_in, deeds, is_data, items, items_of, phase_of_data, piece_len, receives, same_end, state_of, terms, terms_in, terms_of, told_in, uploaded}
use Rattle.std.proofs.Common.{◌≡◌, ℕ, ◌<◌, List, [], ◌∷◌, true, false, Some, if◌then◌else◌, refl, sym, ap, subst, ◌∙◌, arith, rules}
use Rattle.fsoe_base.specs.declared.command.End.TheVariants as end_name
use Rattle.fsoe_base.specs.declared.command.State.TheVariants as state
use Rattle.exchange_model.proofs.Worlds.Projection.{next_told, deeds_are_run}
use Rattle.exchange_model.proofs.Worlds.Frames.{bytes_in, frames}
use Rattle.exchange_model.proofs.Joint.Awaited.{up_to}
use Rattle.exchange_model.proofs.Joint.Joint.{is_guarded_in, session, Mirrors, Standing, Before, Past}
use Rattle.exchange_model.proofs.Alone.Framed.{phase_by, connection_of, parameters_of}
use Rattle.exchange_model.proofs.Alone.Pieces.{order_at, Sent, AllSent, all_sent, session_phase, sent_more}
use Rattle.exchange_model.proofs.Alone.Uploads.{Tested, tested}
use Rattle.exchange_model.proofs.Terms.Agree.{agree, front_whole}
use Rattle.exchange_model.proofs.Joint.Related.{Related, carried_is}

-- an item of data was sent under these terms
pub record Tells (t : Terms) (i : Item) : Type 0 where
  pub tells : (c : Command) → command_in i.bytes ≡ Some c → is_data c ≡ true → i.terms ≡ Some t

-- what a master had sent up to one of its items
up-to-sent : (ms : MasterSettings) (n : ℕ) (m : List Item) → AllSent ms (bytes_in m) → Sent ms (session (bytes_in (up_to n m)))
up-to-sent ms n [] h = h
up-to-sent ms n (i ∷ m) h = grind (arith, up-to-sent ms n m h.1)

-- a slave that mirrors a master in Data has both payloads whole
whole-terms : (ms : MasterSettings) (ss : SlaveSettings) (t : List Item) (uploads : State → List ℕ) → SameLengths ms ss → Sent ms (session (bytes_in t)) → Mirrors (receives (OfSlave ss)) (piece_len (OfSlave ss)) state.Data uploads t → Tested ss (uploads state.Parameter)
    → terms_in ss.profile (uploads state.Connection) (uploads state.Parameter) ≡ terms_of ms
whole-terms ms ss t uploads same h k u =
    let some : 0 < piece_len (OfMaster ms) = search rules in
    let o = order_at _ state.Data _ _ _ _ (session_phase (bytes_in t) ∙ k.phase_is) h.order in
    agree ms ss _ _ (uploads state.Connection) (uploads state.Parameter)
    (k.same state.Connection refl ∙ (carried_is ms ss state.Connection t same ∙ (h.connection ∙ front_whole (connection_of ms) (piece_len (OfMaster ms)) _ some o.0)))
    (k.same state.Parameter refl ∙ (carried_is ms ss state.Parameter t same ∙ (h.parameters ∙ front_whole (parameters_of ms) (piece_len (OfMaster ms)) _ some o.1))) u

-- a slave in Data has the master's terms
pub terms_agree : (ms : MasterSettings) (ss : SlaveSettings) (w : List Entry) → SameLengths ms ss → IsWorld ms ss w → Related ms ss w → state_of (OfSlave ss) (deeds end_name.Slave w) ≡ state.Data → terms (OfSlave ss) (deeds end_name.Slave w) ≡ terms_of ms
terms_agree ms ss w same so_far h now = by-standing h.standing
  where
    by-standing : Standing (receives (OfSlave ss)) (piece_len (OfSlave ss)) (state_of (OfSlave ss) (deeds end_name.Slave w)) (λ phase. uploaded ss phase (deeds end_name.Slave w)) (items_of end_name.Slave (items w)) (items_of end_name.Master (items w))
        → terms_in ss.profile (uploaded ss state.Connection (deeds end_name.Slave w)) (uploaded ss state.Parameter (deeds end_name.Slave w)) ≡ terms_of ms
    by-standing (Before a none) = absurd (let q : false ≡ true = sym a ∙ ap is_guarded_in now in cc)
    by-standing (Past a k) =
        let uploads : State → List ℕ = λ phase. uploaded ss phase (deeds end_name.Slave w) in
        let m : List Item = items_of end_name.Master (items w) in
        let sent : AllSent ms (bytes_in m) = subst (AllSent ms) (sym (frames end_name.Master w)) (all_sent ms (deeds end_name.Master w) (deeds_are_run ms ss end_name.Master w so_far)) in
        whole-terms ms ss (up_to k.item m) uploads same (up-to-sent ms k.item m sent)
        (subst (λ (now : State). Mirrors (receives (OfSlave ss)) (piece_len (OfSlave ss)) now uploads (up_to k.item m)) now k.mirrors)
        (tested ss (deeds end_name.Slave w) (deeds_are_run ms ss end_name.Slave w so_far))

-- terms that are told in Data
told-data : (now : State) (t u : Terms) → now ≡ state.Data → t ≡ u → told_in now t ≡ Some u
told-data now t u h k = ap (λ (now : State). told_in now t) h ∙ ap Some k

-- a master that sent a data frame is in Data
pub master_state : (ms : MasterSettings) (x : Deed) (e : List Deed) (c : Command) → command_in x.sent ≡ Some c → is_data c ≡ true → state_of (OfMaster ms) (x ∷ e) ≡ state.Data
master_state ms x e c h k = search (rules, sent_more, phase_by, phase_of_data)

-- an entry of a slave in Data tells the same, where both ends' items are related after it
pub slave_told : (ms : MasterSettings) (ss : SlaveSettings) (x : Entry) (w : List Entry) → SameLengths ms ss → IsWorld ms ss (x ∷ w) → Related ms ss (x ∷ w) → x.end ≡ end_name.Slave → IsNextEntry (OfSlave ss) x (deeds end_name.Slave w)
    → state_of (OfSlave ss) (deeds end_name.Slave (x ∷ w)) ≡ state.Data → x.terms ≡ Some (terms_of ms)
slave_told ms ss x w same h k is next now =
    let e : deeds end_name.Slave (x ∷ w) ≡ deed_in x ∷ deeds end_name.Slave w = ap (λ (end : End). if same_end end_name.Slave end then deed_in x ∷ deeds end_name.Slave w else deeds end_name.Slave w) is in
    ap (λ (y : Entry). y.terms) (next_told (OfSlave ss) x (deeds end_name.Slave w) next)
    ∙ told-data (state_of (OfSlave ss) (deed_in x ∷ deeds end_name.Slave w)) (terms (OfSlave ss) (deed_in x ∷ deeds end_name.Slave w)) (terms_of ms)
    (ap (state_of (OfSlave ss)) (sym e) ∙ now) (ap (terms (OfSlave ss)) (sym e) ∙ terms_agree ms ss (x ∷ w) same h k now)
