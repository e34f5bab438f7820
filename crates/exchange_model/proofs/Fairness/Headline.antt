-- The law of the pair: in a world without another entry, data taken in Data are those that the peer put into the
-- awaited answer, under equal terms. It rests on what both ends' items say of one another (Joint), on the pieces that a
-- master sends (Pieces), on what a slave tests (Uploads) and on what data frames carry (Loads); Told and this file join
-- them.
use Rattle.exchange_model.proofs.Common.{Answers, Command, Deed, Did, End, Entry, Event, Fair, IsProperEvent, IsTakenFrom, IsWorld, Item, MasterSettings, Move, NoOther, Reaction, SameLengths, Setup, SlaveSettings, TakesAwaited, Taking, Terms, Took, awaited, before_other, command_in, data_after, data_taken, deed_in, deeds, exchange_of, frame_of, is_data, item_of, items, items_of, peer, received_len, receives, sends, setup_of, state_of, takes_frame, terms_of, world}
use Rattle.std.proofs.Common.{◌≡◌, ℕ, List, [], ◌∷◌, Bool, true, false, Option, Some, None, refl, sym, ap, subst, ◌∙◌, All, arith, rules}
use Rattle.fsoe_base.specs.declared.command.End.TheVariants as end_name
use Rattle.fsoe_base.specs.declared.command.State.TheVariants as state
use Rattle.fsoe_base.specs.declared.command.Command.TheVariants as command
use Rattle.param_load.specs.declared.entry.Move.TheVariants as move
use Rattle.exchange_model.proofs.Worlds.Projection.{entry_reacted, world_is_world}
use Rattle.exchange_model.proofs.Fairness.Shown.{receives_is, outputs_are_due}
use Rattle.exchange_model.proofs.Fairness.Once.{at_most_once}
use Rattle.exchange_model.proofs.Worlds.Others.{before_is_clean, before_is_world}
use Rattle.exchange_model.proofs.Alone.Framed.{head_is}
use Rattle.exchange_model.proofs.Alone.Pieces.{deed}
use Rattle.exchange_model.proofs.Alone.Loads.{Carries, item-carries}
use Rattle.exchange_model.proofs.Joint.Taking.{TakesItem, takes_item, data_guarded, NoneOther, none_other}
use Rattle.exchange_model.proofs.Joint.Related.{Related, related}
use Rattle.exchange_model.proofs.Terms.Told.{Tells, slave_told}
use Rattle.exchange_model.proofs.Offering.Older.{older_world, older_clean}
use Rattle.exchange_model.proofs.Offering.Sending.{SentItem, sent-answer}

-- each item of data was sent under the master's terms
tells : (ms : MasterSettings) (ss : SlaveSettings) (which : End) (x : Entry) (w : List Entry) → SameLengths ms ss → IsWorld ms ss (x ∷ w) → Related ms ss (x ∷ w) → x.end ≡ which → Tells (terms_of ms) (item_of x w (items w))
tells ms ss which x w h k l m = search (rules, slave_told)

-- what an entry takes: no data, or a data frame that brings its end into Data or leaves it there
data Takings (s : Setup) (e : List Deed) (x : Deed) : Type 0 where
  NoData : data_taken x.did.took ≡ None → Takings s e x
  SomeData : (bytes load : List ℕ) (c : Command) → x.what ≡ move.Deliver bytes → x.did ≡ takes_frame c load → is_data c ≡ true → command_in bytes ≡ Some c → (frame_of (receives s) bytes).load ≡ load
      → state_of s (x ∷ e) ≡ state.Data → Takings s e x

takings-by : (s : Setup) (e : List Deed) (bytes load : List ℕ) (c : Command) (f : List ℕ) (some : Bool) → Taking e bytes load s c f → is_data c ≡ some → Takings s e (deed (move.Deliver bytes) (takes_frame c load) f)
takings-by s e bytes load c f true taking d =
    let x = (exchange_of e bytes load s c f taking (λ k. let q : is_data command.Reset ≡ true = ap is_data (sym k) ∙ d in cc)).2 in
    SomeData bytes load c refl refl d (head_is (receives s) bytes c x.valid.is_read.command_is) x.valid.load_is (data_after e bytes load s c f taking d)
takings-by s e bytes load c f false taking d = NoData (simp d)

takings : (s : Setup) (e : List Deed) (m : Move) (d : Did) (f : List ℕ) → Reaction s e m d f → Takings s e (deed m d f)
takings s e m d f (Answers bytes load c answer taking) = takings-by s e bytes load c answer (is_data c) taking refl
takings s e m d f _ = NoData refl

-- an end in Data tells the terms of the master's settings
told-in-data : (ms : MasterSettings) (ss : SlaveSettings) (which : End) (x : Entry) (w : List Entry) → SameLengths ms ss → IsWorld ms ss (x ∷ w) → Related ms ss (x ∷ w) → x.end ≡ which → state_of (setup_of ms ss which) (deed_in x ∷ deeds which w) ≡ state.Data
    → x.terms ≡ Some (terms_of ms)
told-in-data ms ss which x w h k l m n = search (rules, slave_told)

-- what an end receives is what its peer sends
received-sent : (ms : MasterSettings) (ss : SlaveSettings) (which : End) → SameLengths ms ss → received_len ms.lengths which ≡ sends (setup_of ms ss (peer which))
received-sent ms ss which h = grind arith

-- data that an entry takes are from the awaited item
taken-from : (l : ℕ) (c : Command) (bytes load : List ℕ) (told : Option Terms) (t : Terms) (o : Option Item) (j : Item) → is_data c ≡ true → o ≡ Some j → j.bytes ≡ bytes → command_in bytes ≡ Some c → (frame_of l bytes).load ≡ load
    → Carries l j → Tells t j → told ≡ Some t → IsTakenFrom l (data_taken (Some (record { command = c; load = load }))) told o
taken-from l c bytes load told t o j h k m n p q r s = grind arith

taken-head : (ms : MasterSettings) (ss : SlaveSettings) (x : Entry) (w : List Entry) → SameLengths ms ss → IsWorld ms ss (x ∷ w) → NoOther (x ∷ w) → Takings (setup_of ms ss x.end) (deeds x.end w) (deed_in x)
    → IsTakenFrom (received_len ms.lengths x.end) (data_taken x.did.took) x.terms (awaited (items w) x.end)
taken-head ms ss x w lens h n (NoData e) = subst (λ (took : Option Took). IsTakenFrom (received_len ms.lengths x.end) took x.terms (awaited (items w) x.end)) (sym e) tt
taken-head ms ss x w lens h n (SomeData bytes load c a b d head load_is now) =
    let o : NoneOther x w = none_other x w n in
    let it : TakesItem w x bytes = takes_item w x bytes c load a b head (data_guarded c d) o.here in
    let sent : SentItem (peer x.end) it.item w = sent-answer (peer x.end) it.item w (items_of x.end (items w)) it.is in
    let older : IsWorld ms ss (sent.sending ∷ sent.before) = older_world ms ss sent.later _ (subst (IsWorld ms ss) sent.parts_are h.1) in
    let clean : NoOther (sent.sending ∷ sent.before) = older_clean sent.later _ (subst (λ (v : List Entry). NoOther v) sent.parts_are o.before) in
    let carry : Carries (sends (setup_of ms ss (peer x.end))) it.item = subst (Carries (sends (setup_of ms ss (peer x.end)))) sent.is_item (item-carries ms ss (peer x.end) sent.sending sent.before sent.by_end older) in
    let tell : Tells (terms_of ms) it.item = subst (Tells (terms_of ms)) sent.is_item (tells ms ss (peer x.end) sent.sending sent.before lens older (related ms ss (sent.sending ∷ sent.before) lens older clean) sent.by_end) in
    subst (λ (did : Did). IsTakenFrom (received_len ms.lengths x.end) (data_taken did.took) x.terms (awaited (items w) x.end)) (sym b)
    (taken-from (received_len ms.lengths x.end) c bytes load x.terms (terms_of ms) (awaited (items w) x.end) it.item d it.is it.bytes_are head
    (ap (λ (l : ℕ). (frame_of l bytes).load) (receives_is ms ss x.end lens) ∙ load_is)
    (subst (λ (l : ℕ). Carries l it.item) (sym (received-sent ms ss x.end lens)) carry) tell
    (told-in-data ms ss x.end x w lens h (related ms ss (x ∷ w) lens h n) refl now))

-- the first part of fair: data are taken from the awaited item
pub takes_awaited : (ms : MasterSettings) (ss : SlaveSettings) (w : List Entry) → SameLengths ms ss → IsWorld ms ss w → NoOther w → TakesAwaited ms.lengths w
takes_awaited ms ss [] lens h n = tt
takes_awaited ms ss (x ∷ w) lens h n =
    let o : NoneOther x w = none_other x w n in
    (taken-head ms ss x w lens h n (takings (setup_of ms ss x.end) (deeds x.end w) x.what x.did x.sent (entry_reacted ms ss x w h)), takes_awaited ms ss w lens h.1 o.before)

-- a world without another entry is fair
pub fair_world : (ms : MasterSettings) (ss : SlaveSettings) (w : List Entry) → SameLengths ms ss → IsWorld ms ss w → NoOther w → Fair ms.lengths w
fair_world ms ss w lens h n =
    record { from_awaited = takes_awaited ms ss w lens h n; master_once = at_most_once ms ss end_name.Master w h; slave_once = at_most_once ms ss end_name.Slave w h; outputs = outputs_are_due ms ss w lens h }

-- a run over proper events without another entry is fair
pub fair_run : (ms : MasterSettings) (ss : SlaveSettings) (events : List Event) → SameLengths ms ss → All (IsProperEvent ms ss) events → NoOther (world ms ss events) → Fair ms.lengths (world ms ss events)
fair_run ms ss events lens proper n = fair_world ms ss (world ms ss events) lens (world_is_world ms ss events proper) n

-- each run over proper events is fair before its first other entry
pub fair_before : (ms : MasterSettings) (ss : SlaveSettings) (events : List Event) → SameLengths ms ss → All (IsProperEvent ms ss) events → Fair ms.lengths (before_other (world ms ss events))
fair_before ms ss events h k = search (rules, fair_world, before_is_world, world_is_world, before_is_clean)
