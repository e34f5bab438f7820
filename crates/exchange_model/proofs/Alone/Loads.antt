-- A data frame that an end sends carries what its end put, or zeros where the end was held.
use Rattle.exchange_model.proofs.Common.{AfterConnection, AfterSession, Answers, Command, Deed, Did, End, Entry, IsRun, IsWorld, Item, MasterFirstData, MasterGoesOn, MasterMoreData, MasterNextPhase, MasterSettings, MasterStarts, Move, OfConnection, OfMaster, OfParameter, OfSession, Reaction, Setup, SlaveSettings, Taking, answer_is, begun, command_in, deeds, frame_if, frame_of, frame_with, held, is_data, is_data_if, is_held, item_of, items, last_put, of_end, offer, offered_of, offered_put, sends, setup_of}
use Rattle.std.proofs.Common.{◌≡◌, ℕ, List, [], ◌∷◌, replicate, true, false, Option, Some, None, refl, sym, ap, subst, ◌∙◌, arith, rules}
use Rattle.fsoe_base.specs.declared.command.Command.TheVariants as command
use Rattle.param_load.specs.declared.entry.Move.TheVariants as move
use Rattle.exchange_model.proofs.Worlds.Projection.{deeds_are_run, entry_reacted}
use Rattle.exchange_model.proofs.Alone.Framed.{IsFrame, command_framed, IsData, slave_sends, piece_sent, data_sent}

-- an item of data is of the frame that its load makes
pub record Carries (l : ℕ) (i : Item) : Type 0 where
  pub carries : (c : Command) → command_in i.bytes ≡ Some c → is_data c ≡ true → frame_if l i.offered ≡ Some (record { command = c; load = (frame_of l i.bytes).load })

-- what was put last, zeros where nothing was
abbrev pub offer_by : ℕ → Option (List ℕ) → List ℕ
offer_by l None = replicate l 0
offer_by l (Some bytes) = bytes

-- what was put last by an end's entries is its offer
pub put-is : (s : Setup) (which : End) (w : List Entry) → offer s (deeds which w) ≡ offer_by (sends s) (last_put (of_end which w))
put-is s which [] = refl
put-is s which (x ∷ w) = grind (arith, put-is s which w)

pub held-is : (which : End) (w : List Entry) → held (deeds which w) ≡ is_held (of_end which w)
held-is which [] = refl
held-is which (x ∷ w) = grind (arith, held-is which w)

put-frame : (l : ℕ) (put : Option (List ℕ)) → frame_with l (offered_put put) ≡ record { command = command.ProcessData; load = offer_by l put }
put-frame l put = grind arith

same-command : (f : List ℕ) (c c' : Command) → command_in f ≡ Some c → command_in f ≡ Some c' → c ≡ c'
same-command f c c' h k = let e : Some c ≡ Some c' = sym h ∙ k in cc

-- the frame of a deed, if it has one: of data or not
data Sending (s : Setup) (e : List Deed) (f : List ℕ) : Type 0 where
  Plain : is_data_if (command_in f) ≡ false → Sending s e f
  OfData : IsData s e f → Sending s e f

plain : (s : Setup) (e : List Deed) (l : ℕ) (c : Command) (load f : List ℕ) → is_data c ≡ false → IsFrame l c load f → Sending s e f
plain s e l c load f h g = Plain (ap is_data_if (command_framed l c load f g) ∙ h)

-- the deed itself changes no offer and no hold
before-it : (s : Setup) (e : List Deed) (bytes f : List ℕ) (d : Did) → IsData s (begun (move.Deliver bytes) d ∷ e) f → IsData s e f
before-it s e bytes f d h = grind arith

master-sending : (ms : MasterSettings) (e : List Deed) (bytes load : List ℕ) (c : Command) (f : List ℕ) → IsRun (OfMaster ms) e → Taking e bytes load (OfMaster ms) c f → Sending (OfMaster ms) e f
master-sending ms e bytes load c f r (MasterStarts _ _ now none frame is_zero made sent after) = plain _ e _ command.Session _ f refl (piece_sent ms e bytes load command.Reset command.Session 1 f made)
master-sending ms e bytes load c f r (MasterGoesOn _ _ _ OfSession now part x) = plain _ e _ command.Session _ f refl (piece_sent ms e bytes load command.Session command.Session _ f x.is_made)
master-sending ms e bytes load c f r (MasterGoesOn _ _ _ OfConnection now part x) = plain _ e _ command.Connection _ f refl (piece_sent ms e bytes load command.Connection command.Connection _ f x.is_made)
master-sending ms e bytes load c f r (MasterGoesOn _ _ _ OfParameter now part x) = plain _ e _ command.Parameter _ f refl (piece_sent ms e bytes load command.Parameter command.Parameter _ f x.is_made)
master-sending ms e bytes load c f r (MasterNextPhase _ _ _ _ AfterSession now whole x) = plain _ e _ command.Connection _ f refl (piece_sent ms e bytes load command.Session command.Connection 1 f x.is_made)
master-sending ms e bytes load c f r (MasterNextPhase _ _ _ _ AfterConnection now whole x) = plain _ e _ command.Parameter _ f refl (piece_sent ms e bytes load command.Connection command.Parameter 1 f x.is_made)
master-sending ms e bytes load c f r (MasterFirstData _ _ now whole x) = OfData (before-it (OfMaster ms) e bytes f _ (data_sent ms e bytes load command.Parameter f r x.is_made))
master-sending ms e bytes load c f r (MasterMoreData _ _ _ is now x) = OfData (before-it (OfMaster ms) e bytes f _ (data_sent ms e bytes load c f r x.is_made))

answering : (s : Setup) (e : List Deed) (bytes load : List ℕ) (c : Command) (f : List ℕ) → IsRun s e → Taking e bytes load s c f → Sending s e f
answering s e bytes load c f h k = search (rules, master-sending, answer_is, slave_sends)

sending : (s : Setup) (e : List Deed) (m : Move) (d : Did) (f : List ℕ) → IsRun s e → Reaction s e m d f → Sending s e f
sending s e m d f r (Answers bytes load c answer taking) = answering s e bytes load c answer r taking
sending s e m d f r _ = Plain refl

carries-by : (s : Setup) (which : End) (w : List Entry) (f : List ℕ) → Sending s (deeds which w) f → (c : Command) → command_in f ≡ Some c → is_data c ≡ true
    → frame_if (sends s) (offered_of f (of_end which w)) ≡ Some (record { command = c; load = (frame_of (sends s) f).load })
carries-by s which w f h c k l = search (rules, same-command, command_framed, sends, held-is, put-is, put-frame)

-- the item of an entry carries what its end put
pub item-carries : (ms : MasterSettings) (ss : SlaveSettings) (which : End) (x : Entry) (w : List Entry) → x.end ≡ which → IsWorld ms ss (x ∷ w) → Carries (sends (setup_of ms ss which)) (item_of x w (items w))
item-carries ms ss which x w h so_far =
    let s : Setup = setup_of ms ss x.end in
    let e : List Deed = deeds x.end w in
    subst (λ (it : End). Carries (sends (setup_of ms ss it)) (item_of x w (items w))) h
    (record { carries = carries-by s x.end w x.sent (sending s e x.what x.did x.sent (deeds_are_run ms ss x.end w so_far.1) (entry_reacted ms ss x w so_far)) })
