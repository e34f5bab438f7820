-- What the outputs of an end rest on: a data frame that its peer sent not long ago. Entries are listed newest first,
-- and no clock is common to both ends: an end counts its own ticks.
use Rattle.std.specs.Prelude.{ℕ, ◌≡◌, ◌≤◌, IsTrue, List, [], ◌∷◌, ◌++◌, if◌then◌else◌}
use Rattle.fsoe_base.specs.declared.command.End.{End}
use Rattle.param_load.specs.declared.entry.Entry.{Entry}
use Rattle.end_model.specs.Phases.{is_data_frame}
use Rattle.end_model.specs.Deed.{ticked}
use Rattle.exchange_model.specs.Ends.{same_end, peer, of_end}
use Rattle.exchange_model.specs.Items.{next_offered}
use Rattle.exchange_model.specs.Fair.{offers_bit}

-- the ticks of an end among these entries
abbrev pub ticks_of : End → List Entry → ℕ
ticks_of which [] = 0
ticks_of which (x ∷ w) = if same_end which x.end then ticked x.what (ticks_of which w) else ticks_of which w

-- an end's peer sent a data frame that offers this bit as 1, after some of these entries, and at most so many ticks of
-- the end came since
pub record WasOffered (which : End) (bit most : ℕ) (w : List Entry) : Type 0 where
  pub later : List Entry
  pub sending : Entry
  pub before : List Entry
  pub parts_are : w ≡ later ++ (sending ∷ before)
  pub by_peer : sending.end ≡ peer which
  pub sent_data : IsTrue (is_data_frame sending.sent)
  pub offered : IsTrue (offers_bit bit (next_offered (of_end (peer which) before)))
  pub lately : ticks_of which later ≤ most
