-- Which steps the connections of a plant may have, and what then holds of their pairs, whatever the parcels are that
-- were pulled. Steps are listed oldest first.
use Rattle.std.specs.Prelude.{◌≡◌, ℕ, List, length, IfSome, IsSomeAnd}
use Rattle.plant_conf.specs.declared.conf.LinkConf.{LinkConf}
use Rattle.exchange_model.specs.Fair.{Fair}
use Rattle.exchange_model.specs.Other.{before_other}
use Rattle.plant_model.specs.declared.journal.JournalStep.{JournalStep}
use Rattle.plant_model.specs.declared.journal.JournalStep.TheVariants as journal_step
use Rattle.plant_model.specs.Pair.{pair, link_at}
use Rattle.plant_model.specs.Fits.{EventFits}

-- a step that these connections may have: its event of the script fits; the connection of an offer exists, and the
-- offer has as many bytes as its master sends. A parcel may be any
abbrev pub StepFits : List LinkConf → JournalStep → Type 0
StepFits links (journal_step.Script event) = EventFits links event
StepFits links journal_step.App = Unit {0}
StepFits links (journal_step.Offer link load) = IsSomeAnd (link_at links link) (λ conf. length load ≡ conf.master.lengths.master)
StepFits links (journal_step.Pulled parcel) = Unit {0}

-- the entries of each pair before its first other entry, all if there is none, are fair
abbrev pub PairsAreFair : List LinkConf → List JournalStep → Type 0
PairsAreFair links journal = (k : ℕ) → IfSome (link_at links k) (λ link. Fair link.master.lengths (before_other (pair link k journal)))
