-- An input has one report of both ends: its header says all that they are set to, and no more than they may be set to.
use Rattle.duo_run.proofs.Common.{AreEntries, Ended, Entry, Event, Heading, IfSome, Input, IsMasterOf, IsSlaveOf, MasterSettings, None, Option, ReplayReports, SlaveSettings, Some, pair_ended_at, entry_lines, gives_master, gives_slave, input_of, last_lines, one_master, one_slave, run_stop, world}
use Rattle.std.proofs.Common.{◌≡◌, ℕ, List, [], ◌++◌, refl, ap, ◌∙◌, sym}
use Rattle.schedule_file.specs.declared.header_kind.HeaderKind.TheVariants as kind

pub one_entries : (heading : Option Heading) (events : List Event) (a b : List Entry) → AreEntries heading events a → AreEntries heading events b → a ≡ b
one_entries None events a b x y = x ∙ sym y
one_entries (Some h) events a b x y =
    x.3
    ∙ ap (λ (ms : MasterSettings). world ms x.1 events) (one_master h x.0 y.0 x.2.0 y.2.0)
    ∙ ap (λ (ss : SlaveSettings). world y.0 ss events) (one_slave h x.1 y.1 x.2.1 y.2.1)
    ∙ sym y.3

-- a whole header gives the settings of both ends, and so the entries
some_entries : (heading : Option Heading) (events : List Event) → IfSome heading (λ h. (ms : MasterSettings) × IsMasterOf h ms) → IfSome heading (λ h. (ss : SlaveSettings) × IsSlaveOf h ss) → (w : List Entry) × AreEntries heading events w
some_entries None events master slave = ([], refl)
some_entries (Some h) events master slave = (world master.0 slave.0 events, (master.0, slave.0, (master.1, slave.1), refl))

pub some_replay : (bytes : List ℕ) → (report : List ℕ) × (ended : Ended) × ReplayReports (input_of kind.Pair bytes) ended report
some_replay bytes =
    let input : Input = input_of kind.Pair bytes in
    let run = some_entries input.heading input.events (gives_master kind.Pair bytes) (gives_slave kind.Pair bytes) in
    let w : List Entry = run.0 in
    (entry_lines w ++ last_lines w (run_stop input w), pair_ended_at w (run_stop input w), (w, run.1, refl, refl))
