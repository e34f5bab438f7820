-- The events of an input are proper at ends that are set to its header, so that the laws of the pair hold of its run.
use Rattle.duo_run.proofs.Common.{AreSetTo, Event, Fits, Heading, IfSome, Input, IsMasterOf, IsProperEvent, IsSlaveOf, MasterSettings, None, Option, RunsFairly, SameLengths, ServesIfHonest, ServesIfSteady, SlaveSettings, Some, WithSettings, events_fit, fair_before, gives_master, gives_slave, heading_profile, honest_serves, input_of, own_length, steady_serves}
use Rattle.std.proofs.Common.{ℕ, List, All, sym, ◌∙◌, arith}
use Rattle.schedule_file.specs.declared.header_kind.HeaderKind.TheVariants as kind

-- ends that are set to a header have the same lengths
pub same_lengths : (h : Heading) (ms : MasterSettings) (ss : SlaveSettings) → AreSetTo h ms ss → SameLengths ms ss
same_lengths h ms ss set = record { master = set.0.0 ∙ sym set.1.0; slave = set.0.1 ∙ sym set.1.1 }

all_proper : (h : Heading) (ms : MasterSettings) (ss : SlaveSettings) (events : List Event) → AreSetTo h ms ss → All (Fits (own_length h) (heading_profile h)) events → All (IsProperEvent ms ss) events
all_proper h ms ss events k l = grind arith

-- what holds of all settings that a header says, where its events fit it, holds of those that it gives
of_header : (heading : Option Heading) (events : List Event) (holds : MasterSettings → SlaveSettings → Type 0) → IfSome heading (λ h. All (Fits (own_length h) (heading_profile h)) events)
    → IfSome heading (λ h. (ms : MasterSettings) × IsMasterOf h ms) → IfSome heading (λ h. (ss : SlaveSettings) × IsSlaveOf h ss) → ((ms : MasterSettings) (ss : SlaveSettings) → SameLengths ms ss → All (IsProperEvent ms ss) events → holds ms ss)
    → IfSome heading (λ h. WithSettings h holds)
of_header None events holds fits master slave each = tt
of_header (Some h) events holds fits master slave each =
    let set : AreSetTo h master.0 slave.0 = (master.1, slave.1) in
    (master.0, slave.0, set, each master.0 slave.0 (same_lengths h master.0 slave.0 set) (all_proper h master.0 slave.0 events set fits))

pub told_fairly : (told : Option (List ℕ)) → IfSome told (λ bytes. RunsFairly (input_of kind.Pair bytes))
told_fairly None = tt
told_fairly (Some bytes) =
    let input : Input = input_of kind.Pair bytes in
    of_header input.heading input.events _ (events_fit bytes) (gives_master kind.Pair bytes) (gives_slave kind.Pair bytes) (λ ms ss same proper. fair_before ms ss input.events same proper)

pub told_serve : (told : Option (List ℕ)) → IfSome told (λ bytes. ServesIfHonest (input_of kind.Pair bytes))
told_serve None = tt
told_serve (Some bytes) =
    let input : Input = input_of kind.Pair bytes in
    of_header input.heading input.events _ (events_fit bytes) (gives_master kind.Pair bytes) (gives_slave kind.Pair bytes) (λ ms ss same proper matching honest. honest_serves ms ss input.events matching proper honest)

pub told_steadily : (told : Option (List ℕ)) → IfSome told (λ bytes. ServesIfSteady (input_of kind.Pair bytes))
told_steadily None = tt
told_steadily (Some bytes) =
    let input : Input = input_of kind.Pair bytes in
    of_header input.heading input.events _ (events_fit bytes) (gives_master kind.Pair bytes) (gives_slave kind.Pair bytes) (λ ms ss same proper matching steady. steady_serves ms ss input.events matching proper steady)
