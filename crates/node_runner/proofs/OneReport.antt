-- An input has one report: its header says all that an end is set to, and no more than an end may be set to.
use Rattle.std.proofs.Common.{◌≡◌, ℕ, List, [], ◌++◌, refl, ap, length, rules}
use Rattle.std.specs.Prelude.{IfSome, Some, None}
use Rattle.std.specs.declared.option.Option.{Option}
use Rattle.std.proofs.lemmas.Option.{IfSome_then}
use Rattle.fsoe_base.specs.declared.command.End.{End}
use Rattle.fsoe_base.specs.declared.command.End.TheVariants as side
use Rattle.schedule_file.specs.Header.{Heading}
use Rattle.schedule_file.proofs.OneSetting.{one_master, one_slave}
use Rattle.schedule_file.proofs.Sound.{gives_master, gives_slave}
use Rattle.schedule_file.specs.Input.{Input, input_of}
use Rattle.schedule_file.specs.declared.header_kind.HeaderKind.TheVariants as kind
use Rattle.schedule_file.specs.declared.event.Event.{Event}
use Rattle.end_model.specs.Setup.{Setup, OfMaster, OfSlave}
use Rattle.file_run.specs.Report.{last_line}
use Rattle.node_runner.specs.Report.{AreLines, IsReport, IsSetTo, deed_lines, node_deeds}

one_setup : (end : End) (h : Heading) (s t : Setup) → IsSetTo end h s → IsSetTo end h t → s ≡ t
one_setup side.Master h (OfMaster a) (OfMaster b) x y = ap OfMaster (one_master h a b x y)
one_setup side.Master h (OfSlave a) t x y = absurd x
one_setup side.Slave h (OfSlave a) (OfSlave b) x y = ap OfSlave (one_slave h a b x y)
one_setup side.Slave h (OfMaster a) t x y = absurd x
one_setup _ h _ _ x y = absurd y

pub one_report : (end : End) (input : Input) (a b : List ℕ) → IsReport end input a → IsReport end input b → a ≡ b
one_report end input a b h k = search (rules, one_setup)

-- a whole header gives settings, and so the lines of the events
header_set : (end : End) (bytes : List ℕ) → IfSome (input_of (kind.Node end) bytes).heading (λ h. (s : Setup) × IsSetTo end h s)
header_set side.Master bytes = IfSome_then (input_of (kind.Node side.Master) bytes).heading (gives_master (kind.Node side.Master) bytes) (λ h ms. (OfMaster ms.0, ms.1))
header_set side.Slave bytes = IfSome_then (input_of (kind.Node side.Slave) bytes).heading (gives_slave (kind.Node side.Slave) bytes) (λ h ss. (OfSlave ss.0, ss.1))

some_lines : (end : End) (heading : Option Heading) (events : List Event) → IfSome heading (λ h. (s : Setup) × IsSetTo end h s) → (lines : List ℕ) × AreLines end heading events lines
some_lines end None events set = ([], refl)
some_lines end (Some h) events set = (deed_lines set.0 (node_deeds set.0 events), (set.0, set.1, refl))

pub some_report : (end : End) (bytes : List ℕ) → (report : List ℕ) × IsReport end (input_of (kind.Node end) bytes) report
some_report end bytes =
    let input : Input = input_of (kind.Node end) bytes in
    let lines = some_lines end input.heading input.events (header_set end bytes) in
    (lines.0 ++ last_line (length input.events) input.stop, (lines.0, lines.1, refl))
