-- Which events the ends of a pair may have, and which the node at one end; and which numbers a header may give.
use Rattle.std.specs.Prelude.{◌≡◌, ℕ, ◌<◌, ◌≤◌, length, IsTrue}
use Rattle.fsoe_base.specs.declared.command.End.{End}
use Rattle.fsoe_base.specs.declared.lengths.Lengths.{Lengths}
use Rattle.fsoe_base.specs.Lengths.{most_data, most_frame, is_length}
use Rattle.fsoe_base.specs.LengthsOf.{length_of}
use Rattle.fsoe_base.specs.declared.command.End.TheVariants as side
use Rattle.param_load.specs.declared.profile.Profile.{Profile}
use Rattle.param_load.specs.declared.profile.Profiles.{Profiles}
use Rattle.param_load.specs.Profile.{allows_id}
use Rattle.param_load.specs.declared.profile.Profile.TheVariants as profile
use Rattle.schedule_file.specs.EventLine.{delivered_len}
use Rattle.schedule_file.specs.Limits.{max_back, max_app}
use Rattle.schedule_file.specs.declared.event.Event.{Event}
use Rattle.schedule_file.specs.declared.event.Event.TheVariants as event
use Rattle.schedule_file.specs.declared.event.ScheduleLine.{ScheduleLine}
use Rattle.schedule_file.specs.declared.event.ScheduleLine.TheVariants as line
use Rattle.schedule_file.specs.declared.header_line.HeaderLine.TheVariants as says
use Rattle.schedule_file.specs.declared.header_line.RuleLine.{RuleLine}
use Rattle.schedule_file.specs.declared.header_line.RuleLine.TheVariants as rule
use Rattle.schedule_file.specs.declared.header_line.HeaderLine.{HeaderLine}
use Rattle.schedule_file.specs.Made.{made_lengths}

-- the profile of an end
abbrev pub profile_of : Profiles → End → Profile
profile_of profiles side.Master = profiles.master
profile_of profiles side.Slave = profiles.slave

-- an event that a line can say: a reference is from 1 to 64, a frame has from 1 to 255 bytes, a put from 1 to 126
abbrev pub IsWritable : Event → Type 0
IsWritable (event.Deliver to back) = (0 < back) × (back ≤ max_back)
IsWritable (event.Altered to back pos mask) = (0 < back) × (back ≤ max_back)
IsWritable (event.Raw to frame) = (0 < length frame) × (length frame ≤ most_frame)
IsWritable (event.Put at load) = (0 < length load) × (length load ≤ most_data)
IsWritable other = Unit {0}

-- an event that ends may have which send so many safe data bytes and have these profiles: an altered place is one of
-- that direction's frame, a put has exactly as many bytes as the end sends, and the end's profile allows the session id
abbrev pub Suits : (End → ℕ) → (End → Profile) → Event → Type 0
Suits sends profiles (event.Altered to back pos mask) = pos < delivered_len sends to
Suits sends profiles (event.Put at load) = length load ≡ sends at
Suits sends profiles (event.Nonce at id) = IsTrue (allows_id (profiles at) id)
Suits sends profiles other = Unit {0}

-- an event fits ends where a line can say it and they may have it
abbrev pub Fits : (End → ℕ) → (End → Profile) → Event → Type 0
Fits sends profiles event = IsWritable event × Suits sends profiles event

-- an event that the node at this end may have, which sends so many safe data bytes: it is at this end, a frame has from
-- 1 to 255 bytes, a put has exactly as many bytes as the end sends, and the profile allows the session id
abbrev pub FitsEnd : End → ℕ → Profile → Event → Type 0
FitsEnd end count profile (event.Raw to frame) = (to ≡ end) × (0 < length frame) × (length frame ≤ most_frame)
FitsEnd end count profile (event.Tick at) = at ≡ end
FitsEnd end count profile (event.Put at load) = (at ≡ end) × (length load ≡ count)
FitsEnd end count profile (event.Hold at failsafe) = at ≡ end
FitsEnd end count profile (event.Nonce at id) = (at ≡ end) × IsTrue (allows_id profile id)
FitsEnd end count profile (event.Local at) = at ≡ end
FitsEnd end count profile (event.Deliver to back) = ⊥
FitsEnd end count profile (event.Altered to back pos mask) = ⊥

-- the event of a line, where it has one, is such
abbrev pub OnStep : (Event → Type 0) → ScheduleLine → Type 0
OnStep P (line.Step event) = P event
OnStep P line.End = Unit {0}

-- the event of a line, where it has one, fits both ends
abbrev pub PairLineFits : (End → ℕ) → (End → Profile) → ScheduleLine → Type 0
PairLineFits sends profiles said = OnStep (Fits sends profiles) said

-- the event of a line, where it has one, fits the node
abbrev pub LineFits : End → Lengths → Profile → ScheduleLine → Type 0
LineFits end lengths profile said = OnStep (FitsEnd end (length_of lengths end) profile) said

-- a rule for any bytes is for at most 512
abbrev pub RuleInRange : RuleLine → Type 0
RuleInRange (rule.Any n) = n ≤ max_app
RuleInRange other = Unit {0}

-- the numbers of a line are in their ranges, and a list has at least one byte or pair
abbrev pub InRange : HeaderLine → Type 0
InRange (says.Lengths line) = IsTrue (is_length line.master) × IsTrue (is_length line.slave)
InRange (says.Master line) = (0 < line.conn) × (0 < line.watchdog)
InRange (says.App bytes) = 0 < length bytes
InRange (says.Slave line) = (0 < line.hand) × (0 < line.most)
InRange (says.Rule line) = RuleInRange line
InRange (says.Bytes bytes) = 0 < length bytes
InRange (says.Range pairs) = 2 ≤ length pairs
InRange other = Unit {0}

-- both ends have profile One
abbrev pub made_profiles : Profiles
made_profiles = record { master = profile.One; slave = profile.One }

-- an event fits ends with these settings
abbrev pub FitsMade : Event → Type 0
FitsMade event = Fits (length_of made_lengths) (profile_of made_profiles) event
