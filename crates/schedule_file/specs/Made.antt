-- The schedule of a number: its events, and what both ends are set to. All of it is this profile's own.
use Rattle.std.specs.Prelude.{ℕ, zero, suc, ◌-◌, ◌*◌, ◌/◌, ◌%◌, ◌^◌, ◌==◌, nat_le, nat_lt, refl, List, [], ◌∷◌, ◌++◌, Bool, ◌||◌, if◌then◌else◌}
use Rattle.std.proofs.lemmas.Bool.{ltb-true}
use Rattle.rand_core.specs.Pcg32Seed.{pcg32_seed}
use Rattle.rand_pcg.specs.Lcg.{Lcg, advance}
use Rattle.rand_pcg.specs.Pcg.{multiplier_64, pcg32, pcg32_of_seed}
use Rattle.fsoe_base.specs.declared.command.End.TheVariants as side
use Rattle.fsoe_base.specs.declared.lengths.Lengths.{Lengths}
use Rattle.param_load.specs.declared.app_rule.AppRule.TheVariants as app_rule
use Rattle.param_load.specs.declared.master_settings.MasterSettings.{MasterSettings}
use Rattle.param_load.specs.declared.profile.Profile.TheVariants as profile
use Rattle.param_load.specs.declared.slave_settings.SlaveSettings.{SlaveSettings}
use Rattle.schedule_file.specs.declared.event.Event.{Event}
use Rattle.schedule_file.specs.declared.event.Event.TheVariants as event

-- both ends send two safe data bytes
abbrev pub made_lengths : Lengths
made_lengths = record { master = 2; slave = 2; valid_master = refl; valid_slave = refl }

-- the master has connection 1, slave address 2, watchdog 100, no application parameters and session id 1
abbrev pub made_master : MasterSettings
made_master = record {
  lengths = made_lengths;
  conn = 1;
  address = 2;
  watchdog = 100;
  app = [];
  nonce = 1;
  profile = profile.One;
  some_conn = ltb-true 0 1 refl;
  some_watchdog = ltb-true 0 100 refl;
  allowed = refl;
}

-- the slave has address 2, at most 100 ticks without a frame in a handshake, watchdogs up to 1000, no application
-- parameters and session id 2
abbrev pub made_slave : SlaveSettings
made_slave = record {
  lengths = made_lengths;
  address = 2;
  hand = 100;
  most = 1000;
  rule = app_rule.Any 0;
  nonce = 2;
  profile = profile.One;
  some_hand = ltb-true 0 100 refl;
  some_most = ltb-true 0 1000 refl;
  acceptable = refl;
  allowed = refl;
}

-- the generator of a number, before its first word
abbrev pub generator_of : ℕ → Lcg
generator_of number = pcg32_of_seed (pcg32_seed 16 number)

-- the generator of a number, after so many words
abbrev pub generator_after : ℕ → ℕ → Lcg
generator_after number words = advance 64 multiplier_64 words (generator_of number)

-- the word of a number after so many words
abbrev pub word_after : ℕ → ℕ → ℕ
word_after number words = (pcg32 (generator_after number words)).0

-- byte i of a word, byte 0 being the lowest
abbrev pub byte_of : ℕ → ℕ → ℕ
byte_of i word = word / 2 ^ (8 * i) % 256

-- whether bit 8 of a word is 1
abbrev pub is_switch_on : ℕ → Bool
is_switch_on word = word / 2 ^ 8 % 2 == 1

-- the place in a frame of 7 bytes that a word alters
abbrev pub altered_place : ℕ → ℕ
altered_place word = word / 2 ^ 8 % 7

-- the mask of one bit by which a word alters it
abbrev pub mask_of : ℕ → ℕ
mask_of word = 2 ^ (word / 2 ^ 16 % 8)

-- the two bytes of a put, bytes 1 and 2 of a word
abbrev pub load_of : ℕ → List ℕ
load_of word = byte_of 1 word ∷ byte_of 2 word ∷ []

-- the event of a word, by its rest by 64
abbrev pub event_by : ℕ → ℕ → Event
event_by rest word =
    if nat_lt rest 22 then event.Deliver side.Slave 1
    else if nat_lt rest 44 then event.Deliver side.Master 1
    else if nat_lt rest 48 then event.Tick side.Master
    else if nat_lt rest 52 then event.Tick side.Slave
    else if rest == 52 then event.Deliver side.Slave 2
    else if rest == 53 then event.Deliver side.Master 2
    else if rest == 54 then event.Altered side.Slave 1 (altered_place word) (mask_of word)
    else if rest == 55 then event.Altered side.Master 1 (altered_place word) (mask_of word)
    else if nat_lt rest 58 then event.Put side.Master (load_of word)
    else if nat_lt rest 60 then event.Put side.Slave (load_of word)
    else if rest == 60 then event.Hold side.Master (is_switch_on word)
    else if rest == 61 then event.Hold side.Slave (is_switch_on word)
    else if rest == 62 then event.Nonce side.Master (word / 2 ^ 16)
    else event.Local (if is_switch_on word then side.Slave else side.Master)

-- the event of a word
abbrev pub event_of_word : ℕ → Event
event_of_word word = event_by (word % 64) word

-- the event at a place, from 1, where all is in turn: a tick of the master, and then the peer's last frame comes to the
-- slave and to the master in turn
abbrev pub event_in_turn : ℕ → Event
event_in_turn place =
    if place == 1 then event.Tick side.Master
    else if place % 2 == 0 then event.Deliver side.Slave 1
    else event.Deliver side.Master 1

-- the event of a number at a place, from 1: of each number the first four are in turn, and of number 0 all; each later
-- event is that of the generator's next word
abbrev pub event_at : ℕ → ℕ → Event
event_at number place = if nat_le place 4 || number == 0 then event_in_turn place else event_of_word (word_after number (place - 5))

-- the first so many events of a number, oldest first
abbrev pub made : ℕ → ℕ → List Event
made number zero = []
made number (suc count) = made number count ++ event_at number (suc count) ∷ []
