-- The line that says why a configuration can't be run.
use Rattle.std.specs.Prelude.{ℕ, List, ◌++◌, codes, decimal}
use Rattle.failsafe_io.specs.declared.bit.Bit.{Bit}
use Rattle.fb_net.specs.declared.fault.NetFault.{NetFault}
use Rattle.fb_net.specs.declared.fault.NetFault.TheVariants as net_fault
use Rattle.plant_conf.specs.Names.{key_text}
use Rattle.plant_conf.specs.declared.fault.ConfFault.{ConfFault}
use Rattle.plant_conf.specs.declared.fault.ConfFault.TheVariants as conf_fault
use Rattle.plant_setup.specs.declared.fault.SetupFault.{SetupFault}
use Rattle.plant_setup.specs.declared.fault.SetupFault.TheVariants as setup

-- a fault of this name with a number
abbrev pub numbered_fault : List ℕ → ℕ → List ℕ
numbered_fault name n = name ++ codes " " ++ decimal n

-- a fault of this name with a bit: its connection and its number
abbrev pub at_bit : List ℕ → Bit → List ℕ
at_bit name bit = numbered_fault name bit.link ++ codes "." ++ decimal bit.bit

-- what is written of a text that is no configuration; want of memory isn't written, as it ends a run with a status of
-- its own
abbrev pub conf_text : ConfFault → List ℕ
conf_text conf_fault.Syntax = codes "Syntax"
conf_text conf_fault.TooMany = codes "TooMany"
conf_text (conf_fault.Missing key) = codes "Missing " ++ key_text key
conf_text (conf_fault.Kind key) = codes "Kind " ++ key_text key
conf_text (conf_fault.Range key) = codes "Range " ++ key_text key
conf_text (conf_fault.SameConn a b) = numbered_fault (numbered_fault (codes "SameConn") a) b
conf_text conf_fault.Memory = codes "Memory"

-- what is written of a net that can't be made
abbrev pub net_text : NetFault → List ℕ
net_text (net_fault.Arity block) = numbered_fault (codes "Arity") block
net_text (net_fault.Later block) = numbered_fault (codes "Later") block
net_text (net_fault.NoInput bit) = at_bit (codes "NoInput") bit
net_text (net_fault.NoOutput bit) = at_bit (codes "NoOutput") bit
net_text (net_fault.Twice bit) = at_bit (codes "Twice") bit
net_text net_fault.Memory = codes "Memory"

abbrev pub setup_text : SetupFault → List ℕ
setup_text setup.TooLong = codes "TooLong"
setup_text (setup.Conf why) = conf_text why
setup_text (setup.Net why) = net_text why
setup_text setup.NoApp = codes "NoApp"
setup_text setup.NoChannel = codes "NoChannel"

-- the line of a fault
abbrev pub config_line : SetupFault → List ℕ
config_line why = codes "config " ++ setup_text why ++ codes "\n"
