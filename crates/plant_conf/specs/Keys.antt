-- The keys of each table, one line for each, in the order in which they are read: whether it has to be there or what it
-- stands for where it isn't, and what its value may be.
use Rattle.std.specs.Prelude.{ℕ, ◌-◌, ◌^◌, codes, length, List, [], Option, Result, Ok, option_map, unwrap_or}
use Rattle.toml.specs.Data.{Data, Members, get_member}
use Rattle.fb_lib.specs.Kept.{block_of}
use Rattle.fb_net.specs.BlockSpec.{BlockSpec}
use Rattle.fb_net.specs.declared.spec.Drive.{Drive}
use Rattle.param_load.specs.declared.app_rule.AppRule.TheVariants as app_rule
use Rattle.param_load.specs.declared.profile.Profile.TheVariants as profile
use Rattle.plant_conf.specs.declared.conf.BoundSpec.{BoundSpec}
use Rattle.plant_conf.specs.declared.fault.ConfFault.{ConfFault}
use Rattle.plant_conf.specs.declared.fault.ConfFault.TheVariants as conf_fault
use Rattle.plant_conf.specs.declared.key.Key.{Key}
use Rattle.plant_conf.specs.declared.key.KeyName.{KeyName}
use Rattle.plant_conf.specs.declared.key.KeyName.TheVariants as name
use Rattle.plant_conf.specs.declared.key.KeyTable.{KeyTable}
use Rattle.plant_conf.specs.declared.key.KeyTable.TheVariants as table
use Rattle.plant_conf.specs.declared.tables.LinkKeys.{LinkKeys}
use Rattle.plant_conf.specs.declared.tables.SlaveKeys.{SlaveKeys}
use Rattle.plant_conf.specs.Names.{key_word}
use Rattle.plant_conf.specs.Values.{LinkValues}
use Rattle.schedule_file.specs.Fields.{◌>>=◌, value_or}
use Rattle.plant_conf.specs.Forms.{Form, whole_number, data_length, text, hex_bytes, rule_form, block_kind, wires, bit_after, one_wire, one_table}

-- the value at a key
abbrev pub value_at : Key → Members → Option Data
value_at key t = get_member (key_word key.name key.table) t

-- a key that has to be there, else `Missing`
unfoldable pub required : {A : Type 0} → Form A → Key → Members → Result A ConfFault
required form key t = do
  d ← value_or (conf_fault.Missing key) (value_at key t)
  form key d

-- a key that may be missing, and then stands for this value
unfoldable pub optional : {A : Type 0} → A → Form A → Key → Members → Result A ConfFault
optional default form key t = unwrap_or (option_map (form key) (value_at key t)) (Ok default)

abbrev pub key_of : KeyTable → ℕ → KeyName → Key
key_of of k key = record { table = of; index = k; name = key }

-- a table as a whole
abbrev pub whole_table : KeyTable → Key
whole_table of = key_of of 0 name.Whole

-- what the table `plant` says, which has to be there
pub record PlantKeys : Type 0 where
  pub app : List ℕ
  pub channel : List ℕ
  pub seed : ℕ

unfoldable pub plant_keys : Members → Result PlantKeys ConfFault
plant_keys document = do
  t ← required one_table (whole_table table.Plant) document
  app ← required text (key_of table.Plant 0 name.App) t
  channel ← required text (key_of table.Plant 0 name.Channel) t
  seed ← optional 0 (whole_number 0 (2 ^ 63 - 1)) (key_of table.Plant 0 name.Seed) t
  Ok (record { app = app; channel = channel; seed = seed })

-- what connection k has to say, and its application parameters
unfoldable pub link_keys : ℕ → Members → Result LinkKeys ConfFault
link_keys k t = do
  id ← required (whole_number 1 65535) (key_of table.Connection k name.Id) t
  address ← required (whole_number 0 65535) (key_of table.Connection k name.Address) t
  watchdog ← required (whole_number 1 65535) (key_of table.Connection k name.Watchdog) t
  master_length ← required data_length (key_of table.Connection k name.MasterLength) t
  slave_length ← required data_length (key_of table.Connection k name.SlaveLength) t
  app ← optional [] (hex_bytes 512) (key_of table.Connection k name.App) t
  Ok (record { id = id; address = address; watchdog = watchdog; lengths = (master_length, slave_length); app = app })

-- what connection k may say of its slave
unfoldable pub slave_keys : ℕ → LinkKeys → Members → Result SlaveKeys ConfFault
slave_keys k link t = do
  rule ← optional (app_rule.Any (length link.app)) (rule_form link.app) (key_of table.Connection k name.Rule) t
  address ← optional link.address (whole_number 0 65535) (key_of table.Connection k name.SlaveAddress) t
  hand ← optional link.watchdog (whole_number 1 65535) (key_of table.Connection k name.Hand) t
  most ← optional 65535 (whole_number 1 65535) (key_of table.Connection k name.Most) t
  Ok (record { rule = rule; address = address; hand = hand; most = most })

-- connection k, in profile One
unfoldable pub connection : ℕ → Members → Result LinkValues ConfFault
connection k t = do
  link ← link_keys k t
  slave ← slave_keys k link t
  master_nonce ← optional 1 (whole_number 0 65535) (key_of table.Connection k name.MasterNonce) t
  slave_nonce ← optional 2 (whole_number 0 65535) (key_of table.Connection k name.SlaveNonce) t
  Ok (record {
    keys = link;
    slave = slave;
    nonces = (master_nonce, slave_nonce);
    slave_lengths = link.lengths;
    profiles = (profile.One, profile.One);
  })

-- block k, before its first cycle
unfoldable pub block : ℕ → Members → Result BlockSpec ConfFault
block k t = do
  kind ← required block_kind (key_of table.Block k name.Kind) t
  ins ← required wires (key_of table.Block k name.Ins) t
  n ← optional 0 (whole_number 0 65535) (key_of table.Block k name.N) t
  Ok (record { block = block_of kind n []; ins = ins })

-- drive k
unfoldable pub drive : ℕ → Members → Result Drive ConfFault
drive k t = do
  out ← required (bit_after (codes "o")) (key_of table.Drive k name.Out) t
  from ← required one_wire (key_of table.Drive k name.From) t
  Ok (record { out = out; from = from })

-- bound k
unfoldable pub bound : ℕ → Members → Result BoundSpec ConfFault
bound k t = do
  estop ← required (bit_after (codes "i")) (key_of table.Bound k name.Estop) t
  drive ← required (bit_after (codes "o")) (key_of table.Bound k name.Drive) t
  Ok (record { estop = estop; drive = drive })
