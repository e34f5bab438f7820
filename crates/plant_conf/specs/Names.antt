-- The names of tables and keys, which a configuration has and a refusal writes.
use Rattle.std.specs.Prelude.{ℕ, List, [], ◌++◌, codes, decimal}
use Rattle.plant_conf.specs.declared.key.Key.{Key}
use Rattle.plant_conf.specs.declared.key.KeyTable.{KeyTable}
use Rattle.plant_conf.specs.declared.key.KeyTable.TheVariants as table
use Rattle.plant_conf.specs.declared.key.KeyName.{KeyName}
use Rattle.plant_conf.specs.declared.key.KeyName.TheVariants as name

-- the word under which a key stands in its table, or a whole table in the document
abbrev pub key_word : KeyName → KeyTable → List ℕ
key_word name.Whole table.Plant = codes "plant"
key_word name.Whole table.Connection = codes "connection"
key_word name.Whole table.Block = codes "block"
key_word name.Whole table.Drive = codes "drive"
key_word name.Whole table.Bound = codes "bound"
key_word name.App of = codes "app"
key_word name.Channel of = codes "channel"
key_word name.Seed of = codes "seed"
key_word name.Id of = codes "id"
key_word name.Address of = codes "address"
key_word name.Watchdog of = codes "watchdog"
key_word name.MasterLength of = codes "master_length"
key_word name.SlaveLength of = codes "slave_length"
key_word name.Rule of = codes "rule"
key_word name.SlaveAddress of = codes "slave_address"
key_word name.Hand of = codes "hand"
key_word name.Most of = codes "most"
key_word name.MasterNonce of = codes "master_nonce"
key_word name.SlaveNonce of = codes "slave_nonce"
key_word name.Kind of = codes "kind"
key_word name.Ins of = codes "ins"
key_word name.N of = codes "n"
key_word name.Out of = codes "out"
key_word name.From of = codes "from"
key_word name.Estop of = codes "estop"
key_word name.Drive of = codes "drive"

-- the number of a table, which `plant` has none of
abbrev pub number_text : KeyTable → ℕ → List ℕ
number_text table.Plant index = []
number_text of index = codes " " ++ decimal index

-- the key in its table, where a whole table has none
abbrev pub rest_text : KeyTable → ℕ → KeyName → List ℕ
rest_text of index name.Whole = []
rest_text of index key = number_text of index ++ codes " " ++ key_word key of

-- a key as a refusal writes it: `plant seed`, `connection 2 watchdog`, and a whole table by its name alone
abbrev pub key_text : Key → List ℕ
key_text key = key_word name.Whole key.table ++ rest_text key.table key.index key.name
