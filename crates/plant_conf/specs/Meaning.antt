-- What a configuration means, or its first fault: that there are too many tables, then those of the keys, table by
-- table, and then that two connections have one id.
use Rattle.std.specs.Prelude.{◌≡◌, ℕ, suc, nat_lt, Bool, ◌||◌, ◌==◌, length, List, [], ◌∷◌, map, Option, Some, None, Result, Ok, Err, if◌then◌else◌, IsUtf8}
use Rattle.std.specs.Result.{result_unwrap_or}
use Rattle.toml.specs.Data.{Members}
use Rattle.toml.specs.Parse.{parse_document}
use Rattle.plant_conf.specs.declared.fault.ConfFault.{ConfFault}
use Rattle.plant_conf.specs.declared.fault.ConfFault.TheVariants as conf_fault
use Rattle.plant_conf.specs.declared.key.KeyTable.{KeyTable}
use Rattle.plant_conf.specs.declared.key.KeyTable.TheVariants as table
use Rattle.plant_conf.specs.ConfView.{ConfValues}
use Rattle.param_load.specs.SameConn.{same_conn}
use Rattle.plant_conf.specs.Values.{LinkValues}
use Rattle.schedule_file.specs.Fields.{◌>>=◌, value_or}
use Rattle.plant_conf.specs.Forms.{tables}
use Rattle.plant_conf.specs.Keys.{whole_table, optional, plant_keys, connection, block, drive, bound}

-- what is read of each, numbered from k on
abbrev pub each : {A B : Type 0} → (ℕ → A → Result B ConfFault) → ℕ → List A → Result (List B) ConfFault
each read k [] = Ok []
each read k (x ∷ xs) = do
  y ← read k x
  ys ← each read (suc k) xs
  Ok (y ∷ ys)

-- the tables of a name; there may be none
unfoldable pub tables_of : KeyTable → Members → Result (List Members) ConfFault
tables_of of document = optional [] tables (whole_table of) document

-- how many tables of a name there are; what is no array of tables counts as none
unfoldable pub count_of : KeyTable → Members → ℕ
count_of of document = length (result_unwrap_or (tables_of of document) [])

-- more tables than a plant may have
unfoldable pub has_too_many : Members → Bool
has_too_many document =
    nat_lt 64 (count_of table.Connection document) || nat_lt 256 (count_of table.Block document)
    || nat_lt 1024 (count_of table.Drive document)
    || nat_lt 16 (count_of table.Bound document)

abbrev pub few_tables : Members → Result (Unit {0}) ConfFault
few_tables document = if has_too_many document then Err conf_fault.TooMany else Ok tt

-- at least one connection: an empty array counts as missing
unfoldable pub some_links : List LinkValues → Result (Unit {0}) ConfFault
some_links links = if length links == 0 then Err (conf_fault.Missing (whole_table table.Connection)) else Ok tt

-- what two connections with one id are
abbrev pub same_ids : Option (ℕ × ℕ) → Result (Unit {0}) ConfFault
same_ids None = Ok tt
same_ids (Some p) = Err (conf_fault.SameConn p.0 p.1)

-- no two connections have one id
unfoldable pub apart : List LinkValues → Result (Unit {0}) ConfFault
apart links = same_ids (same_conn 1 (map (λ link. link.keys.id) links))

-- what the tables of a name say, in order
unfoldable pub all_of : {A : Type 0} → KeyTable → (ℕ → Members → Result A ConfFault) → Members → Result (List A) ConfFault
all_of of says document = do
  ts ← tables_of of document
  each says 1 ts

-- what a document means
unfoldable pub document_meaning : Members → Result ConfValues ConfFault
document_meaning document = do
  few ← few_tables document
  keys ← plant_keys document
  links ← all_of table.Connection connection document
  some ← some_links links
  blocks ← all_of table.Block block document
  drives ← all_of table.Drive drive document
  bounds ← all_of table.Bound bound document
  different ← apart links
  Ok (record {
    links = links;
    blocks = blocks;
    drives = drives;
    bounds = bounds;
    app = keys.app;
    channel = keys.channel;
    seed = keys.seed;
  })

-- what a text means: `Syntax` where it is no TOML document
abbrev pub text_meaning : List ℕ → Result ConfValues ConfFault
text_meaning text = do
  document ← value_or conf_fault.Syntax (parse_document text)
  document_meaning document

-- what bytes mean: `Syntax` where they are no UTF-8
pub record Means (bytes : List ℕ) (said : Result ConfValues ConfFault) : Type 0 where
  pub text : IsUtf8 bytes → said ≡ text_meaning bytes
  pub no_text : ¬ IsUtf8 bytes → said ≡ Err conf_fault.Syntax
