-- What holds of each configuration that was read. It adds nothing to what a configuration means.
use Rattle.std.specs.Prelude.{List, None, ◌≤◌, length, ◌≡◌, map, ◌<◌}
use Rattle.std.specs.List.{All}
use Rattle.fb_net.specs.BlockSpec.{BlockSpec}
use Rattle.fb_net.specs.declared.spec.Drive.{Drive}
use Rattle.fb_net.specs.New.{IsNew}
use Rattle.plant_conf.specs.declared.conf.BoundSpec.{BoundSpec}
use Rattle.plant_conf.specs.declared.conf.LinkConf.{LinkConf}
use Rattle.param_load.specs.SameConn.{same_conn}
use Rattle.param_load.specs.declared.profile.Profile.TheVariants as profile

-- both ends of a connection have the same lengths
abbrev pub HasSameLengths : LinkConf → Type 0
HasSameLengths link = link.slave.lengths ≡ link.master.lengths

-- both ends of a connection are of profile One
pub record IsProfileOne (link : LinkConf) : Type 0 where
  pub master : link.master.profile ≡ profile.One
  pub slave : link.slave.profile ≡ profile.One

-- what holds of each configuration: it has 1 to 64 connections with different ids, each of profile One and with the
-- same lengths at both ends; and at most 256 blocks, which have had no cycle, 1,024 drives and 16 bounds
pub record IsConf (links : List LinkConf) (blocks : List BlockSpec) (drives : List Drive) (bounds : List BoundSpec) : Type 0 where
  pub some_links : 0 < length links
  pub few_links : length links ≤ 64
  pub few_blocks : length blocks ≤ 256
  pub few_drives : length drives ≤ 1024
  pub few_bounds : length bounds ≤ 16
  pub new_blocks : All IsNew blocks
  pub same_lengths : All HasSameLengths links
  pub profile_one : All IsProfileOne links
  pub different : same_conn 1 (map (λ link. link.master.conn) links) ≡ None
