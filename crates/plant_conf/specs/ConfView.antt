-- What contracts see of a configuration.
use Rattle.std.specs.Prelude.{ℕ, List, map}
use Rattle.fb_net.specs.BlockSpec.{BlockSpec}
use Rattle.fb_net.specs.declared.spec.Drive.{Drive}
use Rattle.plant_conf.specs.declared.conf.LinkConf.{LinkConf}
use Rattle.plant_conf.specs.declared.conf.BoundSpec.{BoundSpec}
use Rattle.plant_conf.specs.Values.{LinkValues, link_values}

-- a configuration whose connections are told so
pub record ConfOf (Link : Type 0) : Type 0 where
  pub links : List Link
  pub blocks : List BlockSpec
  pub drives : List Drive
  pub bounds : List BoundSpec
  pub app : List ℕ
  pub channel : List ℕ
  pub seed : ℕ

abbrev pub ConfView : Type 0
ConfView = ConfOf LinkConf

-- a configuration with the settings of the connections as plain values
abbrev pub ConfValues : Type 0
ConfValues = ConfOf LinkValues

abbrev pub conf_values : ConfView → ConfValues
conf_values conf = record {
  links = map link_values conf.links;
  blocks = conf.blocks;
  drives = conf.drives;
  bounds = conf.bounds;
  app = conf.app;
  channel = conf.channel;
  seed = conf.seed;
}
