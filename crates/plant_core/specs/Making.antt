-- What a plant is made of.
use Rattle.std.specs.Prelude.{◌≡◌, ℕ, suc, ◌==◌, ◌||◌, Bool, false, List, [], ◌∷◌, length, map}
use Rattle.fsoe_base.specs.declared.did.Did.{Did}
use Rattle.param_load.specs.declared.master_settings.MasterSettings.{MasterSettings}
use Rattle.plant_conf.specs.declared.conf.LinkConf.{LinkConf}
use Rattle.plant_conf.specs.declared.conf.BoundSpec.{BoundSpec}
use Rattle.plant_core.specs.Link.{LinkView, new_link}

-- whether one of these bounds names the connection of this number, for its input bit or for its output bit
abbrev pub is_named : List BoundSpec → ℕ → Bool
is_named [] k = false
is_named (bound ∷ bounds) k = bound.estop.link == k || bound.drive.link == k || is_named bounds k

-- what is kept of these connections beside their masters before anything happened, where the first has number k: ages
-- are told of those that a bound names
abbrev pub links_made : ℕ → List BoundSpec → List LinkConf → List LinkView
links_made k bounds [] = []
links_made k bounds (link ∷ links) = new_link (is_named bounds k) link ∷ links_made (suc k) bounds links

-- so these are made of connections: what their masters are set to, what is kept beside these, and places for what they
-- do in a tick
pub record AreMade (bounds : List BoundSpec) (confs : List LinkConf) (settings : List MasterSettings) (links : List LinkView) (dids : List Did) (outs : List (List ℕ)) : Type 0 where
  pub settings_are : settings ≡ map (λ link. link.master) confs
  pub links_are : links ≡ links_made 1 bounds confs
  pub dids_fit : length dids ≡ length confs
  pub outs_fit : length outs ≡ length confs
