-- What the programs hand in for plants, under the names by which a configuration picks it.
use Rattle.std.specs.Prelude.{ℕ, true, List, [], ◌∷◌, None, codes}
use Rattle.failsafe_io.specs.Bits.{is_same_bit}
use Rattle.fb_net.specs.Mirror.{mirror_images}
use Rattle.fb_net.specs.Outputs.{zero_images}
use Rattle.black_channel.specs.Calls.{holding}
use Rattle.black_channel.specs.Holds.{Chance, Ring, seed_generator}
use Rattle.black_channel.specs.Told.{ChannelTold}
use Rattle.multi_master.specs.Calls.{AppView}
use Rattle.plant_model.specs.Past.{Named}

-- it answers zeros, and each output bit is guarded by each input bit
abbrev pub zeros_app : AppView
zeros_app = record { rule = λ _ _ _ lens. record { outputs = zero_images lens; holds = [] }; holds = []; guards = λ _ _. true }

-- it answers each connection what came from it, and each output bit is guarded by the same input bit
abbrev pub mirror_app : AppView
mirror_app = record { rule = λ _ _ inputs lens. record { outputs = mirror_images inputs lens; holds = [] }; holds = []; guards = is_same_bit }

-- the applications, each under its name
abbrev pub apps_by_name : List Named
apps_by_name = record { name = codes "zeros"; app = zeros_app } ∷ record { name = codes "mirror"; app = mirror_app } ∷ []

-- a channel that keeps the order of frames: its name, and what it tells when it is made
abbrev pub new_perfect : List ℕ × ChannelTold
new_perfect = (codes "perfect", holding (Ring []) 0)

-- a channel of chance
abbrev pub new_hostile : List ℕ × ChannelTold
new_hostile = (codes "hostile", holding (Chance [] None (seed_generator 0)) 0)
