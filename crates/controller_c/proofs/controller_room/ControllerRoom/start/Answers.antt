use Rattle.fb_net.specs.NetView.{new_net}
use Rattle.fb_net.specs.BlockSpec.{BlockSpec}
use Rattle.fb_net.specs.declared.spec.Drive.{Drive}
use Rattle.controller_c.specs.ControllerView.{ControllerView}
use Rattle.std.proofs.Common.{◌≡◌, List, [], true, false, ap₂}
use Rattle.controller_c.proofs.controller_room.ControllerRoom.start.Goals as goal

pub returns : goal.returns
returns c =
    let was = c.self.inside in
    let net : c.of_faultless.result ≡ new_net was.blocks.items was.drives.items = cc in
    let follows = rw net at c.change_app.ensures.follows in
    let idle : was.running ≡ false = cc in
    let left : List BlockSpec → List Drive → ControllerView =
    λ blocks drives. record { multi = c.change_app.new.self; blocks = blocks; drives = drives; running = true; dids = was.dids.items; frames = was.frames.items; counts = was.counts.items } in
    let no_blocks : c.replace-blocks.new.dest.items ≡ [] = cc in
    let no_drives : c.replace-drives.new.dest.items ≡ [] = cc in
    rw (← c.self.view_is) (record {
      net_is_new = rw (← c.self.view_is) at c.requires.faultless;
      follows = follows;
      stands = follows.stands _ _ _ (c.self.invariant.unbegun idle);
      settings = c.change_app.ensures.settings;
      rest = ap₂ left no_blocks no_drives;
    })
