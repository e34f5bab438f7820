use Rattle.std.proofs.Common.{rules, subst, ap, ◌∙◌, ◌<◌, ◌^◌, List, ℕ}
use Rattle.std.specs.Option.{option_or}
use Rattle.black_channel.specs.Told.{ChannelTold, PullsParcel, parcel_of}
use Rattle.black_channel.specs.Calls.{holding}
use Rattle.black_channel.specs.Holds.{Chance}
use Rattle.black_channel.proofs.Pulling.{chance_pulls, form_left}
use Rattle.black_channel.proofs.hostile_channel.HostileChannelChannel.pull.Goals as goal

pub invariant_of-self : goal.invariant_of-self
invariant_of-self c =
    let noted = c.note.ensures ∙ ap (λ (f : List ℕ). option_or (parcel_of c.give-place.result f) c.self.inside.last) c.bytes.ensures.value in
    form_left _ _ _ _ _ _ c.give-place.new.words c.self.invariant c.give-place.ensures.holds noted

pub returns-clause-pulls : goal.returns-clause-pulls
returns-clause-pulls c =
    let gift = parcel_of c.give-place.result c.give-place.new.out in
    let noted = c.note.ensures ∙ ap (λ (f : List ℕ). option_or (parcel_of c.give-place.result f) c.self.inside.last) c.bytes.ensures.value in
    let fits : c.self.inside.empties < 2 ^ 64 = search rules in
    subst (λ (old : ChannelTold). PullsParcel gift old (holding (Chance c.give-place.new.ring c.note.new.self c.give-place.new.words) c.empties_after-self-inside.result)) c.self.view_is
    (chance_pulls _ _ _ _ _ _ _ _ _ _ fits c.empties_after-self-inside.ensures c.self.invariant c.give-place.ensures.gift c.give-place.ensures.holds noted)
