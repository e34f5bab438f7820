use Rattle.std.proofs.Common.{◌≡◌, ◌∙◌, string_bytes, refl, sym}
use Rattle.fb_net.specs.declared.kind_of.KindOf.TheVariants as kind
use Rattle.plant_setup.proofs.Chosen.{chosen_named}
use Rattle.plant_setup.proofs.setup.choose_app.Goals as goal

pub returns-in-Some : goal.returns-in-Some
returns-in-Some g c =
    chosen_named (λ entry. string_bytes entry.name) c.args.wanted.now c.as_bytes.result.now c.args.left.now.items c.take_app.result c.in-Some.entry c.take_app.new.left.items _
    (λ entry. kind.Handed c.in-Some.entry.app ≡ kind.Handed entry.app) (sym c.eq.ensures ∙ c.if-eq.false) c.as_bytes.ensures.value c.in-Some.is c.take_app.ensures refl
