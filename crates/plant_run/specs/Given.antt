-- What a plant is run with.
use Rattle.std.specs.Prelude.{List, map, string_bytes}
use Rattle.fb_net.specs.declared.kind_of.EntryOf.{EntryOf}
use Rattle.fb_net.specs.declared.kind_of.KindOf.{KindOf}
use Rattle.fb_net.specs.declared.kind_of.KindOf.TheVariants as kind
use Rattle.plant_conf.specs.ConfView.{ConfView}
use Rattle.multi_master.specs.Calls.{AppView}
use Rattle.plant_model.specs.Acts.{begins_with}
use Rattle.plant_run.specs.Reporting.{Terms}
use Rattle.plant_model.specs.Past.{Named}

-- an application that was handed in, under its name, by what is seen of one
abbrev pub named : {H : Type 0} → (KindOf H → AppView) → EntryOf H → Named
named view entry = record { name = string_bytes entry.name; app = view (kind.Handed entry.app) }

-- what a plant is run with that has this configuration, this application first, and these that its script may take
abbrev pub terms_of : {H : Type 0} → (KindOf H → AppView) → ConfView → KindOf H → List (EntryOf H) → Terms
terms_of view conf app spare = record {
  begins = begins_with conf (view app);
  bounds = conf.bounds;
  spare = map (named view) spare;
}
