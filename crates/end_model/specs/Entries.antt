-- The entries that tell the deeds of an end to the outside. They are this profile's own.
use Rattle.std.specs.Prelude.{List, ◌∷◌}
use Rattle.param_load.specs.declared.entry.Entry.{Entry}
use Rattle.end_model.specs.Setup.{Setup, end_of}
use Rattle.end_model.specs.Deed.{Deed}
use Rattle.end_model.specs.Readiness.{state_of, told_terms}
use Rattle.end_model.specs.Outputs.{outputs}

-- what is told of a deed: the state, the outputs and the terms are those after it
abbrev pub entry_of : Setup → List Deed → Deed → Entry
entry_of s e x = record {
  end = end_of s;
  what = x.what;
  did = x.did;
  sent = x.sent;
  state = state_of s (x ∷ e);
  outputs = outputs s (x ∷ e);
  terms = told_terms s (x ∷ e);
}
