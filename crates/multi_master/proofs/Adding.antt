-- One more connection, at which nothing happened yet.
use Rattle.multi_master.proofs.Common.{AddsNew, AddsOne, All-push, AreNew, IsWhere, MasterSettings, MasterView, MultiView, connection_outputs, due_in, map-append, new_connection, own_len, settings_in}
use Rattle.std.proofs.Common.{◌≡◌, ℕ, List, [], ◌∷◌, ◌++◌, length, map, false, refl, ap₂, ◌∙◌}
use Rattle.std.proofs.lemmas.Slice.Zip.{all_zipped_more}

-- what maps to the same is so with one more at the end of both
one_more : {A B : Type 0} (f : A → B) (xs : List A) (ys : List B) (x : A) (y : B) → map f xs ≡ ys → f x ≡ y → map f (xs ++ x ∷ []) ≡ ys ++ y ∷ []
one_more f xs ys x y h e = map-append f xs (x ∷ []) ∙ ap₂ (λ (zs : List _) (z : _). zs ++ z ∷ []) h e

pub are_new : (settings : List MasterSettings) (own : MasterSettings) (masters now : List MasterView) (inputs answers read room : List (List ℕ)) (changed : List ℕ)
    → AreNew settings masters inputs answers changed → AddsOne own masters inputs answers now read room → AreNew (settings ++ own ∷ []) now read room changed
are_new settings own masters now inputs answers read room changed made a = rw (a.masters_are, a.inputs_are, a.answers_are) (record {
  stand = rw map-append (all_zipped_more IsWhere (map new_connection settings) masters (new_connection own) a.last made.stand a.stands);
  settings_are = one_more settings_in masters settings a.last own made.settings_are a.settings_are;
  rest = All-push (λ m. due_in m ≡ false) masters a.last made.rest a.rests;
  inputs_are = rw (map-append new_connection settings (own ∷ []), map-append connection_outputs (map new_connection settings) (new_connection own ∷ []), made.inputs_are) refl;
  answers_fit = rw (map-append length answers (a.answer ∷ []), map-append own_len masters (a.last ∷ []), made.answers_fit, a.answer_fits) refl;
  unchanged = made.unchanged;
})

pub adds_new : (own : MasterSettings) (old new : MultiView) (answers room : List (List ℕ)) → AddsOne own old.masters old.inputs answers new.masters new.inputs room
    → new.app ≡ old.app → new.changed ≡ old.changed → AddsNew old own new
adds_new own old new answers room a app changed = record {
  stands = λ settings first was. record {
    masters = rw (a.masters_are, map-append new_connection settings (own ∷ [])) (all_zipped_more IsWhere (map new_connection settings) old.masters (new_connection own) a.last was.masters a.stands);
    app_is = app ∙ was.app_is;
    inputs_are = rw (map-append new_connection settings (own ∷ []), map-append connection_outputs (map new_connection settings) (new_connection own ∷ [])) (a.inputs_are ∙ ap₂ (λ (xs ys : List (List ℕ)). xs ++ ys) was.inputs_are refl);
    changed_are = changed ∙ was.changed_are;
    sound = tt;
  };
}
