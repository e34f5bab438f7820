-- What stays as it was while masters change.
use Rattle.multi_master.proofs.Common.{All-nil, IsMulti, IsNumber, MasterSettings, MasterView, common_steps, due_in, map-set, own_len, set-set, settings_in}
use Rattle.std.proofs.Common.{◌≡◌, ℕ, List, [], ◌++◌, map, length, take, drop, All, Bool, false, slice_get, slice_set, Some, sym, ap, ◌∙◌, arith}
use Rattle.std.proofs.Math.ListN.{get_or, get_or-map}
use Rattle.std.proofs.lemmas.List.Elements.{All-set}
use Rattle.std.proofs.lemmas.Simd.{map-map}
use Rattle.multi_master.proofs.Places.{map_set, same_length}

-- masters with the same settings have the same lengths
pub same_lens : (ms ns : List MasterView) → map settings_in ms ≡ map settings_in ns → map own_len ms ≡ map own_len ns
same_lens ms ns h =
    let len = λ (s : MasterSettings). s.lengths.master in
    sym (map-map len settings_in ms) ∙ ap (map len) h ∙ map-map len settings_in ns

-- masters of which no frame is due, by whether it is
pub all_rest : (ms ns : List MasterView) → map due_in ms ≡ map due_in ns → All (λ m. due_in m ≡ false) ns → All (λ m. due_in m ≡ false) ms
all_rest ms ns e h = λ k m within.
    let long = same_length due_in due_in ms ns e in
    sym (get_or-map due_in ms k m) ∙ ap (λ (bs : List Bool). get_or bs k (due_in m)) e ∙ get_or-map due_in ns k m ∙ h k m (omega arith)

-- a whole slice that is written back
pub written_back : {A : Type 0} (xs ys : List A) (n : ℕ) → n ≡ length ys → length xs ≡ length ys → take n (xs ++ drop (length xs) ys) ≡ xs
written_back xs ys n h e = grind (arith, common_steps)

-- another master at a place, with the same settings, of which no frame is due
pub multi_set : (masters : List MasterView) (inputs answers : List (List ℕ)) (changed told : List ℕ) (k : ℕ) (m last : MasterView) → IsMulti masters inputs answers changed → slice_get masters k ≡ Some m
    → settings_in last ≡ settings_in m → due_in last ≡ false → told ≡ [] → IsMulti (slice_set masters k last) inputs answers told
multi_set masters inputs answers changed told k m last i at s d none =
    let settings : map settings_in (slice_set masters k last) ≡ map settings_in masters = map_set settings_in masters k m last at s in
    let len : length (slice_set masters k last) ≡ length masters = same_length settings_in settings_in (slice_set masters k last) masters settings in
    record {
      rest = All-set (λ m. due_in m ≡ false) masters k last d i.rest;
      inputs_fit = i.inputs_fit ∙ sym len;
      answers_fit = i.answers_fit ∙ sym (same_lens (slice_set masters k last) masters settings);
      most = rw len i.most;
      numbers = rw none (record { few = omega arith; each = All-nil (IsNumber (length (slice_set masters k last))) });
    }

-- a frame was due at one place alone, and isn't then
pub one_rest : (masters put : List MasterView) (k : ℕ) (accepted last : MasterView) → map due_in put ≡ map due_in (slice_set masters k accepted) → due_in last ≡ false
    → All (λ m. due_in m ≡ false) masters → All (λ m. due_in m ≡ false) (slice_set put k last)
one_rest masters put k accepted last e is h =
    let same : map due_in (slice_set put k last) ≡ map due_in (slice_set masters k last) =
    map-set due_in put k last ∙ ap (λ (bs : List Bool). slice_set bs k (due_in last)) e
    ∙ sym (map-set due_in (slice_set masters k accepted) k last) ∙ ap (map due_in) (set-set masters k accepted last)
    in
    all_rest (slice_set put k last) (slice_set masters k last) same (All-set (λ m. due_in m ≡ false) masters k last is h)
