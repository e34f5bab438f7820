-- What lines of several pairs say.
use Rattle.schedule_file.proofs.Common.{All-append, All-cons, All-nil, End, EventWord, IsPair, Heading, IfOk, None, Option, PairsLineFits, Profile, Some, all_ascii_digits, common_steps, get_or_from_slice_get, is_ascii_digit, list_all, map-append, next_field, number_said, numbered, numbered_line, option_map, pair_event, pair_word_of, pairs_begun, said_to, said_to_number, slice_get, slice_get-map, slice_get_within, take_more, value_or}
use Rattle.std.proofs.Common.{◌≡◌, ℕ, zero, suc, ◌+◌, ◌<◌, List, [], ◌∷◌, ◌++◌, map, take, length, All, subst, refl, sym, ap, ◌∙◌, add-one, arith}
use Rattle.std.specs.Prelude.{◌⊎◌}
use Rattle.fsoe_base.specs.declared.command.End.TheVariants as side
use Rattle.schedule_file.specs.declared.pairs_header.PairsStage.{PairsStage}
use Rattle.schedule_file.specs.declared.pairs_header.PairsStage.TheVariants as stage
use Rattle.schedule_file.specs.declared.line_cause.LineCause.TheVariants as cause
use Rattle.schedule_file.proofs.Fitting.{event_fits}
use Rattle.schedule_file.proofs.Sound.{each, IfOk-map}

-- what is said of each pair is found by its number
pub numbered_map : {A B : Type 0} (f : A → B) (pairs : List A) (pair : ℕ) → numbered pair (map f pairs) ≡ option_map f (numbered pair pairs)
numbered_map f pairs zero = refl
numbered_map f pairs (suc before) = slice_get-map f pairs before

pub all_digits : (text : List ℕ) → list_all is_ascii_digit text ≡ all_ascii_digits text
all_digits text = grind arith

pub same_ends : {X : Type 0} (f g : End → X) → f side.Master ≡ g side.Master → f side.Slave ≡ g side.Slave → f ≡ g
same_ends f g h k = grind arith

-- the event of a line, where it is that of one pair, fits this
to_fits : (sends : List (End → ℕ)) (profiles : List (End → Profile)) (pair : ℕ) (s : Option (End → ℕ)) (p : Option (End → Profile)) (word : EventWord × End) (fields : List (List ℕ))
    → numbered pair sends ≡ s → numbered pair profiles ≡ p → IfOk (said_to pair s p word fields) (PairsLineFits sends profiles)
to_fits sends profiles pair (Some s) (Some p) word fields e d = IfOk-map (pair_event s p word fields) _ _ (rw (e, d) (event_fits s p word.0 word.1 fields))
to_fits sends profiles pair _ _ word fields e d = tt

number_fits : (sends : List (End → ℕ)) (profiles : List (End → Profile)) (number : Option ℕ) (word : EventWord × End) (fields : List (List ℕ)) → IfOk (said_to_number sends profiles number word fields) (PairsLineFits sends profiles)
number_fits sends profiles None word fields = tt
number_fits sends profiles (Some pair) word fields = to_fits sends profiles pair (numbered pair sends) (numbered pair profiles) word fields refl refl

pub numbered_fits : (sends : List (End → ℕ)) (profiles : List (End → Profile)) (digits : List ℕ) (fields : List (List ℕ)) → IfOk (numbered_line sends profiles digits fields) (PairsLineFits sends profiles)
numbered_fits sends profiles digits fields =
    each (next_field fields) _ _ (λ second. each (value_or cause.Word (pair_word_of second.0)) _ _ (λ word. number_fits sends profiles (number_said 65535 digits) word second.1))

-- the pairs before one, and this one
next_found : {X : Type 0} (pairs : List X) (before : ℕ) (x : X) → numbered (before + 1) pairs ≡ Some x → slice_get pairs before ≡ Some x
next_found pairs before x found = rw (add-one before) at found

take-next : {X : Type 0} (pairs : List X) (before : ℕ) (x : X) → slice_get pairs before ≡ Some x → take (before + 1) pairs ≡ take before pairs ++ x ∷ []
take-next pairs before x found = take_more pairs before x (slice_get_within pairs before x found) ∙ ap (λ y. take before pairs ++ y ∷ []) (get_or_from_slice_get pairs before x x found)

-- a list with the next pair
pub map-next : {A B X : Type 0} (f : A → X) (g : B → X) (kept new : List A) (pairs : List B) (before : ℕ) (a : A) (b : B) → map f kept ≡ map g (take before pairs) → new ≡ kept ++ a ∷ [] → numbered (before + 1) pairs ≡ Some b → f a ≡ g b
    → map f new ≡ map g (take (before + 1) pairs)
map-next f g kept new pairs before a b e is found same =
    ap (map f) is ∙ map-append f kept (a ∷ []) ∙ ap (λ xs. xs ++ f a ∷ []) e ∙ ap (λ x. map g (take before pairs) ++ x ∷ []) same
    ∙ sym (map-append g (take before pairs) (b ∷ [])) ∙ ap (map g) (sym (take-next pairs before b (next_found pairs before b found)))

-- a header that has pairs has those before the last one, and the last one
pub pairs_pushed : (pairs more : List Heading) (last : Heading) → All IsPair pairs → IsPair last → more ≡ pairs ++ last ∷ [] → All IsPair more
pairs_pushed pairs more last are is e = subst (All IsPair) (sym e) (All-append IsPair pairs (last ∷ []) are (All-cons IsPair last [] is (All-nil IsPair)))

pub room_before : (s : PairsStage) (before : List Heading) (last : Heading) (most : ℕ) → length (pairs_begun s before last) < most → (s ≡ stage.Pairs) ⊎ (s ≡ stage.Done) → length before + 1 < most
room_before s before last most h k = grind (arith, common_steps)
