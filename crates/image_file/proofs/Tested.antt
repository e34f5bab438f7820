-- The slots of a header fit its images, line by line.
use Rattle.image_file.proofs.Common.{AllZip, AllZip-long, Fit, Heading, IfOk, ImageHeading, IsApart, IsMadeOf, IsTested, IsTrue, LineCause, None, Ok, Option, Result, Slot, SlotHeader, Some, bytes_eq, common_steps, either, fields_of, fields_taken, first_fault, first_outside, first_pair, first_with, fits_images, heading_after, heading_is_whole, heading_spans, heading_with, image_heading_is_whole, is_end_line, is_placed, kind_after, length-append, lie_inside, list_any, map_ok, no_field, node_heading_after, not, one_hex_field, overlap, pair_or, places_from, plan_of, profile_given, profile_taken, slot_spans, slots_of, tested_by, title_taken}
use Rattle.schedule_file.specs.Fields.{◌>>=◌}
use Rattle.std.proofs.Common.{◌≡◌, ◌≤◌, ◌<◌, ◌⊎◌, inl, inr, ℕ, suc, List, [], ◌∷◌, ◌++◌, Bool, true, false, length, map, refl, sym, ap, subst, ◌∙◌, arith, rules}
use Rattle.std.specs.Prelude.{◌&&◌, if◌then◌else◌}
use Rattle.std.proofs.lemmas.Bool.{or_parts}
use Rattle.std.proofs.lemmas.Result.{IfOk-weaker}
use Rattle.schedule_file.specs.HeaderKind.{title_of}
use Rattle.schedule_file.specs.HeaderLine.{header_line, lengths_line, master_line, profile_line, slave_line, rule_line, range_line}
use Rattle.schedule_file.specs.HeaderPart.{master_with_app, slave_with_bytes, slave_with_pairs}
use Rattle.schedule_file.specs.Place.{admitted, header_word_of, is_last, is_start, may_stand}
use Rattle.schedule_file.specs.declared.header_kind.HeaderKind.{HeaderKind}
use Rattle.schedule_file.specs.declared.header_line.HeaderLine.{HeaderLine}
use Rattle.schedule_file.specs.declared.header_line.HeaderLine.TheVariants as says
use Rattle.schedule_file.specs.declared.line_cause.LineCause.TheVariants as cause
use Rattle.schedule_file.specs.declared.place.Place.{Place}
use Rattle.schedule_file.specs.declared.place.Place.TheVariants as place
use Rattle.schedule_file.specs.declared.place.Word.{Word}
use Rattle.schedule_file.specs.declared.place.Word.TheVariants as word
use Rattle.image_file.specs.declared.header.Stage.TheVariants as stage
use Rattle.image_file.specs.declared.spans.Spans.{Spans}
use Rattle.image_file.proofs.Faults.{tested}
use Rattle.image_file.proofs.Zips.{zip_same}
use Rattle.schedule_file.proofs.Sound.{IfOk-every, IfOk-map, known, ok_if}

-- the tests of a slot
and-parts : (a b : Bool) → (a && not b) ≡ true → (a ≡ true) × (b ≡ false)
and-parts a b h = grind arith

-- one slot more that was tested
apart-push : (s : Spans) (ss : List SlotHeader) (t : SlotHeader) → IsApart s (map heading_spans ss) → overlap s (heading_spans t) ≡ false → IsApart s (map heading_spans (ss ++ t ∷ []))
apart-push s [] t a h = (h, tt)
apart-push s (u ∷ ss) t a h = (a.0, apart-push s ss t a.1 h)

fit-push : (si so : ℕ) (ss : List SlotHeader) (t : SlotHeader) → Fit si so (map heading_spans ss) → lie_inside si so (heading_spans t) ≡ true → list_any (λ s. overlap (heading_spans s) (heading_spans t)) ss ≡ false
    → Fit si so (map heading_spans (ss ++ t ∷ []))
fit-push si so [] t f inside none = (inside, tt, tt)
fit-push si so (s ∷ ss) t f inside none =
    let h = or_parts (overlap (heading_spans s) (heading_spans t)) (list_any (λ s. overlap (heading_spans s) (heading_spans t)) ss) none in
    (f.0, apart-push (heading_spans s) ss t f.1 h.0, fit-push si so ss t f.2 inside h.1)

-- and those before it
apart-front : (s : Spans) (ss : List SlotHeader) (t : SlotHeader) → IsApart s (map heading_spans (ss ++ t ∷ [])) → IsApart s (map heading_spans ss)
apart-front s [] t a = tt
apart-front s (u ∷ ss) t a = (a.0, apart-front s ss t a.1)

fit-front : (si so : ℕ) (ss : List SlotHeader) (t : SlotHeader) → Fit si so (map heading_spans (ss ++ t ∷ [])) → Fit si so (map heading_spans ss)
fit-front si so [] t f = tt
fit-front si so (s ∷ ss) t f = (f.0, apart-front (heading_spans s) ss t f.1, fit-front si so ss t f.2)

same-spans : (ss : List SlotHeader) (t u : SlotHeader) → heading_spans t ≡ heading_spans u → map heading_spans (ss ++ t ∷ []) ≡ map heading_spans (ss ++ u ∷ [])
same-spans ss t u h = grind (arith, common_steps)

-- the last slot counts, or doesn't
fit-before : (si so : ℕ) (b : Bool) (ss : List SlotHeader) (t : SlotHeader) → Fit si so (map heading_spans (if b then ss ++ t ∷ [] else ss)) → Fit si so (map heading_spans ss)
fit-before si so b ss t h = search (rules, fit-front)

fit-either : (si so : ℕ) (b : Bool) (ss : List SlotHeader) (t : SlotHeader) → Fit si so (map heading_spans (ss ++ t ∷ [])) → Fit si so (map heading_spans (if b then ss ++ t ∷ [] else ss))
fit-either si so b ss t h = search (rules, fit-front)

fit-placed : (si so : ℕ) (b : Bool) (ss : List SlotHeader) (t : SlotHeader) → b ≡ true → Fit si so (map heading_spans (if b then ss ++ t ∷ [] else ss)) → Fit si so (map heading_spans (ss ++ t ∷ []))
fit-placed si so b ss t h k = grind arith

-- what a line makes of an end: it places it; or it isn't placed yet; or it was, and stays there
abbrev Goes : Heading → Heading → Type 0
Goes h h' = (is_end_line h'.place ≡ true) ⊎ ((is_placed h'.place ≡ false) ⊎ ((is_placed h.place ≡ true) × (h'.lengths ≡ h.lengths) × (h'.kind ≡ h.kind)))

-- a line with this word comes after the one that places the end
abbrev is-later : Word → Bool
is-later word.Lengths = false
is-later word.Master = false
is-later word.Slave = false
is-later other = true

placed-by : (kind : HeaderKind) (p : Place) (w : Word) → is-later w ≡ true → IsTrue (may_stand kind p w) → is_placed p ≡ true
placed-by kind p w h k = grind arith

each-taken : {A : Type 0} (r : Result A LineCause) (f : A → HeaderLine) (given : Result (Unit {0}) LineCause) (h : Heading) (P : Heading → Type 0) → ((x : A) → IfOk (heading_with h (f x)) P)
    → IfOk (map_ok f r >>= (λ line. given >>= (λ it. heading_with h line))) P
each-taken (Ok x) f (Ok it) h P all = all x
each-taken _ f _ h P all = tt

profile-goes : (p : Place) (h : Heading) (n : ℕ) → is_placed h.place ≡ true → Goes h (profile_taken p h n)
profile-goes p h n k = grind arith

word-goes : (h : Heading) (w : Word) (fields : List (List ℕ)) → IsTrue (may_stand h.kind h.place w) → IfOk (header_line w fields >>= (λ line. profile_given h w >>= (λ it. heading_with h line))) (Goes h)
word-goes h word.Lengths fields stands = each-taken (lengths_line fields) says.Lengths (profile_given h word.Lengths) h (Goes h) (λ line. inr (inl refl))
word-goes h word.Master fields stands = each-taken (master_line fields) says.Master (profile_given h word.Master) h (Goes h) (λ line. inl refl)
word-goes h word.Slave fields stands = each-taken (slave_line fields) says.Slave (profile_given h word.Slave) h (Goes h) (λ line. inl refl)
word-goes h word.Profile fields stands = each-taken (profile_line fields) says.Profile (profile_given h word.Profile) h (Goes h) (λ n. profile-goes h.place h n (placed-by h.kind h.place word.Profile refl stands))
word-goes h word.App fields stands =
    each-taken (one_hex_field 256 fields) says.App (profile_given h word.App) h (Goes h)
    (λ bytes. IfOk-map (master_with_app h.master bytes) _ (Goes h) (IfOk-every (master_with_app h.master bytes) _ (λ master. inr (inr (placed-by h.kind h.place word.App refl stands, refl, refl)))))
word-goes h word.Rule fields stands =
    each-taken (rule_line fields) says.Rule (profile_given h word.Rule) h (Goes h) (λ line. inr (inr (placed-by h.kind h.place word.Rule refl stands, refl, refl)))
word-goes h word.Bytes fields stands =
    each-taken (one_hex_field 256 fields) says.Bytes (profile_given h word.Bytes) h (Goes h)
    (λ bytes. IfOk-map (slave_with_bytes h.slave bytes) _ (Goes h) (IfOk-every (slave_with_bytes h.slave bytes) _ (λ slave. inr (inr (placed-by h.kind h.place word.Bytes refl stands, refl, refl)))))
word-goes h word.Range fields stands =
    each-taken (range_line fields) says.Range (profile_given h word.Range) h (Goes h)
    (λ pairs. IfOk-map (slave_with_pairs h.slave pairs) _ (Goes h) (IfOk-every (slave_with_pairs h.slave pairs) _ (λ slave. inr (inr (placed-by h.kind h.place word.Range refl stands, refl, refl)))))
word-goes h word.Go fields stands =
    each-taken (no_field fields) (λ none. says.Go) (profile_given h word.Go) h (Goes h) (λ none. inr (inr (placed-by h.kind h.place word.Go refl stands, refl, refl)))

stands-at : (kind : HeaderKind) (p : Place) (o : Option Word) → IfOk (admitted kind p o) (λ w. IsTrue (may_stand kind p w))
stands-at kind p None = tt
stands-at kind p (Some w) = ok_if (may_stand kind p w) w cause.Header _ (λ stands. stands)

fields-goes : (h : Heading) (fields : List (List ℕ)) → IfOk (fields_taken h fields) (Goes h)
fields-goes h [] = tt
fields-goes h (first ∷ fields) = known (admitted h.kind h.place (header_word_of first)) _ _ (Goes h) (stands-at h.kind h.place (header_word_of first)) (λ w stands. word-goes h w fields stands)

after-goes : (h : Heading) (text : List ℕ) → IfOk (heading_after h text) (Goes h)
after-goes h text =
    either (is_start h.place) (title_taken h text) (fields_taken h (fields_of text)) (Goes h) (ok_if (bytes_eq text (title_of h.kind)) (record h { place = place.Title }) cause.Header (Goes h) (λ e. inr (inl refl)))
    (fields-goes h (fields_of text))

kind-stays : (p : Place) (fields : List (List ℕ)) (kind : HeaderKind) → is_placed p ≡ true → kind_after p fields kind ≡ kind
kind-stays p fields kind h = grind arith

goes-on : (h : Heading) (kind : HeaderKind) (h' : Heading) → (is_placed h.place ≡ true → kind ≡ h.kind) → Goes (record h { kind = kind }) h' → Goes h h'
goes-on h kind h' k l = grind arith

node-goes : (h : Heading) (text : List ℕ) → IfOk (node_heading_after h text) (Goes h)
node-goes h text =
    let kind : HeaderKind = kind_after h.place (fields_of text) h.kind in
    IfOk-weaker (node_heading_after h text) (Goes (record h { kind = kind })) (Goes h) (λ h' goes. goes-on h kind h' (λ placed. kind-stays h.place (fields_of text) h.kind placed) goes) (after-goes (record h { kind = kind }) text)

spans-stay : (s : SlotHeader) (own : Heading) → own.lengths ≡ s.own.lengths → own.kind ≡ s.own.kind → heading_spans (record s { own = own }) ≡ heading_spans s
spans-stay s own h k = grind arith

last-placed : (p : Place) → is_last p ≡ true → is_placed p ≡ true
last-placed p h = grind arith

-- a line of the last slot
fits-on : (si so : ℕ) (ss : List SlotHeader) (last : SlotHeader) (own : Heading) → Fit si so (map heading_spans (if is_placed last.own.place then ss ++ last ∷ [] else ss)) → Goes last.own own
    → (is_end_line own.place ≡ true → (lie_inside si so (heading_spans (record last { own = own })) && not (list_any (λ t. overlap (heading_spans t) (heading_spans (record last { own = own }))) ss)) ≡ true)
    → Fit si so (map heading_spans (if is_placed own.place then ss ++ (record last { own = own }) ∷ [] else ss))
fits-on si so ss last own f (inl end) fits =
    let t : SlotHeader = record last { own = own } in
    let h = and-parts (lie_inside si so (heading_spans t)) (list_any (λ s. overlap (heading_spans s) (heading_spans t)) ss) (fits end) in
    fit-either si so (is_placed own.place) ss t (fit-push si so ss t (fit-before si so (is_placed last.own.place) ss last f) h.0 h.1)
fits-on si so ss last own f (inr (inl not_yet)) fits =
    subst (λ b. Fit si so (map heading_spans (if b then ss ++ (record last { own = own }) ∷ [] else ss))) (sym not_yet) (fit-before si so (is_placed last.own.place) ss last f)
fits-on si so ss last own f (inr (inr stays)) fits =
    let t : SlotHeader = record last { own = own } in
    fit-either si so (is_placed own.place) ss t
    (subst (Fit si so) (same-spans ss last t (sym (spans-stay last own stays.1 stays.2))) (fit-placed si so (is_placed last.own.place) ss last stays.0 f))

tested-at : (si so : ℕ) (done : Bool) (ss : List SlotHeader) (t : SlotHeader) → (done ≡ true → is_placed t.own.place ≡ true) → Fit si so (map heading_spans (if is_placed t.own.place then ss ++ t ∷ [] else ss))
    → Fit si so (map heading_spans (tested_by (if done then stage.Done else stage.Slots) ss t))
tested-at si so done ss t h k = grind arith

pub own_tested : (h : ImageHeading) (text : List ℕ) (own : Heading) (done : Bool) → h.stage ≡ stage.Slots → IsTested h → node_heading_after h.last.own text ≡ Ok own → done ≡ heading_is_whole own
    → (is_end_line own.place ≡ true → fits_images h (record h.last { own = own }) ≡ true) → IsTested (record h { stage = if done then stage.Done else stage.Slots; last = record h.last { own = own } })
own_tested h text own done slots tested after whole fits =
    let old : Fit h.size_in h.size_out (map heading_spans (tested_by stage.Slots h.before h.last)) = subst (λ s. Fit h.size_in h.size_out (map heading_spans (tested_by s h.before h.last))) slots tested in
    tested-at h.size_in h.size_out done h.before (record h.last { own = own }) (λ d. last-placed own.place (sym whole ∙ d))
    (fits-on h.size_in h.size_out h.before h.last own old (subst (λ r. IfOk r (Goes h.last.own)) after (node-goes h.last.own text)) fits)

made-spans : (s : SlotHeader) (slot : Slot) → IsMadeOf s slot → slot_spans slot ≡ heading_spans s
made-spans s slot h = grind arith

-- so no test finds a fault
none-outside : (si so n : ℕ) (slots : List Slot) → Fit si so (map slot_spans slots) → first_outside si so (places_from n slots) ≡ None
none-outside si so n [] f = refl
none-outside si so n (slot ∷ slots) f = ap (λ b. if b then first_outside si so (places_from (suc n) slots) else Some n) f.0 ∙ none-outside si so (suc n) slots f.2

none-with : (s : Spans) (n : ℕ) (slots : List Slot) → IsApart s (map slot_spans slots) → first_with s (places_from n slots) ≡ None
none-with s n [] a = refl
none-with s n (slot ∷ slots) a = ap (λ b. if b then Some n else first_with s (places_from (suc n) slots)) a.0 ∙ none-with s (suc n) slots a.1

none-pair : (si so n : ℕ) (slots : List Slot) → Fit si so (map slot_spans slots) → first_pair (places_from n slots) ≡ None
none-pair si so n [] f = refl
none-pair si so n (slot ∷ slots) f = ap (λ (o : Option ℕ). pair_or n o (first_pair (places_from (suc n) slots))) (none-with (slot_spans slot) (suc n) slots f.1) ∙ none-pair si so (suc n) slots f.2

none-at : (si so : ℕ) (ss : List SlotHeader) (slots : List Slot) → Fit si so (map heading_spans ss) → AllZip IsMadeOf ss slots → length slots ≤ 64 → first_fault (plan_of si so slots) ≡ None
none-at si so ss slots f z few =
    let fit : Fit si so (map slot_spans slots) = rw (zip_same IsMadeOf heading_spans slot_spans ss slots made-spans z) f in
    sym (tested si so slots None few (sym (none-outside si so 1 slots fit))) ∙ none-pair si so 1 slots fit

-- the slots of a whole header are those before the last one, and the last one
pub whole_slots : (h : ImageHeading) → IsTrue (image_heading_is_whole h) → slots_of h ≡ h.before ++ h.last ∷ []
whole_slots h whole = grind arith

few : (h : ImageHeading) (slots : List Slot) → AllZip IsMadeOf (slots_of h) slots → length h.before < 64 → IsTrue (image_heading_is_whole h) → length slots ≤ 64
few h slots z n whole = omega (arith, AllZip-long IsMadeOf (slots_of h) slots z, ap length (whole_slots h whole), length-append h.before (h.last ∷ []))

-- they have no fault
pub whole_fit : (h : ImageHeading) (slots : List Slot) → IsTested h → AllZip IsMadeOf (slots_of h) slots → length h.before < 64 → IsTrue (image_heading_is_whole h) → first_fault (plan_of h.size_in h.size_out slots) ≡ None
whole_fit h slots k l m n = search (rules, none-at, few)
