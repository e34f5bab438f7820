-- In a world without another entry outputs with a bit as 1 have an age: they are from an item.
use Rattle.reaction_bound.proofs.Common.{Command, End, Entry, IsTakenFrom, IsWorld, Item, MasterSettings, NoOther, NoneOther, SameLengths, SlaveSettings, TakesAwaited, Terms, Took, age_of, awaited, awaited_by, in_time, is_data, is_other, item_number, items, none_other, of_end, outputs_after, outputs_at, outputs_by, outputs_due, received_len, same, same_end, source_after, source_at, source_by, source_in, ticked, ticks_since}
use Rattle.std.proofs.Common.{◌≡◌, ℕ, List, [], ◌∷◌, replicate, Bool, true, false, Option, Some, None, is_some, IsSome, if◌then◌else◌, refl, subst, arith, rules}
use Rattle.fsoe_base.specs.Image.{bit_of}
use Rattle.exchange_model.proofs.Fairness.Headline.{takes_awaited}
use Rattle.exchange_model.proofs.Offering.Shown.{none_of_zeros}
use Rattle.reaction_bound.proofs.Bounded.{data-of}

-- data are taken from an item that was awaited
item-awaited : (l : ℕ) (t : Took) (told : Option Terms) (o : Option Item) → IsTakenFrom l (Some t) told o → is_some (item_number o) ≡ true
item-awaited l t told o h = grind arith

-- the load of an entry that took a frame
aged-by : (l n bit : ℕ) (terms : Option Terms) (other soon : Bool) (before : Option ℕ) (t : Took) (c : Command) → other ≡ false → t.command ≡ c → (is_data t.command ≡ true → is_some before ≡ true) → in_time n terms ≡ soon
    → bit_of (outputs_by (replicate l 0) n terms c t.load) bit ≡ true → is_some (source_by n terms other before c) ≡ true
aged-by l n bit terms other soon before t c h k m o p = search (rules, none_of_zeros)

aged-at : (l n bit : ℕ) (terms : Option Terms) (other : Bool) (before earlier : Option ℕ) (took : Option Took) (outputs : List ℕ) → other ≡ false
    → ((t : Took) → took ≡ Some t → is_data t.command ≡ true → is_some before ≡ true) → (bit_of outputs bit ≡ true → is_some earlier ≡ true)
    → bit_of (outputs_at (replicate l 0) n terms took outputs) bit ≡ true → is_some (source_at n terms other before took earlier) ≡ true
aged-at l n bit terms other before earlier None outputs o h k one = k one
aged-at l n bit terms other before earlier (Some t) outputs o h k one = aged-by l n bit terms other (in_time n terms) before t t.command o refl (h t refl) refl one

-- an entry of the end, and one of either end
aged-own : (which : End) (l n bit : ℕ) (x : Entry) (w : List Entry) (reset : Bool) → is_other (items w) x ≡ false → ((t : Took) → x.did.took ≡ Some t → is_data t.command ≡ true → is_some (awaited_by which w) ≡ true)
    → (bit_of (outputs_after (replicate l 0) (ticked x.what n) (of_end which w)) bit ≡ true → is_some (source_after which (ticked x.what n) w) ≡ true)
    → bit_of (if reset then replicate l 0 else outputs_at (replicate l 0) n x.terms x.did.took (outputs_after (replicate l 0) (ticked x.what n) (of_end which w))) bit ≡ true
    → is_some (if reset then None else source_at n x.terms (is_other (items w) x) (awaited_by which w) x.did.took (source_after which (ticked x.what n) w)) ≡ true
aged-own which l n bit x w reset h k m o = search (rules, none_of_zeros, aged-at)

aged-head : (which : End) (l n bit : ℕ) (x : Entry) (w : List Entry) (mine : Bool) → is_other (items w) x ≡ false
    → (mine ≡ true → (t : Took) → x.did.took ≡ Some t → is_data t.command ≡ true → is_some (awaited_by which w) ≡ true)
    → ((m : ℕ) → bit_of (outputs_after (replicate l 0) m (of_end which w)) bit ≡ true → is_some (source_after which m w) ≡ true)
    → bit_of (outputs_after (replicate l 0) n (if mine then x ∷ of_end which w else of_end which w)) bit ≡ true
    → is_some (let earlier : Option ℕ = source_after which (if mine then ticked x.what n else n) w in if mine then source_in n x (is_other (items w) x) (awaited_by which w) earlier else earlier) ≡ true
aged-head which l n bit x w mine h k o p = search (rules, aged-own)

-- what an entry of the end took is from the item awaited before it
own-awaits : (ms : MasterSettings) (ss : SlaveSettings) (x : Entry) (w : List Entry) → SameLengths ms ss → IsWorld ms ss (x ∷ w) → NoOther (x ∷ w)
    → (t : Took) → x.did.took ≡ Some t → is_data t.command ≡ true → is_some (awaited_by x.end w) ≡ true
own-awaits ms ss x w lens h none t took some =
    let taken : TakesAwaited ms.lengths (x ∷ w) = takes_awaited ms ss (x ∷ w) lens h none in
    item-awaited (received_len ms.lengths x.end) t x.terms (awaited (items w) x.end)
    (subst (λ (took : Option Took). IsTakenFrom (received_len ms.lengths x.end) took x.terms (awaited (items w) x.end)) (data-of x.did.took t took some) taken.0)

awaits-mine : (ms : MasterSettings) (ss : SlaveSettings) (which : End) (x : Entry) (w : List Entry) → SameLengths ms ss → IsWorld ms ss (x ∷ w) → NoOther (x ∷ w) → same_end which x.end ≡ true
    → (t : Took) → x.did.took ≡ Some t → is_data t.command ≡ true → is_some (awaited_by which w) ≡ true
awaits-mine ms ss which x w lens h none mine t took some = subst (λ (it : End). is_some (awaited_by it w) ≡ true) (same which x.end mine) (own-awaits ms ss x w lens h none t took some)

aged : (ms : MasterSettings) (ss : SlaveSettings) (which : End) (bit l : ℕ) (w : List Entry) (n : ℕ) → SameLengths ms ss → IsWorld ms ss w → NoOther w
    → bit_of (outputs_after (replicate l 0) n (of_end which w)) bit ≡ true → is_some (source_after which n w) ≡ true
aged ms ss which bit l [] n lens h none one = absurd (none_of_zeros l bit one)
aged ms ss which bit l (x ∷ w) n lens h none one =
    let older : NoneOther x w = none_other x w none in
    aged-head which l n bit x w (same_end which x.end) older.here (λ mine. awaits-mine ms ss which x w lens h none mine) (λ m k. aged ms ss which bit l w m lens h.1 older.before k) one

pub has_age : (ms : MasterSettings) (ss : SlaveSettings) (which : End) (bit : ℕ) (w : List Entry) → SameLengths ms ss → IsWorld ms ss w → NoOther w
    → bit_of (outputs_due (received_len ms.lengths which) (of_end which w)) bit ≡ true → IsSome (age_of which w)
has_age ms ss which bit w h k l m = search (rules, ticks_since, aged)
