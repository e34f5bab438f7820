-- In a world without another entry outputs are no older than twice the watchdog: one of them passes at most until the
-- end takes what its peer sent, and one until the outputs are zeros.
use Rattle.reaction_bound.proofs.Common.{Command, Deed, Did, End, Entry, IsWorld, MasterSettings, Move, NoOther, NoneOther, SameLengths, SlaveSettings, Terms, Took, age_of, awaited_by, data_taken, deed_in, deeds, deeds_are_run, entry_reacted, greater, in_time, is_data, is_other, items, items_of, ltb-true, next_told, none_other, peer, same, same_end, setup_of, source, source_after, source_at, source_by, ticked, ticks_since, worst_of}
use Rattle.std.proofs.Common.{◌≡◌, ℕ, ◌+◌, ◌-◌, ◌*◌, ◌<◌, ◌≤◌, nat_lt, List, [], ◌∷◌, length, Bool, true, false, ◌&&◌, not, Option, Some, None, IfSome, IsSomeAnd, is_some, option_map, if◌then◌else◌, refl, sym, ap, ◌∙◌, subst, arith, rules}
use Rattle.fsoe_base.specs.declared.command.State.TheVariants as state
use Rattle.fsoe_base.specs.declared.command.Command.TheVariants as command
use Rattle.param_load.specs.Download.{terms_of}
use Rattle.end_model.specs.Setup.{Setup}
use Rattle.end_model.specs.Chain.{since}
use Rattle.end_model.specs.Payloads.{terms}
use Rattle.end_model.specs.Readiness.{state_of, ticks, told_terms}
use Rattle.end_model.specs.Reactions.{Reaction}
use Rattle.exchange_model.proofs.Alone.Pieces.{deed}
use Rattle.exchange_model.proofs.Offering.Young.{TakesYoung, takes_young}
use Rattle.exchange_model.proofs.Offering.Offered.{agrees, tells, taking_agrees, own_head, same_itself, both-ways}
use Rattle.reaction_bound.proofs.Waiting.{awaited_within, since_next, Next, next}
use Rattle.reaction_bound.proofs.Outputs.{source_within}

-- the ticks since an awaited item was sent are no more than those that the end counted since it sent its own
waits-next : (s : Setup) (which : End) (x : Entry) (w : List Entry) (k : ℕ) → ((k : ℕ) → awaited_by which w ≡ Some k → ticks_since which k w ≤ ticks s (deeds which w))
    → awaited_by which (x ∷ w) ≡ Some k → Next which x w → ticks_since which k (x ∷ w) ≤ ticks s (deeds which (x ∷ w))
waits-next s which x w k h l m = search rules

waits : (s : Setup) (which : End) (w : List Entry) (k : ℕ) → awaited_by which w ≡ Some k → ticks_since which k w ≤ ticks s (deeds which w)
waits s which [] k h = omega arith
waits s which (x ∷ w) k h = waits-next s which x w k (λ k h. waits s which w k h) h (next which x w)

keeps-data : (s : Setup) (e : List Deed) (m : Move) (d : Did) (f : List ℕ) → Reaction s e m d f → d.took ≡ None → is_some d.reset ≡ false → state_of s e ≡ state.Data → state_of s (deed m d f ∷ e) ≡ state.Data
keeps-data s e m d f h k l n = search rules

-- an end whose outputs are from the item of this number, n ticks later
record Young (ms : MasterSettings) (ss : SlaveSettings) (which : End) (n k : ℕ) (w : List Entry) : Type 0 where
  pub in_data : state_of (setup_of ms ss which) (deeds which w) ≡ state.Data
  pub most : ticks_since which k w + n ≤ 2 * ms.watchdog - 2

-- an entry that took ProcessData from an item that was awaited
taken-young : (since since' now n told watchdog : ℕ) → since ≡ since' → since' ≤ now → now < told → told ≡ watchdog → n < watchdog → since + n ≤ 2 * watchdog - 2
taken-young since since' now n told watchdog a b c d e = omega arith

young-taken : (ms : MasterSettings) (ss : SlaveSettings) (x : Entry) (w : List Entry) (t : Took) (n k : ℕ) → SameLengths ms ss → IsWorld ms ss (x ∷ w) → NoOther (x ∷ w)
    → data_taken x.did.took ≡ Some t → in_time n x.terms ≡ true → awaited_by x.end w ≡ Some k → Young ms ss x.end n k (x ∷ w)
young-taken ms ss x w t n k lens h none took soon awaited =
    let s : Setup = setup_of ms ss x.end in
    let e : List Deed = deeds x.end w in
    let y : TakesYoung s e (deed_in x) = takes_young s e x.what x.did x.sent t (deeds_are_run ms ss x.end w h.1) (entry_reacted ms ss x w h) took in
    let agree : terms s (deed_in x ∷ e) ≡ terms_of ms = taking_agrees ms ss x w lens h none y.in_data in
    let told : x.terms ≡ Some (terms_of ms) = ap (λ (y : Entry). y.terms) (next_told s x e h.0) ∙ tells s (deed_in x ∷ e) (terms_of ms) y.in_data agree in
    let in_all : nat_lt n ms.watchdog ≡ true = ap (in_time n) (sym told) ∙ soon in
    let ago : ticks_since x.end k (x ∷ w) ≡ ticks_since x.end k w =
    since_next x.end k x w (same_end x.end x.end) refl (awaited_within x.end w k awaited)
    ∙ both-ways (same_end x.end x.end) (ticked x.what (ticks_since x.end k w)) (ticks_since x.end k w) (y.no_tick (ticks_since x.end k w)) in
    record {
      in_data = ap (state_of s) (own_head x w) ∙ y.in_data;
      most = taken-young (ticks_since x.end k (x ∷ w)) (ticks_since x.end k w) (ticks s e) n (terms s (deed_in x ∷ e)).watchdog ms.watchdog
          ago (waits s x.end w k awaited) y.young (ap (λ (t : Terms). t.watchdog) agree) (ltb-true n ms.watchdog in_all);
    }

some-before : (soon other : Bool) (before : Option ℕ) (k : ℕ) → (if soon && not other then before else None) ≡ Some k → (soon ≡ true) × (before ≡ Some k)
some-before soon other before k h = grind arith

pub data-of : (took : Option Took) (t : Took) → took ≡ Some t → is_data t.command ≡ true → data_taken took ≡ Some t
data-of took t h k = ap data_taken h ∙ simp k

young-by : (ms : MasterSettings) (ss : SlaveSettings) (x : Entry) (w : List Entry) (t : Took) (n k : ℕ) (c : Command) → SameLengths ms ss → IsWorld ms ss (x ∷ w) → NoOther (x ∷ w)
    → x.did.took ≡ Some t → t.command ≡ c → source_by n x.terms (is_other (items w) x) (awaited_by x.end w) c ≡ Some k → Young ms ss x.end n k (x ∷ w)
young-by ms ss x w t n k command.ProcessData lens h none took which_command is =
    let it : (in_time n x.terms ≡ true) × (awaited_by x.end w ≡ Some k) = some-before (in_time n x.terms) (is_other (items w) x) (awaited_by x.end w) k is in
    young-taken ms ss x w t n k lens h none (data-of x.did.took t took (ap is_data which_command)) it.0 it.1
young-by ms ss x w t n k _ lens h none took which_command is = cc

-- an entry that took nothing
young-still : (ms : MasterSettings) (ss : SlaveSettings) (x : Entry) (w : List Entry) (n k : ℕ) → IsWorld ms ss (x ∷ w) → x.did.took ≡ None → is_some x.did.reset ≡ false
    → k ≤ length (items_of (peer x.end) (items w)) → Young ms ss x.end (ticked x.what n) k w → Young ms ss x.end n k (x ∷ w)
young-still ms ss x w n k h l m o p = search (rules, keeps-data, entry_reacted)

young-own : (ms : MasterSettings) (ss : SlaveSettings) (x : Entry) (w : List Entry) (n k : ℕ) (reset : Bool) (took : Option Took) → SameLengths ms ss → IsWorld ms ss (x ∷ w) → NoOther (x ∷ w)
    → is_some x.did.reset ≡ reset → x.did.took ≡ took → ((n k : ℕ) → source_after x.end n w ≡ Some k → Young ms ss x.end n k w)
    → (if reset then None else source_at n x.terms (is_other (items w) x) (awaited_by x.end w) took (source_after x.end (ticked x.what n) w)) ≡ Some k → Young ms ss x.end n k (x ∷ w)
young-own ms ss x w n k true took lens h none r t before is = cc
young-own ms ss x w n k false None lens h none r t before is = young-still ms ss x w n k h t r (source_within x.end (ticked x.what n) w k is) (before (ticked x.what n) k is)
young-own ms ss x w n k false (Some took) lens h none r t before is = young-by ms ss x w took n k took.command lens h none t refl is

-- an entry of the end, and one of its peer
young-mine : (ms : MasterSettings) (ss : SlaveSettings) (x : Entry) (w : List Entry) (n k : ℕ) → SameLengths ms ss → IsWorld ms ss (x ∷ w) → NoOther (x ∷ w)
    → ((n k : ℕ) → source_after x.end n w ≡ Some k → Young ms ss x.end n k w) → source_after x.end n (x ∷ w) ≡ Some k → Young ms ss x.end n k (x ∷ w)
young-mine ms ss x w n k lens h none before is =
    let own : same_end x.end x.end ≡ true = same_itself x.end in
    young-own ms ss x w n k (is_some x.did.reset) x.did.took lens h none refl refl before (simp own at is)

young-theirs : (ms : MasterSettings) (ss : SlaveSettings) (which : End) (x : Entry) (w : List Entry) (n k : ℕ) → same_end which x.end ≡ false
    → ((n k : ℕ) → source_after which n w ≡ Some k → Young ms ss which n k w) → source_after which n (x ∷ w) ≡ Some k → Young ms ss which n k (x ∷ w)
young-theirs ms ss which x w n k theirs before is =
    let was : source_after which n w ≡ Some k = simp theirs at is in
    let y : Young ms ss which n k w = before n k was in
    let same-deeds : deeds which (x ∷ w) ≡ deeds which w = simp theirs in
    record {
      in_data = ap (state_of (setup_of ms ss which)) same-deeds ∙ y.in_data;
      most = subst (λ (m : ℕ). m + n ≤ 2 * ms.watchdog - 2) (sym (since_next which k x w false theirs (source_within which n w k was))) y.most;
    }

young-head : (ms : MasterSettings) (ss : SlaveSettings) (which : End) (x : Entry) (w : List Entry) (n k : ℕ) (mine : Bool) → same_end which x.end ≡ mine → SameLengths ms ss → IsWorld ms ss (x ∷ w) → NoOther (x ∷ w)
    → ((n k : ℕ) → source_after which n w ≡ Some k → Young ms ss which n k w) → source_after which n (x ∷ w) ≡ Some k → Young ms ss which n k (x ∷ w)
young-head ms ss which x w n k false theirs lens h none before is = young-theirs ms ss which x w n k theirs before is
young-head ms ss which x w n k true mine lens h none before is =
    subst (λ (which : End). ((n k : ℕ) → source_after which n w ≡ Some k → Young ms ss which n k w) → source_after which n (x ∷ w) ≡ Some k → Young ms ss which n k (x ∷ w))
    (same which x.end mine) (λ before is. young-mine ms ss x w n k lens h none before is) before is

young : (ms : MasterSettings) (ss : SlaveSettings) (which : End) (w : List Entry) (n k : ℕ) → SameLengths ms ss → IsWorld ms ss w → NoOther w → source_after which n w ≡ Some k → Young ms ss which n k w
young ms ss which [] n k lens h none is = cc
young ms ss which (x ∷ w) n k lens h none is =
    let older : NoneOther x w = none_other x w none in
    young-head ms ss which x w n k (same_end which x.end) refl lens h none (λ n k is. young ms ss which w n k lens h.1 older.before is) is

-- how old outputs are, and the terms that their end tells
record Bounded (ms : MasterSettings) (ss : SlaveSettings) (which : End) (w : List Entry) (n : ℕ) : Type 0 where
  pub told : told_terms (setup_of ms ss which) (deeds which w) ≡ Some (terms_of ms)
  pub most : n ≤ 2 * ms.watchdog - 2

bounded : (ms : MasterSettings) (ss : SlaveSettings) (which : End) (w : List Entry) (o : Option ℕ) → SameLengths ms ss → IsWorld ms ss w → NoOther w → source which w ≡ o
    → IfSome (option_map (λ k. ticks_since which k w) o) (Bounded ms ss which w)
bounded ms ss which w None lens h none is = tt
bounded ms ss which w (Some k) lens h none is =
    let y : Young ms ss which 0 k w = young ms ss which w 0 k lens h none is in
    let most : ticks_since which k w + 0 ≤ 2 * ms.watchdog - 2 = y.most in
    record { told = tells (setup_of ms ss which) (deeds which w) (terms_of ms) y.in_data (agrees ms ss which w lens h none y.in_data); most = omega arith }

if-more : {P Q : ℕ → Type 0} (o : Option ℕ) → IfSome o P → ((n : ℕ) → P n → Q n) → IfSome o Q
if-more None p more = tt
if-more (Some n) p more = more n p

pub age_bounded : (ms : MasterSettings) (ss : SlaveSettings) (which : End) (w : List Entry) → SameLengths ms ss → IsWorld ms ss w → NoOther w
    → IfSome (age_of which w) (λ n. IsSomeAnd (told_terms (setup_of ms ss which) (deeds which w)) (λ t. n ≤ 2 * t.watchdog - 2))
age_bounded ms ss which w lens h none =
    if-more (age_of which w) (bounded ms ss which w (source which w) lens h none refl) (λ n b. subst (λ (o : Option Terms). IsSomeAnd o (λ t. n ≤ 2 * t.watchdog - 2)) (sym b.told) b.most)

-- the greatest age
greater-bounded : (a b : Option ℕ) (most : ℕ) → IfSome a (λ n. n ≤ most) → IfSome b (λ n. n ≤ most) → IfSome (greater a b) (λ n. n ≤ most)
greater-bounded a b most h k = grind arith

pub worst_bounded : (ms : MasterSettings) (ss : SlaveSettings) (which : End) (w : List Entry) → SameLengths ms ss → IsWorld ms ss w → NoOther w → IfSome (worst_of which w) (λ n. n ≤ 2 * ms.watchdog - 2)
worst_bounded ms ss which [] lens h none = tt
worst_bounded ms ss which (x ∷ w) lens h none =
    let older : NoneOther x w = none_other x w none in
    greater-bounded (age_of which (x ∷ w)) (worst_of which w) (2 * ms.watchdog - 2) (if-more (age_of which (x ∷ w)) (bounded ms ss which (x ∷ w) (source which (x ∷ w)) lens h none refl) (λ n b. b.most)) (worst_bounded ms ss which w lens h.1 older.before)
