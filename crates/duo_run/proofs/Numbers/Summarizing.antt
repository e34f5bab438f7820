-- What holds of a pair after so many events of a number.
use Rattle.duo_run.proofs.Common.{Advances, CountsEntry, Did, DuoStands, DuoView, End, Entry, Err, Event, IsOk, Misses, NextEntry, Ok, OnErr, Result, ShowsLast, State, Summary, end_of_event, bulk_entries, entry_at, event_at, lengths_of, made_lengths, made_master, made_profiles, made_slave, profiles_of, steps_done, summary_of}
use Rattle.std.proofs.Common.{◌≡◌, ◌<◌, ℕ, suc, ◌+◌, ◌^◌, Bool, List, ◌∷◌, length, Some, None, sym, ap, ◌∙◌, arith, rules, add-one}
use Rattle.std.proofs.lemmas.List.Sums.{count_by-le-length}
use Rattle.std.specs.Prelude.{count_by}
use Rattle.fsoe_base.specs.declared.command.End.TheVariants as end_name
use Rattle.duo_run.specs.Duo.{HasRoom}
use Rattle.duo_run.specs.Summary.{counts_of}
use Rattle.schedule_file.specs.Maker.{MakerView, IsMaker, Makes}
use Rattle.duo_run.proofs.Numbers.WholeRuns.{Goes, entry_goes, entries_more, is_whole}

-- a maker, a pair and a summary after so many events of a number
pub record AfterEvents (number count : ℕ) (maker : MakerView) (duo : DuoView) (summary : Summary) : Type 0 where
  pub makes : IsMaker number count maker
  pub stands : DuoStands made_master made_slave duo (bulk_entries number count)
  pub lengths : lengths_of duo ≡ made_lengths
  pub profiles : profiles_of duo ≡ made_profiles
  pub steps : steps_done duo ≡ count
  pub tells : summary ≡ summary_of (bulk_entries number count)

-- each count can go up by one
counted_less : (p : Entry → Bool) (w : List Entry) → length w + 1 < 2 ^ 64 → count_by p w + 1 < 2 ^ 64
counted_less p w h = let few = count_by-le-length p w in omega (arith, few, h)

has_room : (which : End) (w : List Entry) → length w + 1 < 2 ^ 64 → HasRoom (counts_of which w)
has_room which w h = record { taken = counted_less _ w h; resets = counted_less _ w h; drops = counted_less _ w h }

pub room_after : (number count : ℕ) (maker : MakerView) (duo : DuoView) (summary : Summary) → AfterEvents number count maker duo summary → count + 1 < 2 ^ 64 → HasRoom summary.master × HasRoom summary.slave
room_after number count maker duo summary after less =
    let w : List Entry = bulk_entries number count in
    let few : length w + 1 < 2 ^ 64 = let long = (is_whole number count).each in omega (arith, long, less) in
    rw after.tells (has_room end_name.Master w few, has_room end_name.Slave w few)

-- no event names a frame that wasn't sent
pub never_misses : (number count : ℕ) (maker next : MakerView) (duo : DuoView) (summary : Summary) (event : Event)
    → AfterEvents number count maker duo summary → Makes maker event next → Misses duo event → ⊥
never_misses number count maker next duo summary event after made misses =
    let none : entry_at made_master made_slave (bulk_entries number count) event ≡ None = misses.misses made_master made_slave (bulk_entries number count) after.stands in
    let goes : Goes (bulk_entries number count) (event_at number (suc count)) = entry_goes number count (is_whole number count) in
    let some : entry_at made_master made_slave (bulk_entries number count) event ≡ Some goes.entry = grind (arith, made_master, made_slave) in
    let both : None ≡ Some goes.entry = sym none ∙ some in
    cc

-- after one event more
pub goes_on : (number count : ℕ) (maker next : MakerView) (duo duo' : DuoView) (summary summary' : Summary) (event : Event) (at : End) (did : Did) (sent : List ℕ) (state : State)
    → AfterEvents number count maker duo summary → Makes maker event next → Advances duo event did sent duo' → at ≡ end_of_event event → ShowsLast duo' at state (λ x. x.state)
    → lengths_of duo' ≡ lengths_of duo → profiles_of duo' ≡ profiles_of duo → steps_done duo' ≡ steps_done duo + 1 → CountsEntry summary at did state summary'
    → AfterEvents number (count + 1) next duo' summary'
goes_on number count maker next duo duo' summary summary' event at did sent state after made advances here states lengths profiles steps noted =
    let goes : NextEntry made_master made_slave (bulk_entries number count) event did sent duo' = advances.next made_master made_slave (bulk_entries number count) after.stands in
    let x : Entry = goes.entry in
    let end : x.end ≡ at = goes.end_is ∙ sym here in
    let is_next : entry_at made_master made_slave (bulk_entries number count) (event_at number (suc count)) ≡ Some x =
    ap (entry_at made_master made_slave (bulk_entries number count)) (sym (made.makes number count after.makes)) ∙ goes.next in
    let more : bulk_entries number (suc count) ≡ x ∷ bulk_entries number count = entries_more number count x (is_whole number count) is_next in
    rw (add-one count) (grind (arith, made_master, made_slave))

pub never_err : {X E : Type 0} (P : Type 0) (r : Result X E) → OnErr r P → (P → ⊥) → IsOk r
never_err P (Ok x) h never = search rules
never_err P (Err e) h never = absurd (never h)
