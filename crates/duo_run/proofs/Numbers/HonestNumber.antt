-- The schedule of number 0 is honest.
use Rattle.duo_run.proofs.Common.{All-cons, All-nil, End, Entry, Event, HasNoReset, IsHonest, IsProperEvent, Serves, TakesDelivery, bulk_entries, entry_at, event_in_turn, honest_serves, if_on, in_turn, is_plain, keeps_time, list_all, made, made_master, made_slave, peer, slave_first}
use Rattle.std.proofs.Common.{◌≡◌, ℕ, zero, suc, List, [], ◌∷◌, ◌++◌, true, Some, None, All, refl, sym, ap, ap₂, subst, ◌∙◌, arith, rules}
use Rattle.fsoe_base.specs.declared.command.End.TheVariants as end_name
use Rattle.schedule_file.specs.declared.event.Event.TheVariants as event
use Rattle.schedule_file.proofs.Making.{event_at-zero}

-- so many times the peer's last frame comes to an end, this one first, and to its peer in turn
abbrev alternating : End → ℕ → List Event
alternating to zero = []
alternating to (suc n) = event.Deliver to 1 ∷ alternating (peer to) n

-- the end whose turn it is after so many
abbrev turned : End → ℕ → End
turned to zero = to
turned to (suc n) = turned (peer to) n

alternating-more : (to : End) (n : ℕ) → alternating to n ++ event.Deliver (turned to n) 1 ∷ [] ≡ alternating to (suc n)
alternating-more to zero = refl
alternating-more to (suc n) = ap (λ (events : List Event). event.Deliver to 1 ∷ events) (alternating-more (peer to) n)

-- the turns come again after two events
two_later : (n : ℕ) → event_in_turn (suc (suc (suc (suc n)))) ≡ event_in_turn (suc (suc n))
two_later n = grind arith

in_turn_at : (n : ℕ) → event_in_turn (suc (suc n)) ≡ event.Deliver (turned end_name.Slave n) 1
in_turn_at (suc (suc n)) = two_later n ∙ in_turn_at n
in_turn_at _ = refl

-- the events of number 0: a tick of the master, and then the last frames in turn, to the slave first
events_of_zero : (n : ℕ) → made 0 (suc n) ≡ event.Tick end_name.Master ∷ alternating end_name.Slave n
events_of_zero zero = refl
events_of_zero (suc n) =
    ap₂ (λ (events : List Event) (last : Event). events ++ last ∷ []) (events_of_zero n) (event_at-zero (suc (suc n)) ∙ in_turn_at n)
    ∙ ap (λ (events : List Event). event.Tick end_name.Master ∷ events) (alternating-more end_name.Slave n)

plain : (to : End) (n : ℕ) → list_all is_plain (alternating to n) ≡ true
plain to zero = refl
plain to (suc n) = plain (peer to) n

turns : (to : End) (n : ℕ) → in_turn to (alternating to n) ≡ true
turns to zero = refl
turns end_name.Master (suc n) = turns end_name.Slave n
turns end_name.Slave (suc n) = turns end_name.Master n

-- deliveries are at any time
timely : (to : End) (n : ℕ) (w : List Entry) → keeps_time made_master made_slave (alternating to n) w ≡ true
timely to zero w = refl
timely to (suc n) w =
    elim (entry_at made_master made_slave w (event.Deliver to 1)) as (λ o. if_on w o (keeps_time made_master made_slave (alternating (peer to) n)) ≡ true) [
      | None ↦ refl
      | Some x ↦ timely (peer to) n (x ∷ w)
    ]

-- the first delivery is to the slave
asked : (n : ℕ) → slave_first (alternating end_name.Slave n) ≡ true
asked zero = refl
asked (suc n) = refl

proper : (to : End) (n : ℕ) → All (IsProperEvent made_master made_slave) (alternating to n)
proper to zero = All-nil (IsProperEvent made_master made_slave)
proper to (suc n) = All-cons (IsProperEvent made_master made_slave) (event.Deliver to 1) (alternating (peer to) n) tt (proper (peer to) n)

honest : (n : ℕ) → IsHonest made_master made_slave (event.Tick end_name.Master ∷ alternating end_name.Slave n)
honest n = record { steady = record { plain = plain end_name.Slave n; begun = refl; asked = asked n; time = timely end_name.Slave n _ }; turns = turns end_name.Slave n }

-- before the first event nothing happened
serves : (n : ℕ) → Serves made_master (made 0 n) (bulk_entries 0 n)
serves zero = record {
  whole = refl;
  no_other = refl;
  no_reset = All-nil HasNoReset;
  taken = All-nil TakesDelivery;
  reaches_data = record { master = refl; slave = refl };
  takes_data = tt;
}
serves (suc n) = search (rules, honest_serves, events_of_zero, All-cons, proper, honest)

-- number 0 serves
pub zero_serves : (number events : ℕ) → number ≡ 0 → Serves made_master (made number events) (bulk_entries number events)
zero_serves number events is = subst (λ (number : ℕ). Serves made_master (made number events) (bulk_entries number events)) (sym is) (serves events)
