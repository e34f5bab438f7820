-- The entry whose data an end shows, where a bit of its outputs is 1.
use Rattle.exchange_model.proofs.Common.{Command, End, Entry, Took, bit_of, common_steps, data_taken, in_time, of_end, outputs_after, outputs_by, same_end, ticked, ticks_of}
use Rattle.std.proofs.Common.{◌≡◌, ℕ, ◌+◌, slice_index, List, [], ◌∷◌, ◌++◌, replicate, Bool, true, false, Some, if◌then◌else◌, refl, ap, ◌∙◌, arith, rules}
use Rattle.fsoe_base.specs.declared.command.Command.TheVariants as command
use Rattle.exchange_model.proofs.Worlds.Projection.{same}

zero-byte : (l j : ℕ) → slice_index (replicate l 0) j ≡ 0
zero-byte l j = grind (arith, common_steps)

-- no bit of zeros is 1
pub none_of_zeros : (l bit : ℕ) → bit_of (replicate l 0) bit ≡ true → ⊥
none_of_zeros l bit h = search (rules, zero-byte)

-- an end took data with this bit, after some of these entries, and in time where n ticks came since these
pub record ShowsBit (which : End) (bit n : ℕ) (w : List Entry) : Type 0 where
  pub later : List Entry
  pub taking : Entry
  pub before : List Entry
  pub parts_are : w ≡ later ++ (taking ∷ before)
  pub own : taking.end ≡ which
  pub took : Took
  pub took_is : data_taken taking.did.took ≡ Some took
  pub has_bit : bit_of took.load bit ≡ true
  pub is_in_time : in_time (ticks_of which later + n) taking.terms ≡ true

ticks-since : (which : End) (x : Entry) (a n : ℕ) (mine : Bool) → (if mine then ticked x.what a else a) + n ≡ a + (if mine then ticked x.what n else n)
ticks-since which x a n mine = grind arith

-- one more entry came
one-later : (which : End) (bit n : ℕ) (x : Entry) (w : List Entry) → ShowsBit which bit (if same_end which x.end then ticked x.what n else n) w → ShowsBit which bit n (x ∷ w)
one-later which bit n x w t =
    record {
      later = x ∷ t.later;
      taking = t.taking;
      before = t.before;
      parts_are = ap (λ (w : List Entry). x ∷ w) t.parts_are;
      own = t.own;
      took = t.took;
      took_is = t.took_is;
      has_bit = t.has_bit;
      is_in_time = ap (λ (k : ℕ). in_time k t.taking.terms) (ticks-since which x (ticks_of which t.later) n (same_end which x.end)) ∙ t.is_in_time;
    }

-- the newest entry took a frame
shown-now : (which : End) (bit l n : ℕ) (x : Entry) (w : List Entry) (t : Took) (c : Command) (young : Bool) → same_end which x.end ≡ true → x.did.took ≡ Some t → t.command ≡ c → in_time n x.terms ≡ young
    → bit_of (outputs_by (replicate l 0) n x.terms c t.load) bit ≡ true → ShowsBit which bit n (x ∷ w)
shown-now which bit l n x w t command.ProcessData true mine is which_command k h =
    record {
      later = [];
      taking = x;
      before = w;
      parts_are = refl;
      own = same which x.end mine;
      took = t;
      took_is = ap data_taken is ∙ simp which_command;
      has_bit = simp k at h;
      is_in_time = let all : 0 + n ≡ n = omega arith in ap (λ (m : ℕ). in_time m x.terms) all ∙ k;
    }
shown-now which bit l n x w t command.ProcessData false mine is which_command k h = absurd (none_of_zeros l bit (simp k at h))
shown-now which bit l n x w t _ young mine is which_command k h = absurd (none_of_zeros l bit h)

shown-head : (which : End) (bit l n : ℕ) (x : Entry) (w : List Entry) (mine : Bool) → same_end which x.end ≡ mine
    → ((m : ℕ) → bit_of (outputs_after (replicate l 0) m (of_end which w)) bit ≡ true → ShowsBit which bit m w)
    → bit_of (outputs_after (replicate l 0) n (if mine then x ∷ of_end which w else of_end which w)) bit ≡ true → ShowsBit which bit n (x ∷ w)
shown-head which bit l n x w mine h k o = search (rules, none_of_zeros, shown-now, one-later, ticked)

-- where a bit of an end's outputs is 1, it took data with that bit in time
pub shows_bit : (which : End) (bit l : ℕ) (w : List Entry) (n : ℕ) → bit_of (outputs_after (replicate l 0) n (of_end which w)) bit ≡ true → ShowsBit which bit n w
shows_bit which bit l [] n h = absurd (none_of_zeros l bit h)
shows_bit which bit l (x ∷ w) n h = shown-head which bit l n x w (same_end which x.end) refl (λ m k. shows_bit which bit l w m k) h
