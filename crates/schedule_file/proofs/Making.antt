-- A maker makes the next event of its number.
use Rattle.schedule_file.proofs.Common.{Event, nat_tests}
use Rattle.std.proofs.Common.{◌≡◌, ℕ, zero, suc, ◌-◌, ◌≤◌, ◌==◌, nat_le, min, refl, sym, ap, ◌∙◌, Bool, false, ◌||◌, if◌then◌else◌, arith}
use Rattle.rand_pcg.specs.Lcg.{Lcg, next, next_state, state_after}
use Rattle.rand_pcg.specs.Pcg.{multiplier_64, pcg32}
use Rattle.schedule_file.specs.Made.{generator_of, generator_after, word_after, event_of_word, event_in_turn, event_at}
use Rattle.schedule_file.specs.Maker.{MakerView, IsMaker, Makes, endless_turns}

-- the state after one step more
state_after-next : (w m p n s : ℕ) → next_state w m p (state_after w m p n s) ≡ state_after w m p (suc n) s
unfolding state_after
state_after-next w m p zero s = refl
state_after-next w m p (suc n) s = state_after-next w m p n (next_state w m p s)

-- the generator after one word more
generator_more : (number words : ℕ) → next 64 multiplier_64 (generator_after number words) ≡ generator_after number (suc words)
generator_more number words = λ i. record {
  state = state_after-next 64 multiplier_64 (generator_of number).increment words (generator_of number).state i;
  increment = (generator_of number).increment;
}

-- the generator before its first word
generator_first : (number : ℕ) → generator_of number ≡ generator_after number 0
unfolding state_after
generator_first number = refl

-- makers with the same parts are the same
same_maker : (a b : MakerView) → a.endless ≡ b.endless → a.turns ≡ b.turns → a.words ≡ b.words → a ≡ b
same_maker a b endless turns words = λ i. record { endless = endless i; turns = turns i; words = words i }

pub event_at-zero : (place : ℕ) → event_at 0 place ≡ event_in_turn place
event_at-zero place = grind arith

neither : (a b : Bool) (x y : Event) → a ≡ false → b ≡ false → (if a || b then x else y) ≡ y
neither a b x y h k = grind arith

-- the later events of the other numbers
pub event_at-word : (number count : ℕ) → 4 ≤ count → event_at (suc number) (suc count) ≡ event_of_word (word_after (suc number) (count - 4))
event_at-word number count late =
    let some : (suc number == 0) ≡ false = grind (arith, nat_tests) in
    let far : nat_le (suc count) 4 ≡ false = grind (arith, nat_tests) in
    let same : suc count - 5 ≡ count - 4 = omega arith in
    neither _ _ _ _ far some ∙ ap (λ (n : ℕ). event_of_word (word_after (suc number) n)) same

pub new_of : (number : ℕ) (endless : Bool) (words : Lcg) → endless ≡ (number == 0) → words ≡ generator_of number → IsMaker number 0 (record { endless = endless; turns = 0; words = words })
new_of zero endless words e w = same_maker _ _ e refl w
new_of (suc number) endless words e w = same_maker _ _ (e ∙ grind (arith, nat_tests)) refl (w ∙ generator_first (suc number))

endless_few : (count : ℕ) → endless_turns count ≤ 2
endless_few count = grind (arith, nat_tests)

-- a maker none of whose events in turn is left
word_stands : (old new : MakerView) (word : ℕ) → old.turns ≡ 4 → (word, new.words) ≡ pcg32 old.words → new.turns ≡ old.turns → new.endless ≡ old.endless
    → (number count : ℕ) → IsMaker number count old → (event_of_word word ≡ event_at number (suc count)) × IsMaker number (suc count) new
word_stands old new word spent step turns endless zero count is =
    let now : old.turns ≡ endless_turns count = ap (λ (m : MakerView). m.turns) is in
    absurd (omega (arith, endless_few count))
word_stands old new word spent step turns endless (suc number) count is =
    let now : old.turns ≡ min count 4 = ap (λ (m : MakerView). m.turns) is in
    let late : 4 ≤ count = omega arith in
    let all : old.turns ≡ min (suc count) 4 = omega arith in
    let one_more : suc (count - 4) ≡ suc count - 4 = omega arith in
    let generator : old.words ≡ generator_after (suc number) (count - 4) = ap (λ (m : MakerView). m.words) is in (
      ap (λ (p : ℕ × Lcg). event_of_word p.0) step ∙ ap (λ (g : Lcg). event_of_word (pcg32 g).0) generator ∙ sym (event_at-word number count late),
      same_maker _ _
          (endless ∙ ap (λ (m : MakerView). m.endless) is)
          (turns ∙ all)
          (ap (λ (p : ℕ × Lcg). p.1) step ∙ ap (next 64 multiplier_64) generator ∙ generator_more (suc number) (count - 4) ∙ ap (generator_after (suc number)) one_more),
    )

-- the maker is seen as this view
pub by_word : (inside old new : MakerView) (event : Event) (word : ℕ) → inside ≡ old → inside.turns ≡ 4 → event ≡ event_of_word word
    → (word, new.words) ≡ pcg32 inside.words → new.turns ≡ inside.turns → new.endless ≡ inside.endless → Makes old event new
by_word inside old new event word seen spent of_word step turns endless =
    let stands = word_stands inside new word spent step turns endless in
    grind arith
