-- Counts that are raised, and the steps for which they stand.
use Rattle.std.proofs.Common.{◌≡◌, ◌<◌, ◌+◌, ℕ, Bool, true, false, List, ◌∷◌, Option, Some, None, cond, length, min, get_or, refl, sym, ap, ◌∙◌, arith}
use Rattle.std.specs.Prelude.{◌==◌, count_by, slice_set}
use Rattle.std.proofs.lemmas.Grind.{common_steps}
use Rattle.std.proofs.lemmas.List.Sums.{sum_by-cons}
use Rattle.std.proofs.lemmas.List.{get_or-set_same, get_or-set_other}
use Rattle.fsoe_base.specs.declared.did.Did.{Did}
use Rattle.controller_c.specs.Counts.{AreTallies, CountsStep, RaisesAt, dropped_place, found_place, is_local, is_place, peer_place, raised, tally, took_reset}
use Rattle.controller_c.specs.declared.counts.GpCounts.{GpCounts}

capped : (b : Bool) (n m : ℕ) → m ≡ cond b 1 0 + n → min m 4294967295 ≡ raised b (min n 4294967295)
capped true n m h = omega arith
capped false n m h = omega arith

-- a step that passes a test raises its tally
tally_more : (test : Did → Bool) (d : Did) (done : List Did) → tally test (d ∷ done) ≡ raised (test d) (tally test done)
tally_more test d done = capped (test d) (count_by test done) (count_by test (d ∷ done)) (sum_by-cons (λ x. cond (test x) 1 0) d done)

raised_there : (place k x : ℕ) (old : List ℕ) (b : Bool) → (place == k) ≡ b → place < length old → x ≡ raised true (get_or old place 0) → get_or (slice_set old place x) k 0 ≡ raised b (get_or old k 0)
raised_there place k x old true h fits e = grind (arith, common_steps, get_or-set_same)
raised_there place k x old false h fits e = grind (arith, common_steps, get_or-set_other)

pub raises_at : (o : Option ℕ) (place x : ℕ) (old : List ℕ) → o ≡ Some place → place < length old → x ≡ raised true (get_or old place 0) → RaisesAt o old (slice_set old place x)
raises_at o place x old h fits e = record {
  same = grind (arith, common_steps);
  each = λ k. rw h (raised_there place k x old (place == k) refl fits e);
}

pub raises_none : (o : Option ℕ) (old : List ℕ) → o ≡ None → RaisesAt o old old
raises_none o old h = record { same = refl; each = λ k. rw h refl }

pub tallies_more : (place_of : Did → Option ℕ) (d : Did) (done : List Did) (old new : List ℕ) → RaisesAt (place_of d) old new → AreTallies place_of old done → AreTallies place_of new (d ∷ done)
tallies_more place_of d done old new r are = record {
  each = λ k fits. let inside : k < length old = omega (arith, r.same) in r.each k ∙ ap (raised (is_place (place_of d) k)) (are.each k inside) ∙ sym (tally_more (λ (x : Did). is_place (place_of x) k) d done);
}

-- the counts, each of which is raised where the step says so
pub counts_step : (old new : GpCounts) (d : Did) → new.sessions ≡ raised (took_reset d.took) old.sessions → new.local ≡ raised (is_local d.reset) old.local
    → RaisesAt (peer_place d.reset) old.peer new.peer → RaisesAt (found_place d.reset) old.found new.found → RaisesAt (dropped_place d.dropped) old.dropped new.dropped → CountsStep old d new
counts_step old new d sessions local peer found dropped = record {
  stands = λ done h. record {
    sessions = sessions ∙ ap (raised (took_reset d.took)) h.sessions ∙ sym (tally_more (λ (x : Did). took_reset x.took) d done);
    local = local ∙ ap (raised (is_local d.reset)) h.local ∙ sym (tally_more (λ (x : Did). is_local x.reset) d done);
    peer = tallies_more (λ x. peer_place x.reset) d done old.peer new.peer peer h.peer;
    found = tallies_more (λ x. found_place x.reset) d done old.found new.found found h.found;
    dropped = tallies_more (λ x. dropped_place x.dropped) d done old.dropped new.dropped dropped h.dropped;
  };
}
