-- What is told of the controller in a place.
use Rattle.std.proofs.Common.{◌≡◌, ◌≤◌, ℕ, List, ◌∷◌, Option, Some, None, IfSome, Bool, true, length, map, refl, subst, sym, ap, ◌∙◌, arith}
use Rattle.std.specs.Prelude.{◌==◌, ◌-◌, ◌<◌, slice_index_or, slice_set, slice_get, IsSomeAnd, drop, option_map}
use Rattle.std.specs.List.{list_any}
use Rattle.end_model.specs.Readiness.{told_terms}
use Rattle.param_load.specs.declared.terms.Terms.{Terms}
use Rattle.c_values.specs.Numbers.{flag}
use Rattle.c_values.specs.declared.told.GpTerms.{GpTerms}
use Rattle.controller_c.specs.Shown.{ShowsChangedAt, ShowsTermsAt}
use Rattle.std.proofs.lemmas.Bool.{false≢true}
use Rattle.std.proofs.lemmas.Option.{slice_get_read}
use Rattle.fb_net.specs.NetView.{NetView}
use Rattle.fb_net.specs.BlockSpec.{BlockSpec}
use Rattle.fb_net.specs.declared.spec.Drive.{Drive}
use Rattle.fsoe_base.specs.declared.did.Did.{Did}
use Rattle.failsafe_io.specs.Application.{Answer, GuardsBy}
use Rattle.multi_master.specs.Calls.{AppView, Call, Meant, IsSound, cycle_in, meant, numbered_connection}
use Rattle.multi_master.specs.Connection.{Connection, connection_outputs, setup}
use Rattle.multi_master.specs.Standing.{AnswersTick, Follows, MultiValue, IsNumber, MultiView, ShowsApp, ShowsAt, ShowsChanged, settings_of}
use Rattle.c_values.specs.Told.{ShowsDid, ShowsTerms, frame_of}
use Rattle.c_values.specs.declared.told.GpDid.{GpDid}
use Rattle.c_values.specs.declared.told.GpFrame.{GpFrame}
use Rattle.controller_c.specs.ControllerView.{ControllerView, IsController, masters_of}
use Rattle.controller_c.specs.Counts.{CountsEach, CountsStep}
use Rattle.controller_c.specs.declared.counts.GpCounts.{GpCounts}
use Rattle.controller_c.specs.Told.{AnswersCounted, GuardsOffers, OffersAreGuarded, TellsStep}

-- the place of a connection in a list of as many
pub record PlaceIn {X : Type 0} (xs : List X) (link place : ℕ) (x : X) : Type 0 where
  pub within : place < length xs
  pub at : slice_get xs (link - 1) ≡ Some x
  pub place_is : place ≡ link - 1

pub place_in : {X : Type 0} (xs : List X) (links link from : ℕ) (x : X) → length xs ≡ links → IsNumber links link → from ≡ link → x ≡ slice_index_or xs (from - 1) x → PlaceIn xs link (from - 1) x
place_in xs links link from x fits number f read =
    let within : from - 1 < length xs = omega arith in
    let same : from - 1 ≡ link - 1 = omega arith in
    record { within = within; at = rw (← same) (slice_get_read xs (length xs) (from - 1) x refl within read); place_is = same }

-- what shows what was done and sent tells the step
pub tells : (is_done : Did → List ℕ → Type 0) (d : Did) (sent : List ℕ) (was g : GpDid) (had f : GpFrame) → is_done d sent → ShowsDid g d → g.used ≡ 0 → frame_of f ≡ sent → f.len ≤ 255
    → drop g.load_len g.load ≡ drop g.load_len was.load → drop f.len f.bytes ≡ drop f.len had.bytes → TellsStep is_done was g had f
tells is_done d sent was g had f done shows unused is within past_load past_out = record {
  did = d;
  told = shows;
  unused = unused;
  done = subst (λ (s : List ℕ). is_done d s) (sym is) done;
  len = within;
  past_load = past_load;
  past_out = past_out;
}

-- what the answer of a cycle guards, the offers do that it led to
offers_guarded : (o : Option Answer) (m : Meant) → IfSome o (IsSound m) → IfSome o (λ _. OffersAreGuarded m)
offers_guarded None m none = none
offers_guarded (Some a) m sound = subst (λ (os : List (List ℕ)). GuardsBy m.app.guards (map connection_outputs m.connections) os) (sym sound.answered) sound.guarded

-- a call after which the masters stand guards the offers
pub guards : (old new : MultiView) (call : Call) → Follows old call new → GuardsOffers old call
guards old new call f = record {
  guarded = λ settings app calls h. offers_guarded (cycle_in call (meant settings app calls)) (meant settings app (call ∷ calls)) (f.stands settings app calls h).sound.0;
}

-- a controller that runs stays one with as many results of a tick and counts, while its connections keep their settings
pub still_controller : (was now : MultiValue NetView) (blocks : List BlockSpec) (drives : List Drive) (running : Bool) (dids had : List Did) (frames sent : List (List ℕ)) (counts before : List GpCounts)
    → IsController was blocks drives running had sent before → settings_of now ≡ settings_of was → length dids ≡ length had → length frames ≡ length sent → length counts ≡ length before → running ≡ true
    → IsController now blocks drives running dids frames counts
still_controller was now blocks drives running dids had frames sent counts before is same d f c on = record {
  dids_fit = d ∙ is.dids_fit ∙ sym (ap length same);
  frames_fit = f ∙ is.frames_fit ∙ sym (ap length same);
  counts_fit = c ∙ is.counts_fit ∙ sym (ap length same);
  few_blocks = is.few_blocks;
  new_blocks = is.new_blocks;
  few_drives = is.few_drives;
  unbegun = λ off. absurd (false≢true (sym off ∙ on));
}

mapped : {X Y : Type 0} (o : Option Connection) (shown : X) (word : Connection → X) (told : X → Y) → option_map word o ≡ Some shown → option_map (λ c. told (word c)) o ≡ Some (told shown)
mapped None shown word told h = absurd (cc h)
mapped (Some c) shown word told h = let e : word c ≡ shown = cc in rw e refl

-- what is shown by a word of what is shown of a connection
pub shown_as : {X Y : Type 0} (v : MultiView) (link : ℕ) (shown : X) (word : Connection → X) (told : X → Y) → ShowsAt v link shown word → ShowsAt v link (told shown) (λ c. told (word c))
shown_as v link shown word told s = record { shows = λ settings app calls h. mapped (numbered_connection link (meant settings app calls)) shown word told (s.shows settings app calls h) }

-- the same results of a tick of the same masters
pub answers_tick : (was now : MultiValue NetView) (dids told : List Did) (frames sent : List (List ℕ)) → AnswersTick (masters_of was) dids frames → was ≡ now → dids ≡ told → frames ≡ sent → AnswersTick (masters_of now) told sent
answers_tick was now dids told frames sent a m d f = rw (← m, ← d, ← f) a

-- terms that are shown, and are those of a connection
pub shows_terms : (v : MultiView) (link : ℕ) (o : Option Terms) (g : GpTerms) → IsSomeAnd o (ShowsTerms g) → ShowsAt v link o (λ c. told_terms (setup c) c.deeds) → ShowsTermsAt v link g
shows_terms v link None g shows are = absurd shows
shows_terms v link (Some t) g shows are = record { terms = t; shows = shows; are = are }

-- the connections are told whose offers changed, and this one is or isn't among them
pub shows_changed : (v : MultiView) (listed : List ℕ) (link shown : ℕ) → ShowsChanged v listed → shown ≡ flag (list_any (λ n. n == link) listed) → ShowsChangedAt v link shown
shows_changed v listed link shown s e = record { shows = λ settings app calls h. rw (← s.shows settings app calls h) e }

-- what is a word of the application is shown so
pub shows_app : {X : Type 0} (v : MultiView) (told : X) (word : AppView → X) → told ≡ word v.app → ShowsApp v told word
shows_app v told word e = record { shows = λ settings app calls h. e ∙ ap word h.app_is }

-- a step that is told, and counted at its connection
pub tells_counted : (answers : ControllerView → Did → List ℕ → Type 0) (was old left new : ControllerView) (link place : ℕ) (before after : GpCounts) (d : Did) (sent : List ℕ) (had g : GpDid) (out f : GpFrame) → was ≡ old → left ≡ new
    → answers was d sent → PlaceIn was.counts link place before → CountsStep before d after → left.counts ≡ slice_set was.counts place after
    → ShowsDid g d → g.used ≡ 0 → frame_of f ≡ sent → f.len ≤ 255 → drop g.load_len g.load ≡ drop g.load_len had.load → drop f.len f.bytes ≡ drop f.len out.bytes
    → TellsStep (AnswersCounted (answers old) link old new) had g out f
tells_counted answers was old left new link place before after d sent had g out f w l answered at counted is shows unused sent_is len past_load past_out =
    tells (AnswersCounted (answers old) link old new) d sent had g out f
    (rw (← w, ← l) (record { answered = answered; counted = record { before = before; after = after; was = at.at; counted = counted; is = rw (← at.place_is) is } }))
    shows unused sent_is len past_load past_out

-- the same counts of the same steps
pub counts_each : (was old : List GpCounts) (dids done : List Did) (now new : List GpCounts) → CountsEach was dids now → was ≡ old → dids ≡ done → now ≡ new → CountsEach old done new
counts_each was old dids done now new c w d n = rw (← w, ← d, ← n) c
