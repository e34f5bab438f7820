-- Each header of several pairs that is whole says settings of both ends of each.
use Rattle.duo_run.proofs.Common.{All-head, All-nil, All-push, All-tail, AllZip, ArePairs, Err, Heading, IfOk, IsPairOf, Ok, Pair, PairsHeading, PairsStage, Sound, after_sound, bytes_eq, codes, each, fields_of, heading_after, known, last_taken, master_settings, may_end, new_sound, next_pair, pair_begun, pair_taken, pairs_begun, pairs_format, pairs_input, pairs_line_taken, pairs_of, slave_settings}
use Rattle.std.proofs.Common.{◌+◌, ℕ, List, [], ◌∷◌, All, length, Option, Some, None, IfSome, refl}
use Rattle.std.specs.Prelude.{◌&&◌}
use Rattle.schedule_file.specs.declared.header_kind.HeaderKind.TheVariants as kind
use Rattle.schedule_file.specs.declared.line_cause.LineCause.TheVariants as cause
use Rattle.schedule_file.specs.declared.pairs_header.PairsStage.TheVariants as stage
use Rattle.schedule_file.proofs.Headed.{either, headed}
use Rattle.schedule_file.proofs.Sound.{worded}

-- the lines of each pair say values that settings may have
abbrev AreSound : PairsHeading → Type 0
AreSound h = All Sound h.before × Sound h.last

begun-sound : Sound pair_begun
begun-sound = new_sound kind.Pair

pairs-sound : (s : PairsStage) (before : List Heading) (last : Heading) → All Sound before → Sound last → All Sound (pairs_begun s before last)
pairs-sound stage.Pairs before last h p = All-push Sound before last h p
pairs-sound stage.Done before last h p = All-push Sound before last h p
pairs-sound _ before last h p = All-nil Sound

-- a header after one more line
pair-sound : (h : PairsHeading) (fields : List (List ℕ)) → AreSound h → IfOk (pair_taken h fields) AreSound
pair-sound h fields s = each (next_pair (length (pairs_of h) + 1) fields) _ AreSound (λ next. (pairs-sound h.stage h.before h.last s.0 s.1, begun-sound))

last-sound : (h : PairsHeading) (text : List ℕ) → AreSound h → IfOk (last_taken h text) AreSound
last-sound h text s = known (heading_after h.last text) _ Sound AreSound (after_sound h.last text s.1) (λ last sound. (s.0, sound))

line-sound : (st : PairsStage) (h : PairsHeading) (text first : List ℕ) (fields : List (List ℕ)) → AreSound h → IfOk (pairs_line_taken st h text first fields) AreSound
line-sound stage.Start h text first fields s = either (bytes_eq text (codes "fsoe 2 pairs")) (Ok (record h { stage = stage.Title })) (Err cause.Header) AreSound s tt
line-sound stage.Title h text first fields s = either (bytes_eq first (codes "pair")) (pair_taken h fields) (Err cause.Header) AreSound (pair-sound h fields s) tt
line-sound stage.Pairs h text first fields s = either (bytes_eq first (codes "pair") && may_end h.last) (pair_taken h fields) (last_taken h text) AreSound (pair-sound h fields s) (last-sound h text s)
line-sound _ h text first fields s = tt

-- then there are pairs as it says
pairs-are : (hs : List Heading) → All Sound hs → (pairs : List Pair) × AllZip IsPairOf hs pairs
pairs-are [] sound = ([], tt)
pairs-are (h ∷ hs) sound =
    let own = All-head Sound h hs sound in
    let ms = master_settings h own in
    let ss = slave_settings h own in
    let rest = pairs-are hs (All-tail Sound h hs sound) in
    let p : Pair = record { master = ms.0; slave = ss.0 } in
    (p ∷ rest.0, ((ms.1, ss.1), rest.1))

pairs-by : (heading : Option PairsHeading) → IfSome heading AreSound → (pairs : List Pair) × ArePairs heading pairs
pairs-by None s = ([], refl)
pairs-by (Some h) s = pairs-are (pairs_of h) (pairs-sound h.stage h.before h.last s.0 s.1)

pub some_pairs : (bytes : List ℕ) → (pairs : List Pair) × ArePairs (pairs_input bytes).heading pairs
some_pairs bytes = pairs-by (pairs_input bytes).heading (headed pairs_format AreSound (All-nil Sound, begun-sound) (λ h text s. worded cause.Header (pairs_line_taken h.stage h text) AreSound (λ first fields. line-sound h.stage h text first fields s) (fields_of text)) bytes)
