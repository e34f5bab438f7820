-- Line by line, what a pair file is converted to says the same of the only pair.
use Rattle.pair_convert.proofs.Common.{Event, Heading, LineCause, Ok, PairsHeading, PairsStage, Result, by_word, bytes_eq, codes, fields_of, fields_taken, heading_after, heading_is_whole, heading_profile, is_start, last_taken, may_end, only_pair, own_length, pair_taken, pairs_heading_after, pairs_line, pairs_line_taken, pairs_of, pairs_said_after, said_after, stage_after, title_taken}
use Rattle.schedule_file.specs.Fields.{◌>>=◌}
use Rattle.std.proofs.Common.{◌≡◌, ℕ, Bool, false, List, [], ◌∷◌, ◌++◌, map, refl, ap, ◌∙◌, sym, subst, arith, rules}
use Rattle.std.proofs.lemmas.Fmt.{decimal_digit}
use Rattle.std.specs.Prelude.{◌&&◌, if◌then◌else◌}
use Rattle.schedule_file.proofs.PairsRead.{numbered_said}
use Rattle.schedule_file.specs.declared.event.ScheduleLine.TheVariants as said
use Rattle.schedule_file.specs.declared.header_kind.HeaderKind.TheVariants as kind
use Rattle.schedule_file.specs.declared.line_cause.LineCause.TheVariants as cause
use Rattle.schedule_file.specs.declared.pairs_header.PairsStage.TheVariants as stage
use Rattle.schedule_file.specs.declared.pairs_line.PairsLine.TheVariants as pairs_said

-- the only pair, of which a line of its header was read
abbrev begun : Heading → PairsHeading
begun h = record { stage = stage.Pairs; before = []; last = h }

-- no line of a header begins with `pair`
no_pair_line : (h next : Heading) (line first : List ℕ) (fields : List (List ℕ)) (is_pair : Bool) → bytes_eq first (codes "pair") ≡ is_pair → fields_taken h (first ∷ fields) ≡ Ok next
    → (if is_pair && may_end h then pair_taken (begun h) fields else last_taken (begun h) line) ≡ last_taken (begun h) line
no_pair_line h next line first fields is_pair k l = search rules

by_fields : (h next : Heading) (line : List ℕ) (fields : List (List ℕ)) → fields_taken h fields ≡ Ok next → by_word cause.Header (pairs_line_taken stage.Pairs (begun h) line) fields ≡ last_taken (begun h) line
by_fields h next line [] taken = cc
by_fields h next line (first ∷ fields) taken = no_pair_line h next line first fields (bytes_eq first (codes "pair")) refl taken

pub header_line_same : (h next : Heading) (line : List ℕ) → is_start h.place ≡ false → heading_is_whole h ≡ false → heading_after h line ≡ Ok next → pairs_heading_after (only_pair h) line ≡ Ok (only_pair next)
header_line_same h next line started more taken =
    let fields : fields_taken h (fields_of line) ≡ Ok next = ap (λ (b : Bool). if b then title_taken h line else fields_taken h (fields_of line)) (sym started) ∙ taken in
    let goes_on : stage_after h ≡ stage.Pairs = ap (λ (b : Bool). if b then stage.Done else stage.Pairs) more in
    ap (λ (s : PairsStage). pairs_heading_after (record { stage = s; before = []; last = h }) line) goes_on
    ∙ by_fields h next line (fields_of line) fields
    ∙ ap (λ (r : Result Heading LineCause). r >>= λ last. Ok (only_pair last)) taken

only_pairs : (h : Heading) → pairs_of (only_pair h) ≡ h ∷ []
only_pairs h = grind arith

pub event_line_same : (h : Heading) (line : List ℕ) (event : Event) → said_after kind.Pair h line ≡ Ok (said.Step event) → pairs_said_after (only_pair h) (codes "1 " ++ line) ≡ Ok (pairs_said.One 1 event)
event_line_same h line event k =
    ap (λ (hs : List Heading). pairs_line (map own_length hs) (map heading_profile hs) (codes "1 " ++ line)) (only_pairs h)
    ∙ subst (λ (digits : List ℕ). pairs_line (own_length h ∷ []) (heading_profile h ∷ []) (digits ++ 32 ∷ line) ≡ Ok (pairs_said.One 1 event)) (decimal_digit 1 (omega arith))
    (numbered_said (own_length h ∷ []) (heading_profile h ∷ []) 1 (own_length h) (heading_profile h) line event (omega arith) refl refl k)

pub last_line_same : (h : Heading) → pairs_said_after (only_pair h) (codes "end") ≡ Ok pairs_said.End
last_line_same h = ap (λ (hs : List Heading). pairs_line (map own_length hs) (map heading_profile hs) (codes "end")) (only_pairs h)
