-- The event of a script's line fits the connections.
use Rattle.plant_run.proofs.Common.{IfOk, IsSome, IsSomeAnd, Lengths, LineFits, None, Ok, Option, Some, bytes_said, eqb-true, fields_of, lengths_at, next_field, no_field, number_16, one_field, value_or}
use Rattle.std.proofs.Common.{◌≡◌, ℕ, ◌≤◌, List, [], ◌∷◌, ◌++◌, length, refl, sym, ap, subst, ◌∙◌, arith, length-append}
use Rattle.std.specs.List.{join_with_byte}
use Rattle.std.specs.Prelude.{◌==◌}
use Rattle.std.proofs.lemmas.List.Splits.{join_with_byte-slice_split}
use Rattle.fsoe_base.specs.LengthsOf.{length_of}
use Rattle.fsoe_base.specs.declared.command.End.TheVariants as side
use Rattle.fsoe_base.specs.declared.lengths.TheConstants.{MOST_DATA}
use Rattle.schedule_file.specs.EventLine.{switch_of}
use Rattle.schedule_file.specs.declared.line_buf.TheConstants.{MAX_LINE}
use Rattle.schedule_file.specs.declared.line_cause.LineCause.TheVariants as cause
use Rattle.schedule_file.proofs.Sound.{each, known, ok_if, worded, IfOk-every, IfOk-map}
use Rattle.plant_run.specs.ScriptLine.{end_of_letter, existing, link_and_switch, local_line, plant_nonce_line, plant_line, plant_said, plant_word_of, plant_put_line}
use Rattle.plant_run.specs.declared.script_line.PlantWord.{PlantWord}
use Rattle.plant_run.specs.declared.script_line.PlantWord.TheVariants as word

-- lengths that exist stand at their place
exists : (lengths : List Lengths) (link : ℕ) → IfOk (existing lengths link) (λ ends. lengths_at lengths link ≡ Some ends)
exists lengths link = grind arith

number_within : (text : List ℕ) → IfOk (number_16 text) (λ n. n ≤ 65535)
number_within text = grind arith

pub put_fits : (lengths : List Lengths) (fields : List (List ℕ)) → IfOk (plant_put_line lengths fields) (LineFits lengths)
put_fits lengths fields =
    each (next_field fields) _ _ (λ link. each (one_field link.1) _ _ (λ digits. each (number_16 link.0) _ _ (λ number.
    known (existing lengths number) _ _ _ (exists lengths number) (λ ends is. each (value_or cause.Hex (bytes_said MOST_DATA digits)) _ _ (λ bytes.
    ok_if (length bytes == length_of ends side.Slave) _ cause.Length _
    (λ e. subst (λ (o : Option Lengths). IsSomeAnd o (λ ends. length bytes ≡ length_of ends side.Slave)) (sym is) (eqb-true (length bytes) (length_of ends side.Slave) e)))))))

switch_exists : (lengths : List Lengths) (fields : List (List ℕ)) → IfOk (link_and_switch lengths fields) (λ said. IsSome (lengths_at lengths said.0))
switch_exists lengths fields =
    each (next_field fields) _ _ (λ link. each (one_field link.1) _ _ (λ switch. each (number_16 link.0) _ _ (λ number. each (value_or cause.Number (switch_of switch)) _ _ (λ on.
    known (existing lengths number) _ _ _ (exists lengths number) (λ ends is. rw is refl)))))

local_fits : (lengths : List Lengths) (fields : List (List ℕ)) → IfOk (local_line lengths fields) (LineFits lengths)
local_fits lengths fields =
    each (one_field fields) _ _ (λ link. each (number_16 link) _ _ (λ number. known (existing lengths number) _ _ _ (exists lengths number) (λ ends is. rw is refl)))

pub nonce_fits : (lengths : List Lengths) (fields : List (List ℕ)) → IfOk (plant_nonce_line lengths fields) (LineFits lengths)
nonce_fits lengths fields =
    each (next_field fields) _ _ (λ link. each (next_field link.1) _ _ (λ letter. each (one_field letter.1) _ _ (λ digits. each (number_16 link.0) _ _ (λ number.
    each (value_or cause.Number (end_of_letter letter.0)) _ _ (λ end. known (number_16 digits) _ _ _ (number_within digits) (λ id few. known (existing lengths number) _ _ _ (exists lengths number) (λ ends is. (rw is refl, few))))))))

said_fits : (lengths : List Lengths) (said : Option PlantWord) (fields : List (List ℕ)) → IfOk (plant_said lengths said fields) (LineFits lengths)
said_fits lengths None fields = tt
said_fits lengths (Some word.Tick) fields = IfOk-map (no_field fields) _ _ (IfOk-every (no_field fields) _ (λ none. tt))
said_fits lengths (Some word.Put) fields = put_fits lengths fields
said_fits lengths (Some word.Hold) fields = IfOk-map (link_and_switch lengths fields) _ _ (switch_exists lengths fields)
said_fits lengths (Some word.Local) fields = local_fits lengths fields
said_fits lengths (Some word.Nonce) fields = nonce_fits lengths fields
said_fits lengths (Some word.Cut) fields = IfOk-map (link_and_switch lengths fields) _ _ (switch_exists lengths fields)
said_fits lengths (Some word.App) fields = IfOk-map (one_field fields) _ _ (IfOk-every (one_field fields) _ (λ name. tt))
said_fits lengths (Some word.End) fields = IfOk-map (no_field fields) _ _ (IfOk-every (no_field fields) _ (λ none. tt))

pub all_fit : (lengths : List Lengths) (text : List ℕ) → IfOk (plant_line lengths text) (LineFits lengths)
all_fit lengths text = worded cause.Word (λ word. plant_said lengths (plant_word_of word)) (LineFits lengths) (λ first fields. said_fits lengths (plant_word_of first) fields) (fields_of text)

-- the name of an application is no longer than its line
pub name_fits : (line first name : List ℕ) (rest : List (List ℕ)) → length line ≤ MAX_LINE → fields_of line ≡ first ∷ rest → one_field rest ≡ Ok name → length name ≤ MAX_LINE
name_fits line first name (field ∷ []) most e is =
    let same : field ≡ name = cc in
    let whole : first ++ 32 ∷ field ≡ line = ap (join_with_byte 32) (sym e) ∙ join_with_byte-slice_split 32 line in
    omega (arith, most, ap (length {A = ℕ}) same, ap (length {A = ℕ}) whole, length-append first (32 ∷ field))
name_fits line first name _ most e is = absurd (cc is)
