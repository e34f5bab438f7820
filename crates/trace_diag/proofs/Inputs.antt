-- Inputs with traces: a header that is done has valid lengths, frames are from 1 to 255 bytes, and each input has a
-- report.
use Rattle.trace_diag.proofs.Common.{All-append, All-cons, All-head, All-nil, All-tail, AreBytes, AreOfBytes, AtEnd, DiagnosisStands, Difference, Ended, EndsWhole, InputCause, IsVerdict, Lengths, Noted, NotesFrame, Refused, ReportsSoFar, Stop, TraceHeading, TraceStands, TraceView, WholeHeaderOf, append-nil, first_difference, frame_said, header_in, header_read, header_step, trace_heading_new, input_by, input_read, is_length, judge_reporting, length-reverse, lengths_taken, line_taken, lines_of, refused_at, reverse-append, settings_told, trace_format, trace_heading_after, trace_is_whole, trace_line, trace_said}
use Rattle.std.proofs.Common.{◌≡◌, ◌<◌, ◌+◌, ◌-◌, ◌^◌, ℕ, List, [], ◌∷◌, ◌++◌, length, reverse, Bool, true, false, Option, Some, None, IfOk, IfSome, Result, Ok, Err, IsTrue, refl, sym, ap, subst, ◌∙◌, arith, if◌then◌else◌, rules}
use Rattle.std.specs.Str.{bytes_eq}
use Rattle.std.proofs.lemmas.Result.{IfOk-at_ok}
use Rattle.std.specs.Prelude.{codes}
use Rattle.hex.proofs.HexLemmas.{decode_of-ok}
use Rattle.hex.specs.Hex.{decode_of}
use Rattle.hex.specs.declared.error.FromHexError.{FromHexError}
use Rattle.fsoe_base.specs.declared.lengths.TheConstants.{MOST_FRAME}
use Rattle.schedule_file.proofs.Fitting.{input_is}
use Rattle.schedule_file.proofs.Headed.{either}
use Rattle.schedule_file.proofs.Sound.{IfOk-every, IfOk-map, lengths_sound}
use Rattle.schedule_file.specs.Field.{bytes_said, fields_of, some_bytes}
use Rattle.schedule_file.specs.Fields.{map_ok, by_word, no_field, value_or}
use Rattle.schedule_file.specs.HeaderLine.{lengths_line}
use Rattle.schedule_file.specs.declared.line_cause.LineCause.{LineCause}
use Rattle.schedule_file.specs.declared.line_cause.LineCause.TheVariants as cause
use Rattle.file_run.specs.Machine.{MayCome, TakesEvent, EndsReport}
use Rattle.file_run.specs.Report.{refused_line}
use Rattle.trace_diag.specs.Report.{ended_by, frames_line, verdict_lines, AreLengths, DiagnoseReports}
use Rattle.trace_diag.specs.declared.header.Stage.{Stage}
use Rattle.trace_diag.specs.declared.header.Stage.TheVariants as stage
use Rattle.trace_diag.specs.declared.trace_line.TraceLine.{TraceLine}
use Rattle.trace_diag.specs.declared.verdict.Verdict.{Verdict}
use Rattle.trace_diag.specs.declared.verdict.Verdict.TheVariants as verdict
use Rattle.trace_diag.proofs.Theorem.{conforms_where_none, differs_first}

-- valid lengths
abbrev AreValid : ℕ → ℕ → Type 0
AreValid master slave = IsTrue (is_length master) × IsTrue (is_length slave)

abbrev HasLengths : TraceHeading → Type 0
HasLengths h = AreValid h.master h.slave

line-holds : (at : Stage) (h : TraceHeading) (text word : List ℕ) (fields : List (List ℕ)) → HasLengths h → IfOk (line_taken at h text word fields) HasLengths
line-holds stage.Start h text word fields k = either (bytes_eq text (codes "fsoe 1 trace")) (Ok (record h { stage = stage.Title })) (Err cause.Header) HasLengths k tt
line-holds stage.Title h text word fields k =
    either (bytes_eq word (codes "lengths")) (map_ok lengths_taken (lengths_line fields)) (Err cause.Header) HasLengths (IfOk-map (lengths_line fields) lengths_taken HasLengths (lengths_sound fields)) tt
line-holds stage.Lengths h text word fields k =
    either (bytes_eq word (codes "go")) (map_ok (λ none. record h { stage = stage.Done }) (no_field fields)) (Err cause.Header) HasLengths
    (IfOk-map (no_field fields) (λ none. record h { stage = stage.Done }) HasLengths (IfOk-every (no_field fields) (λ none. HasLengths (record h { stage = stage.Done })) (λ none. k))) tt
line-holds _ h text word fields k = tt

fields-hold : (h : TraceHeading) (text : List ℕ) (fields : List (List ℕ)) → HasLengths h → IfOk (by_word cause.Header (line_taken h.stage h text) fields) HasLengths
fields-hold h text fields k = search (rules, line-holds)

-- a header that is done has valid lengths, and no input ends in its header
abbrev IsHeaded : Result (WholeHeaderOf TraceHeading) Stop → Type 0
IsHeaded (Ok headed) = HasLengths headed.heading
IsHeaded (Err AtEnd) = ⊥
IsHeaded (Err (Refused number why)) = Unit {0}

step-headed : (number : ℕ) (rest : List (Result (List ℕ) InputCause)) (go_on : TraceHeading → Result (WholeHeaderOf TraceHeading) Stop) (r : Result TraceHeading LineCause) → IfOk r HasLengths
    → ((h : TraceHeading) → HasLengths h → IsHeaded (go_on h)) → IsHeaded (header_step trace_is_whole number rest go_on r)
step-headed number rest go_on r k l = grind arith

headed-in : (number : ℕ) (h : TraceHeading) (lines : List (Result (List ℕ) InputCause)) → HasLengths h → IsHeaded (header_in trace_format number h lines)
headed-in number h (Ok text ∷ rest) k =
    step-headed number rest (λ next. header_in trace_format (number + 1) next rest) (trace_heading_after h text) (fields-hold h text (fields_of text) k) (λ next valid. headed-in (number + 1) next rest valid)
headed-in number h _ k = tt

-- frames of bytes are so in either order
reverse-bytes : (t : List Noted) → AreOfBytes t → AreOfBytes (reverse t)
reverse-bytes [] all = All-nil (λ x. AreBytes x.frame)
reverse-bytes (x ∷ t) all =
    subst AreOfBytes (sym (reverse-append (x ∷ []) t))
    (All-append (λ x. AreBytes x.frame) (reverse t) (x ∷ []) (reverse-bytes t (All-tail (λ x. AreBytes x.frame) x t all)) (All-cons (λ x. AreBytes x.frame) x [] (All-head (λ x. AreBytes x.frame) x t all) (All-nil (λ x. AreBytes x.frame))))

-- a verdict on each trace
verdict-on : (lengths : Lengths) (t : List Noted) (o : Option Difference) → first_difference lengths t ≡ o → (told : Verdict) × (AreOfBytes t → IsVerdict lengths t told)
verdict-on lengths t None e = (verdict.Conforms (settings_told lengths t), λ are. record { conforms = conforms_where_none lengths t are e; read_is = refl })
verdict-on lengths t (Some d) e = (verdict.Differs d.number d.field, λ are. differs_first lengths t d are e)

abbrev IfAtEnd : Option TraceHeading → Stop → Type 0
IfAtEnd None AtEnd = ⊥
IfAtEnd (Some h) AtEnd = HasLengths h
IfAtEnd said (Refused number why) = Unit {0}

report-of : (said : Option TraceHeading) (frames : List Noted) (stop : Stop) → IfAtEnd said stop → (report : List ℕ) × (ended : Ended) × (AreOfBytes frames → DiagnoseReports said frames stop ended report)
report-of None frames AtEnd k = absurd k
report-of (Some h) frames AtEnd k =
    let lengths : Lengths = record { master = h.master; slave = h.slave; valid_master = k.0; valid_slave = k.1 } in
    let t : List Noted = reverse frames in
    let told = verdict-on lengths t (first_difference lengths t) refl in (
      frames_line (length t) ++ verdict_lines told.0,
      ended_by told.0,
      λ are. (lengths, record { master = refl; slave = refl }, record { told = told.0; is_verdict = told.1 (reverse-bytes frames are); text_is = refl; ended_is = refl }),
    )
report-of _ frames (Refused number why) k = (refused_line number why, refused_at number, λ are. (refl, refl))

-- with lengths a header has a report however its input stops
whichever-stop : (h : TraceHeading) (stop : Stop) → HasLengths h → IfAtEnd (Some h) stop
whichever-stop h stop k = grind arith

by-header : (r : Result (WholeHeaderOf TraceHeading) Stop) → IsHeaded r → (report : List ℕ) × (ended : Ended) × judge_reporting.reports (input_by trace_format r) ended report
by-header (Ok headed) k = report-of (Some headed.heading) (input_by trace_format (Ok headed)).events (input_by trace_format (Ok headed)).stop (whichever-stop headed.heading (input_by trace_format (Ok headed)).stop k)
by-header (Err AtEnd) k = absurd k
by-header (Err (Refused number why)) k = (refused_line number why, refused_at number, λ are. (refl, refl))

-- each input has a report
pub some_report : (bytes : List ℕ) → (report : List ℕ) × (ended : Ended) × judge_reporting.reports (input_read trace_format bytes) ended report
some_report bytes = by-header (header_read trace_format bytes) (headed-in 1 trace_heading_new (lines_of bytes) (refl, refl))

valid-of : (h : TraceHeading) (lengths : Lengths) → AreLengths h lengths → HasLengths h
valid-of h lengths are = (subst (λ (n : ℕ). IsTrue (is_length n)) are.master lengths.valid_master, subst (λ (n : ℕ). IsTrue (is_length n)) are.slave lengths.valid_slave)

-- nothing is written before the end
pub so_far : (v : TraceView) (h : TraceHeading) (log : List Noted) (text : List ℕ) → DiagnosisStands v h log text → ReportsSoFar judge_reporting h log text
so_far v h log text s = record {
  begins = λ lines more stop.
      let report = report-of (Some h) (log ++ more) stop (whichever-stop h stop (valid-of h s.lengths s.lengths_are)) in
      (report.0, report.1, report.2, (report.0, ap (λ (t : List ℕ). t ++ report.0) (sym s.unwritten)));
  refused = λ lines number why are. (ap (λ (t : List ℕ). t ++ refused_line number why) s.unwritten, refl);
}

-- one more frame is noted
pub takes_frame : (old new : TraceView) (x : Noted) (number : ℕ) (piece : List ℕ) → NotesFrame old x new → piece ≡ [] → TakesEvent (DiagnosisStands old) (DiagnosisStands new) x number piece
takes_frame old new x number piece notes none = record {
  takes = λ h log text count s.
      record {
        lengths = s.lengths;
        lengths_are = s.lengths_are;
        stands = subst (λ (t : List Noted). TraceStands s.lengths t new) (sym (reverse-append log (x ∷ []))) (notes.stands s.lengths (reverse log) s.stands);
        unwritten = ap (λ (piece : List ℕ). text ++ piece) none ∙ (append-nil text ∙ s.unwritten);
      };
}

-- there is room for one frame more
pub few_noted : (v : TraceView) (x : Noted) (number : ℕ) → MayCome (DiagnosisStands v) trace_format x number → v.frames < 2 ^ 64 - 1
few_noted v x number m = omega (arith, length-reverse m.log)

-- the whole report of the frames that were noted
pub close_ends : (v : TraceView) (h : TraceHeading) (log : List Noted) (text piece : List ℕ) (events : ℕ) (told : Verdict) (ended : Ended) → length log ≡ events → DiagnosisStands v h log text
    → ((lengths : Lengths) (t : List Noted) → TraceStands lengths t v → IsVerdict lengths t told) → piece ≡ frames_line events ++ verdict_lines told → ended ≡ ended_by told → EndsReport judge_reporting h log (text ++ piece) ended
close_ends v h log text piece events told ended count s is-verdict is ends lines are = (
  s.lengths,
  s.lengths_are,
  record {
    told = told;
    is_verdict = is-verdict s.lengths (reverse log) s.stands;
    text_is = ap (λ (t : List ℕ). t ++ piece) s.unwritten ∙ (is ∙ ap (λ (n : ℕ). frames_line n ++ verdict_lines told) (sym count ∙ sym (length-reverse log)));
    ended_is = ends;
  },
)

pub close_whole : (v : TraceView) (h : TraceHeading) (log : List Noted) (text : List ℕ) (told : Verdict) (ended : Ended) → DiagnosisStands v h log text → ((lengths : Lengths) (t : List Noted) → TraceStands lengths t v → IsVerdict lengths t told) → ended ≡ ended_by told
    → EndsWhole true ended.status ended.place
close_whole v h log text told ended k l m = grind arith

-- the frame that a line says is one of bytes
some-bytes-are : (text bytes : List ℕ) (b : Bool) → decode_of text ≡ Ok bytes → IfOk (value_or cause.Hex (if b then Some bytes else None)) AreBytes
some-bytes-are text bytes true e = (decode_of-ok text bytes e).3
some-bytes-are text bytes false e = tt

field-bytes : (text : List ℕ) (r : Result (List ℕ) FromHexError) → decode_of text ≡ r → IfOk (value_or cause.Hex (some_bytes MOST_FRAME r)) AreBytes
field-bytes text r h = search (rules, some-bytes-are)

line-bytes : (fields : List (List ℕ)) → ((text : List ℕ) → IfOk (value_or cause.Hex (bytes_said MOST_FRAME text)) AreBytes) → IfOk (by_word cause.Word trace_said fields) (λ line. IfSome (frame_said line) (λ x. AreBytes x.frame))
line-bytes fields h = grind arith

frame-bytes : (h : TraceHeading) (text : List ℕ) (line : TraceLine) (x : Noted) → trace_line text ≡ Ok line → frame_said line ≡ Some x → AreBytes x.frame
frame-bytes h text line x says is =
    subst (λ (o : Option Noted). IfSome o (λ x. AreBytes x.frame)) is
    (IfOk-at_ok (λ line. IfSome (frame_said line) (λ x. AreBytes x.frame)) says (line-bytes (fields_of text) (λ field. field-bytes field (decode_of field) refl)))

any-bytes : (r : Result (WholeHeaderOf TraceHeading) Stop) → IfSome (input_by trace_format r).heading (λ h. AreOfBytes (input_by trace_format r).events) → AreOfBytes (input_by trace_format r).events
any-bytes (Ok whole) h = h
any-bytes (Err stop) h = All-nil (λ x. AreBytes x.frame)

-- the frames of an input are bytes
pub input_bytes : (bytes : List ℕ) → AreOfBytes (input_read trace_format bytes).events
input_bytes bytes = any-bytes (header_read trace_format bytes) (input_is trace_format (λ h x. AreBytes x.frame) frame-bytes (header_read trace_format bytes))
