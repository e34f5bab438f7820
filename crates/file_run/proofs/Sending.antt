-- What a run sent, and how it ends by that.
use Rattle.file_run.proofs.Common.{AppendedPart, BeginsReport, CutsReport, Ended, EndsAs, FailedWrite, Grew, IfSome, IfSome_then, InputOf, IsCutOff, IsPrefix, Loses, Option, OutputView, Outside, Passes, Reporting, Rose, Told, Writes, append-nil, common_steps, grew_none, grew_then, input_read, length-append}
use Rattle.std.proofs.Common.{◌≡◌, ℕ, ◌<◌, List, [], ◌++◌, length, arith, refl, ap, ◌∙◌, sym, subst, append_assoc, inl, inr}
use Rattle.fsoe_io.specs.declared.status.Status.TheVariants as status
pub use Rattle.file_run.specs.Running.{Sent}

pub sent_none : (w : Option (List ℕ)) (waiting : OutputView) → waiting.bytes ≡ [] → waiting.sent ≡ 0 → Sent w w waiting []
sent_none w waiting none sent = record { sent = []; sink = grew_none w; count = sent; whole = none }

-- a piece more
pub sent_piece : (w0 w1 w2 : Option (List ℕ)) (waiting now : OutputView) (text piece : List ℕ) → Sent w0 w1 waiting text → Passes waiting now w1 w2 piece now.bytes → Sent w0 w2 now (text ++ piece)
sent_piece w0 w1 w2 waiting now text piece s p = record {
  sent = s.sent ++ p.part;
  sink = grew_then w0 w1 w2 s.sent p.part s.sink p.grew;
  count = omega (arith, p.sent, s.count, length-append s.sent p.part);
  whole =
      append_assoc s.sent p.part now.bytes ∙ ap (λ (z : List ℕ). s.sent ++ z) (sym p.whole) ∙ sym (append_assoc s.sent waiting.bytes piece)
      ∙ ap (λ (z : List ℕ). z ++ piece) s.whole;
}

-- where the sink failed in a piece, a first part of the text went to it, and so many bytes were sent
pub piece_part : (w0 w1 w2 : Option (List ℕ)) (waiting now : OutputView) (text piece rest : List ℕ) (place : ℕ) → Sent w0 w1 waiting text → Loses waiting now w1 w2 piece rest → place ≡ now.sent → AppendedPart w0 w2 place (text ++ piece)
unfolding sent_piece
piece_part w0 w1 w2 waiting now text piece rest place s l at =
    let p = l.passes in
    let q = sent_piece w0 w1 w2 waiting (record { bytes = rest; sent = now.sent }) text piece s (record { part = p.part; grew = p.grew; whole = p.whole; sent = p.sent }) in
    record {
      part = q.sent;
      grew = q.sink;
      counts = at ∙ q.count;
      begins = (rest, sym q.whole);
      less = omega (arith, l.more, ap (length {A = ℕ}) q.whole, length-append q.sent rest);
    }

-- what waited was sent
pub sent_flushed : (w0 w1 w2 : Option (List ℕ)) (waiting now : OutputView) (text : List ℕ) → Sent w0 w1 waiting text → Passes waiting now w1 w2 [] now.bytes → Sent w0 w2 now text
sent_flushed w0 w1 w2 waiting now text s p = subst (Sent w0 w2 now) (append-nil text) (sent_piece w0 w1 w2 waiting now text [] s p)

-- where no piece was put
pub text_part : (w0 w1 w2 : Option (List ℕ)) (waiting now : OutputView) (text rest : List ℕ) (place : ℕ) → Sent w0 w1 waiting text → Loses waiting now w1 w2 [] rest → place ≡ now.sent → AppendedPart w0 w2 place text
text_part w0 w1 w2 waiting now text rest place s p at = subst (AppendedPart w0 w2 place) (append-nil text) (piece_part w0 w1 w2 waiting now text [] rest place s p at)

-- and where it failed at the end
pub cut_part : (w0 w1 : Option (List ℕ)) (waiting : OutputView) (text last : List ℕ) (result : Ended) (sink : Told) → Sent w0 w1 waiting text → IsCutOff waiting.sent (waiting.bytes ++ last) result (record sink { before = w1 })
    → AppendedPart w0 sink.after result.place (text ++ last)
cut_part w0 w1 waiting text last result sink s cut =
    let now : OutputView = record { bytes = []; sent = result.place } in
    let l : Loses waiting now w1 sink.after last cut.begins.0 = record {
      passes = record { part = cut.part; grew = cut.grew; whole = cut.begins.1; sent = cut.place_is };
      more = omega (arith, cut.less, ap (length {A = ℕ}) cut.begins.1, length-append cut.part cut.begins.0);
    } in
    piece_part w0 w1 sink.after waiting now text last cut.begins.0 result.place s l refl

-- all was sent
pub grew_written : (w0 w1 w2 : Option (List ℕ)) (waiting : OutputView) (text last : List ℕ) → Sent w0 w1 waiting text → Grew w1 w2 (waiting.bytes ++ last) → Grew w0 w2 (text ++ last)
grew_written w0 w1 w2 waiting text last h k = grind (arith, common_steps)

-- a first part of what begins a report begins it, and where it is shorter than that, the report is longer
cuts_part : {H L E : Type 0} (r : Reporting H L E) (input : InputOf H E) (part text : List ℕ) → IsPrefix part text → length part < length text → BeginsReport r input text → CutsReport r input part
cuts_part r input part text h k l = grind (arith, common_steps)

-- a whole report begins itself
pub begins_whole : {H L E : Type 0} (r : Reporting H L E) (input : InputOf H E) (ended : Ended) (text : List ℕ) → r.reports input ended text → BeginsReport r input text
begins_whole r input ended text report = (text, ended, report, ([], sym (append-nil text)))

-- a count rose since an earlier time, up to which it stayed
pub rose_since : (first before now : ℕ) → before ≡ first → Rose before now → Rose first now
rose_since first before now stayed rose = subst (λ (n : ℕ). Rose n now) stayed rose

-- a write failed
pub ends_write : {H L E : Type 0} (r : Reporting H L E) (o : Outside) (ended : Ended) (whole : List ℕ) → ended.status ≡ status.Write → AppendedPart o.sink.before o.sink.after ended.place whole
    → IfSome o.source.before (λ input. BeginsReport r (input_read r.format input) whole) → Rose o.sink.faults_before o.sink.faults_after → EndsAs r ended.status ended o
ends_write r o ended whole e p begins rose =
    let failed : FailedWrite r ended.place o = record {
      appended = (p.part, p.grew, p.counts);
      wrote = IfSome_then o.source.before begins (λ input begun. (p.part, p.grew, (p.counts, cuts_part r (input_read r.format input) p.part whole p.begins p.less begun)));
      cause = rose;
    } in
    rw e failed

-- a run that had written nothing ends as it is to, or a write failed at the end
pub ends_from_none : {H L E : Type 0} (r : Reporting H L E) (o : Outside) (last : List ℕ) (ended result : Ended) → Writes 0 last ended result o.sink → IfSome o.source.before (λ input. BeginsReport r (input_read r.format input) last)
    → (Grew o.sink.before o.sink.after last → EndsAs r ended.status ended o) → EndsAs r result.status result o
ends_from_none r o last ended result writes begins ends =
    elim writes [
      | inl whole ↦ subst (λ (x : Ended). EndsAs r x.status x o) (sym whole.0) (ends whole.1)
      | inr cut ↦ ends_write r o result last cut.status_is (record { part = cut.part; grew = cut.grew; counts = omega (arith, cut.place_is); begins = cut.begins; less = cut.less }) begins cut.cause
    ]
