-- The parts of a frame by their places, and from its layout.
use Rattle.std.proofs.Common.{◌≡◌, ◌≢◌, ℕ, zero, suc, ◌+◌, ◌-◌, ◌*◌, ◌/◌, ◌%◌, ◌<◌, ◌≤◌, List, [], ◌∷◌, ◌++◌, length, take, drop, get_or, slice_index, slice_set, IsTrue, inl, inr, refl, sym, ap, ◌∙◌, arith, append_assoc, rules}
use Rattle.std.proofs.lemmas.Bool.{cases_eq}
use Rattle.std.proofs.lemmas.Bool.Decides.{nat_tests}
use Rattle.std.proofs.Math.Seq.{drop-append_seam, take-append_seam}
use Rattle.std.proofs.Common.{length-append, length-drop, append-nil}
use Rattle.std.proofs.lemmas.List.{drop_all, length-take-le, take_at}
use Rattle.std.specs.List.{refill}
use borrow.Rule.Slice.PartMut.{put_mid}
use Rattle.fsoe_base.specs.Lengths.{is_length, group_count, frame_len}
use Rattle.byteorder.specs.Endian.{little_bytes, little_number}
use Rattle.fsoe_base.specs.Bytes.{low_high}
use Rattle.fsoe_frame.specs.Layout.{groups, with_crcs, layout}
use Rattle.fsoe_frame.specs.Parts.{Frame, AreBytes, bytes_of, pairs, one_byte, add_group, frame_of}
use Rattle.std.proofs.lemmas.Grind.{common_steps}

-- what a valid length other than 1 is
even_length : (l : ℕ) → IsTrue (is_length l) → l ≢ 1 → (l % 2 ≡ 0) × (2 ≤ l) × (l ≤ 126)
even_length l h other = grind arith

-- what stands at the places of n pairs
pub record AtPlaces (command n : ℕ) (bytes : List ℕ) (f : Frame) : Type 0 where
  pub cmd_is : f.cmd ≡ command
  pub conn_is : f.conn ≡ little_number 2 (drop (4 * n) bytes)
  pub crc_is : (k : ℕ) → k < n → slice_index f.crcs k ≡ little_number 2 (drop (4 * k + 2) bytes)

past_four : (a b c d : ℕ) (bytes : List ℕ) (i j : ℕ) → j ≡ suc (suc (suc (suc i))) → drop j (a ∷ b ∷ c ∷ d ∷ bytes) ≡ drop i bytes
past_four a b c d bytes i j e = rw e refl

-- the places after one more group
more_places : (cmd n d d' c c' : ℕ) (bytes : List ℕ) (f : Frame) → AtPlaces cmd n bytes f → AtPlaces cmd (suc n) (d ∷ d' ∷ c ∷ c' ∷ bytes) (add_group d d' (c + 256 * c') f)
more_places cmd n d d' c c' bytes f h = record {
  cmd_is = h.cmd_is;
  conn_is = rw (past_four d d' c c' bytes (4 * n) (4 * suc n) (omega arith)) h.conn_is;
  crc_is = more_crcs n d d' c c' bytes f h.crc_is;
}
  where
    more_crcs : (n d d' c c' : ℕ) (bytes : List ℕ) (f : Frame) → ((k : ℕ) → k < n → slice_index f.crcs k ≡ little_number 2 (drop (4 * k + 2) bytes))
        → (k : ℕ) → k < suc n → slice_index ((c + 256 * c') ∷ f.crcs) k ≡ little_number 2 (drop (4 * k + 2) (d ∷ d' ∷ c ∷ c' ∷ bytes))
    more_crcs n d d' c c' bytes f h zero lt = omega arith
    more_crcs n d d' c c' bytes f h (suc k) lt =
        rw (past_four d d' c c' bytes (4 * k + 2) (4 * suc k + 2) (omega arith)) (h k (omega arith))

-- what holds of two bytes, and stays so with four bytes in front, holds of the bytes of n groups and a connection id
by_groups : (P : ℕ → List ℕ → Type 0) → ((k k' : ℕ) → P 0 (k ∷ k' ∷ [])) → ((n d d' c c' : ℕ) (bytes : List ℕ) → P n bytes → P (suc n) (d ∷ d' ∷ c ∷ c' ∷ bytes))
    → (n : ℕ) (bytes : List ℕ) → length bytes ≡ 4 * n + 2 → P n bytes
by_groups P last more zero (k ∷ k' ∷ []) h = last k k'
by_groups P last more (suc n) (d ∷ d' ∷ c ∷ c' ∷ bytes) h = more n d d' c c' bytes (by_groups P last more n bytes (omega arith))
by_groups P last more zero [] h = absurd (omega arith)
by_groups P last more zero (a ∷ []) h = absurd (omega arith)
by_groups P last more zero (a ∷ b ∷ c ∷ bytes) h = absurd (omega arith)
by_groups P last more (suc n) [] h = absurd (omega arith)
by_groups P last more (suc n) (a ∷ []) h = absurd (omega arith)
by_groups P last more (suc n) (a ∷ b ∷ []) h = absurd (omega arith)
by_groups P last more (suc n) (a ∷ b ∷ c ∷ []) h = absurd (omega arith)

pub pairs_places : (cmd n : ℕ) (bytes : List ℕ) → length bytes ≡ 4 * n + 2 → AtPlaces cmd n bytes (pairs cmd bytes)
pairs_places cmd =
    by_groups (λ n bytes. AtPlaces cmd n bytes (pairs cmd bytes)) (λ k k'. record { cmd_is = refl; conn_is = omega arith; crc_is = λ i lt. absurd (omega arith) })
    (λ n d d' c c' bytes at. more_places cmd n d d' c c' bytes (pairs cmd bytes) at)

-- a number of 16 bits from its two bytes
low_high_back : (n : ℕ) → n % 256 + 256 * (n / 256) ≡ n
low_high_back n = omega arith

pairs_layout : (cmd conn : ℕ) (n : ℕ) (load crcs : List ℕ) → length load ≡ 2 * n → length crcs ≡ n
    → pairs cmd (with_crcs (groups load) crcs ++ low_high conn) ≡ record { cmd = cmd; load = load; crcs = crcs; conn = conn }
pairs_layout cmd conn zero [] [] h k = rw (low_high_back conn) refl
pairs_layout cmd conn (suc n) (d ∷ d' ∷ load) (c ∷ crcs) h k = rw (low_high_back c, pairs_layout cmd conn n load crcs (omega arith) (omega arith)) refl
pairs_layout cmd conn zero (d ∷ load) crcs h k = absurd (omega arith)
pairs_layout cmd conn zero [] (c ∷ crcs) h k = absurd (omega arith)
pairs_layout cmd conn (suc n) [] crcs h k = absurd (omega arith)
pairs_layout cmd conn (suc n) (d ∷ []) crcs h k = absurd (omega arith)
pairs_layout cmd conn (suc n) (d ∷ d' ∷ load) [] h k = absurd (omega arith)

-- the parts of a frame at its places
pub record FrameAt (l : ℕ) (bytes : List ℕ) (f : Frame) : Type 0 where
  pub cmd_is : f.cmd ≡ slice_index bytes 0
  pub conn_is : f.conn ≡ little_number 2 (drop (length bytes - 2) bytes)

-- what holds of any five bytes holds of bytes that are five
of_five : (P : List ℕ → Type 0) → ((d c c' k k' : ℕ) → P (d ∷ c ∷ c' ∷ k ∷ k' ∷ [])) → (bytes : List ℕ) → length bytes ≡ 5 → P bytes
of_five P five (d ∷ c ∷ c' ∷ k ∷ k' ∷ []) h = five d c c' k k'
of_five P five [] h = absurd (omega arith)
of_five P five (x ∷ []) h = absurd (omega arith)
of_five P five (x ∷ y ∷ []) h = absurd (omega arith)
of_five P five (x ∷ y ∷ z ∷ []) h = absurd (omega arith)
of_five P five (x ∷ y ∷ z ∷ u ∷ []) h = absurd (omega arith)
of_five P five (x ∷ y ∷ z ∷ u ∷ v ∷ w ∷ more) h = absurd (omega arith)

pairs_at : (l b : ℕ) (bytes : List ℕ) → l % 2 ≡ 0 → length bytes ≡ 2 + 2 * l → FrameAt l (b ∷ bytes) (pairs b bytes)
pairs_at l b bytes even h =
    let at : AtPlaces b (l / 2) bytes (pairs b bytes) = pairs_places b (l / 2) bytes (omega arith) in
    let low : length (b ∷ bytes) - 2 ≡ suc (4 * (l / 2)) = omega arith in
    record { cmd_is = at.cmd_is; conn_is = rw low at.conn_is }

len_other : (l : ℕ) → l ≢ 1 → frame_len l ≡ 3 + 2 * l
len_other l h = grind arith

frame_of_other : (l b : ℕ) (bytes : List ℕ) → l ≢ 1 → frame_of l (b ∷ bytes) ≡ pairs b bytes
frame_of_other l b bytes h = grind arith

pub frame_at : (l : ℕ) (bytes : List ℕ) → IsTrue (is_length l) → length bytes ≡ frame_len l → FrameAt l bytes (frame_of l bytes)
frame_at l bytes h k = search (rules, frame_of_other, pairs_at, even_length, len_other)

pub crc_other : (l : ℕ) (bytes : List ℕ) (k : ℕ) → IsTrue (is_length l) → l ≢ 1 → length bytes ≡ frame_len l → k < group_count l
    → slice_index (frame_of l bytes).crcs k ≡ little_number 2 (drop (3 + 4 * k) bytes)
crc_other l [] k valid other h lt = absurd (let e = len_other l other in omega arith)
crc_other l (b ∷ bytes) k valid other h lt =
    let even : l % 2 ≡ 0 = (even_length l valid other).0 in
    let e : frame_len l ≡ 3 + 2 * l = len_other l other in
    let at : AtPlaces b (l / 2) bytes (pairs b bytes) = pairs_places b (l / 2) bytes (omega arith) in
    let low : 3 + 4 * k ≡ suc (4 * k + 2) = omega arith in
    rw (frame_of_other l b bytes other, low) (at.crc_is k (count_other l k other lt))
  where
    count_other : (l k : ℕ) → l ≢ 1 → k < group_count l → k < l / 2
    count_other l k other lt = grind (arith, nat_tests)

one_layout : (cmd conn : ℕ) (load crcs : List ℕ) → length load ≡ 1 → length crcs ≡ 1 → frame_of 1 (layout cmd load crcs conn) ≡ record { cmd = cmd; load = load; crcs = crcs; conn = conn }
one_layout cmd conn load crcs h k = grind (arith, common_steps)

count_even : (l : ℕ) → l ≢ 1 → group_count l ≡ l / 2
count_even l h = grind arith

-- a layout has the parts that it was made of
pub frame_layout : (cmd conn : ℕ) (load crcs : List ℕ) → IsTrue (is_length (length load)) → length crcs ≡ group_count (length load)
    → frame_of (length load) (layout cmd load crcs conn) ≡ record { cmd = cmd; load = load; crcs = crcs; conn = conn }
frame_layout cmd conn load crcs h k = search (rules, one_layout, pairs_layout)

drop_four : (bytes : List ℕ) (j : ℕ) → j + 3 < length bytes → drop j bytes ≡ get_or bytes j 0 ∷ get_or bytes (j + 1) 0 ∷ get_or bytes (j + 2) 0 ∷ get_or bytes (j + 3) 0 ∷ drop (j + 4) bytes
drop_four bytes j h = grind (arith, common_steps)

-- the next pair of the load
pub next_pair : (cmd : ℕ) (bytes : List ℕ) (i : ℕ) → 1 + 4 * i + 3 < length bytes
    → (pairs cmd (drop (1 + 4 * i) bytes)).load ≡ get_or bytes (1 + 4 * i) 0 ∷ get_or bytes (2 + 4 * i) 0 ∷ (pairs cmd (drop (1 + 4 * (i + 1)) bytes)).load
next_pair cmd bytes i h = search (rules, drop_four)

short_load : (cmd : ℕ) (bytes : List ℕ) → length bytes ≤ 2 → (pairs cmd bytes).load ≡ []
short_load cmd bytes h = grind arith

-- the load is read where two bytes are left
pub end_load : (cmd : ℕ) (bytes : List ℕ) (i : ℕ) → length bytes ≤ 1 + 4 * i + 2 → (pairs cmd (drop (1 + 4 * i) bytes)).load ≡ []
end_load cmd bytes i h = short_load cmd (drop (1 + 4 * i) bytes) (omega (arith, length-drop (1 + 4 * i) bytes))

pub other_load : (l : ℕ) (bytes : List ℕ) → l ≢ 1 → (frame_of l bytes).load ≡ (pairs (slice_index bytes 0) (drop 1 bytes)).load
other_load l bytes h = search rules

pub frame_len_other : (l : ℕ) → IsTrue (is_length l) → l ≢ 1 → (l % 2 ≡ 0) × (frame_len l ≡ 3 + 2 * l)
frame_len_other l valid other = ((even_length l valid other).0, len_other l other)

-- one more pair is read
pub reads_pair : (l : ℕ) (bytes out new whole : List ℕ) (i : ℕ) → IsTrue (is_length l) → l ≢ 1 → length bytes ≡ frame_len l → i < l / 2
    → out ++ (pairs (slice_index bytes 0) (drop (1 + 4 * i) bytes)).load ≡ whole
    → new ≡ out ++ get_or bytes (1 + 4 * i) 0 ∷ get_or bytes (2 + 4 * i) 0 ∷ []
    → new ++ (pairs (slice_index bytes 0) (drop (1 + 4 * (i + 1)) bytes)).load ≡ whole
reads_pair l bytes out new whole i valid other right lt e f =
    let len = frame_len_other l valid other in
    let room : 1 + 4 * i + 3 < length bytes = omega arith in
    let rest : List ℕ = (pairs (slice_index bytes 0) (drop (1 + 4 * (i + 1)) bytes)).load in
    ap (λ xs. xs ++ rest) f
    ∙ append_assoc out (get_or bytes (1 + 4 * i) 0 ∷ get_or bytes (2 + 4 * i) 0 ∷ []) rest
    ∙ sym (ap (λ xs. out ++ xs) (next_pair (slice_index bytes 0) bytes i room))
    ∙ e

-- all is read
pub reads_all : (l : ℕ) (bytes out : List ℕ) (i : ℕ) → IsTrue (is_length l) → l ≢ 1 → length bytes ≡ frame_len l → l / 2 ≤ i
    → out ++ (pairs (slice_index bytes 0) (drop (1 + 4 * i) bytes)).load ≡ (pairs (slice_index bytes 0) (drop 1 bytes)).load
    → out ≡ (frame_of l bytes).load
reads_all l bytes out i h k m n o = search (rules, end_load, other_load)

-- how many bytes and CRCs n pairs give
pairs_counts : (cmd n : ℕ) (bytes : List ℕ) → length bytes ≡ 4 * n + 2 → (length (pairs cmd bytes).load ≡ 2 * n) × (length (pairs cmd bytes).crcs ≡ n)
pairs_counts cmd =
    by_groups (λ n bytes. (length (pairs cmd bytes).load ≡ 2 * n) × (length (pairs cmd bytes).crcs ≡ n)) (λ k k'. (refl, refl))
    (λ n d d' c c' bytes more. (omega (arith, more.0), omega (arith, more.1)))

-- two bytes from the number that they make
low_high_of : (c c' : ℕ) → c < 256 → low_high (c + 256 * c') ≡ c ∷ c' ∷ []
low_high_of c c' h = grind arith

-- one more pair is laid out as it was read
more_bytes : (cmd d d' c c' : ℕ) (bytes : List ℕ) (f : Frame) → c < 256 → f.cmd ≡ cmd → bytes_of f ≡ cmd ∷ bytes → bytes_of (add_group d d' (c + 256 * c') f) ≡ cmd ∷ d ∷ d' ∷ c ∷ c' ∷ bytes
more_bytes cmd d d' c c' bytes f h k l = grind arith

-- n pairs are laid out as they were read
pairs_bytes : (cmd n : ℕ) (bytes : List ℕ) → length bytes ≡ 4 * n + 2 → ((pairs cmd bytes).cmd ≡ cmd) × (AreBytes bytes → bytes_of (pairs cmd bytes) ≡ cmd ∷ bytes)
pairs_bytes cmd =
    by_groups (λ n bytes. ((pairs cmd bytes).cmd ≡ cmd) × (AreBytes bytes → bytes_of (pairs cmd bytes) ≡ cmd ∷ bytes)) (λ k k'. (refl, λ are. rw (low_high_of k k' (are zero)) refl))
    (λ n d d' c c' bytes more. (more.0, λ are. more_bytes cmd d d' c c' bytes (pairs cmd bytes) (are (suc (suc zero))) more.0 (more.1 (λ i. are (suc (suc (suc (suc i))))))))

-- what a frame with l bytes of safe data comes to
pub record Whole (l : ℕ) (bytes : List ℕ) (f : Frame) : Type 0 where
  pub load : length f.load ≡ l
  pub crcs : length f.crcs ≡ group_count l
  pub back : AreBytes bytes → bytes_of f ≡ bytes

one_whole : (b : ℕ) (bytes : List ℕ) → length bytes ≡ 5 → Whole 1 (b ∷ bytes) (one_byte b bytes)
one_whole b =
    of_five (λ bytes. Whole 1 (b ∷ bytes) (one_byte b bytes)) (λ d c c' k k'. record {
      load = refl;
      crcs = refl;
      back = λ are.
          ap (λ xs. b ∷ d ∷ (xs ++ []) ++ low_high (k + 256 * k')) (low_high_of c c' (are (suc (suc zero))))
          ∙ ap (λ xs. b ∷ d ∷ c ∷ c' ∷ xs) (low_high_of k k' (are (suc (suc (suc (suc zero))))));
    })

pairs_whole : (l b : ℕ) (bytes : List ℕ) → l ≢ 1 → l % 2 ≡ 0 → length bytes ≡ 2 + 2 * l → Whole l (b ∷ bytes) (pairs b bytes)
pairs_whole l b bytes other even h =
    let right : length bytes ≡ 4 * (l / 2) + 2 = omega arith in
    let counts = pairs_counts b (l / 2) bytes right in
    record {
      load = omega (arith, counts.0);
      crcs = counts.1 ∙ sym (count_even l other);
      back = λ are. (pairs_bytes b (l / 2) bytes right).1 (λ i. are (suc i));
    }

pub whole : (l : ℕ) (bytes : List ℕ) → IsTrue (is_length l) → length bytes ≡ frame_len l → Whole l bytes (frame_of l bytes)
whole l [] valid h = absurd (positive l (sym h))
  where
    positive : (l : ℕ) → frame_len l ≡ 0 → ⊥
    positive l h = grind (arith, nat_tests)
whole l (b ∷ bytes) valid h =
    elim (cases_eq l 1) [
      | inl one ↦ rw one (one_whole b bytes (let e : frame_len l ≡ 6 = ap frame_len one in omega arith))
      | inr other ↦ rw (frame_of_other l b bytes other) (pairs_whole l b bytes other (even_length l valid other).0 (let e = len_other l other in omega arith))
    ]

-- the group of a CRC that a frame has, and its place among the bytes of pairs
pub group_of : (l : ℕ) (bytes : List ℕ) (f : Frame) (k : ℕ) → IsTrue (is_length l) → length bytes ≡ frame_len l → frame_of l bytes ≡ f → k < length f.crcs → k < group_count l
group_of l bytes f k valid right e lt = omega (arith, sym (ap (λ g. length g.crcs) e) ∙ (whole l bytes valid right).crcs)

pub crc_within : (l : ℕ) (bytes : List ℕ) (f : Frame) (k : ℕ) → IsTrue (is_length l) → length bytes ≡ frame_len l → frame_of l bytes ≡ f → l ≢ 1 → k < length f.crcs → 3 + 4 * k + 2 ≤ length bytes
crc_within l bytes f k valid right e other lt =
    omega (arith, group_of l bytes f k valid right e lt, frame_len_other l valid other, count_even l other)

pub crc_at_pairs : (l : ℕ) (bytes : List ℕ) (f : Frame) (k : ℕ) → IsTrue (is_length l) → length bytes ≡ frame_len l → frame_of l bytes ≡ f → l ≢ 1 → k < length f.crcs
    → little_number 2 (drop (3 + 4 * k) bytes) ≡ slice_index f.crcs k
crc_at_pairs l bytes f k valid right e other lt = sym (crc_other l bytes k valid other right (group_of l bytes f k valid right e lt)) ∙ ap (λ g. slice_index g.crcs k) e

-- the load of a frame is as long as a load can be, with a CRC for each group
pub loaded : (l : ℕ) (bytes out : List ℕ) (f : Frame) → IsTrue (is_length l) → length bytes ≡ frame_len l → frame_of l bytes ≡ f → out ≡ f.load
    → IsTrue (is_length (length out)) × (length f.crcs ≡ group_count (length out))
loaded l bytes out f h k m n = search (rules, whole)

-- the next pair of a load
pub pair_left : (load : List ℕ) (i : ℕ) → 2 * i + 1 < length load → drop (2 * i) load ≡ get_or load (2 * i) 0 ∷ get_or load (2 * i + 1) 0 ∷ drop (2 * (i + 1)) load
pair_left load i h = grind (arith, common_steps)

-- one more pair is written, with its CRC
pub writes_pair : (load crcs out new whole : List ℕ) (i : ℕ) → 2 * i + 1 < length load → i < length crcs
    → out ++ with_crcs (groups (drop (2 * i) load)) (drop i crcs) ≡ whole
    → new ≡ (out ++ get_or load (2 * i) 0 ∷ get_or load (2 * i + 1) 0 ∷ []) ++ low_high (get_or crcs i 0)
    → new ++ with_crcs (groups (drop (2 * (i + 1)) load)) (drop (i + 1) crcs) ≡ whole
writes_pair load crcs out new whole i h k l m = grind (arith, common_steps)

-- a CRC of pairs has its pair
pub pair_of_crc : (load crcs : List ℕ) (i : ℕ) → IsTrue (is_length (length load)) → length load ≢ 1 → length crcs ≡ group_count (length load) → i < length crcs → 2 * i + 1 < length load
pair_of_crc load crcs i valid other count lt = omega (arith, count_even (length load) other)

-- a part that is put after a front stands there
pub put_taken : (at next : ℕ) (out new piece post : List ℕ) → at ≤ length out → next ≡ at + length piece → new ≡ piece → take next (take at out ++ (new ++ post)) ≡ take at out ++ piece
put_taken at next out new piece post le end is =
    ap (λ xs. take next (take at out ++ (xs ++ post))) is
    ∙ ap (take next) (sym (append_assoc (take at out) piece post))
    ∙ take_at (take at out ++ piece) post next (omega (arith, length-append (take at out) piece, length-take-le at out le))

-- what `write_u16` puts in front of what stays
written : (n : ℕ) (new rest : List ℕ) → new ≡ little_bytes 2 n ++ rest → n < 65536 → new ≡ low_high n ++ rest
written n new rest h k = grind arith

-- a number that is written over the last two bytes
pub written_last : (n : ℕ) (new rest : List ℕ) → new ≡ little_bytes 2 n ++ rest → n < 65536 → length new ≤ 2 → new ≡ low_high n
written_last n new rest h k l = grind (arith, common_steps)

-- a number that is written after a front stands there
pub number_taken : (at next n : ℕ) (out new rest post : List ℕ) → new ≡ little_bytes 2 n ++ rest → n < 65536 → at ≤ length out → next ≡ at + 2
    → take next (take at out ++ (new ++ post)) ≡ take at out ++ low_high n
number_taken at next n out new rest post e fits le end =
    ap (λ xs. take next (take at out ++ (xs ++ post))) (written n new rest e fits)
    ∙ put_taken at next out (low_high n) (low_high n) (rest ++ post) le end refl

-- bytes over which as many are written
pub refilled : (old new : List ℕ) → length old ≡ length new → refill (length old) old new ≡ new
refilled old new same = take_at new (drop (length new) old) (length old) (sym same)

-- a first byte, and what is written after it up to the end, are all
pub after_first : (out last : List ℕ) (b : ℕ) → 0 < length out → put_mid 1 (length (slice_set out 0 b) - 1) (slice_set out 0 b) last ≡ b ∷ last
after_first (x ∷ out) last b some = ap (λ xs. b ∷ (last ++ xs)) (drop_all (length (b ∷ out) - 1) out (omega arith)) ∙ ap (λ xs. b ∷ xs) (append-nil last)
after_first [] last b some = absurd (omega arith)

-- the command byte, what is written after it up to a place, and what is written there up to the end are all
pub framed : (out middle last : List ℕ) (cmd end k k' : ℕ) → 0 < length out → end ≡ suc (length middle) → length out ≤ suc (k + k')
    → put_mid end k' (put_mid 1 k (slice_set out 0 cmd) middle) last ≡ cmd ∷ (middle ++ last)
framed (b ∷ out) middle last cmd end k k' some e room =
    let rest : List ℕ = drop k out in
    let long : length rest ≤ k' = omega (arith, length-drop k out) in
    ap (λ n. take n (cmd ∷ (middle ++ rest)) ++ (last ++ drop k' (drop n (cmd ∷ (middle ++ rest))))) e
    ∙ ap (λ xs. cmd ∷ (xs ++ (last ++ drop k' (drop (length middle) (middle ++ rest))))) (take-append_seam middle rest)
    ∙ ap (λ xs. cmd ∷ (middle ++ (last ++ drop k' xs))) (drop-append_seam middle rest)
    ∙ ap (λ xs. cmd ∷ (middle ++ (last ++ xs))) (drop_all k' rest long)
    ∙ ap (λ xs. cmd ∷ (middle ++ xs)) (append-nil last)
framed [] middle last cmd end k k' some e room = absurd (omega arith)

-- how many bytes the groups have with their CRCs
pub group_bytes : (l n count : ℕ) → IsTrue (is_length l) → n ≡ frame_len l → count ≡ group_count l → n ≡ 3 + (l + 2 * count)
group_bytes l n count h k m = grind arith
