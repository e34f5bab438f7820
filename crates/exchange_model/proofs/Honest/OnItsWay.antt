-- A sealed frame on its way from one end to the other, whose chains agree. s sends it, r receives it, and u and v are
-- the deeds of both in their sessions.
use Rattle.exchange_model.proofs.Common.{Command, Deed, IsOtherThanNewest, NeighboursDiffer, Setup, command_byte, common_steps, count_crcs, count_groups, fits_session, frame_len, frame_of, groups, has_command, is_reset, kept, newest_crc, own, own_link, read_back, receives, seal, sends, taken, taken_link, takes_frame, with_crcs}
use Rattle.std.proofs.Common.{◌≡◌, ◌≢◌, ℕ, ◌+◌, ◌*◌, List, [], ◌∷◌, length, true, false, Option, Some, None, refl, sym, ap, ap₂, subst, ◌∙◌, arith, rules}
use Rattle.fsoe_base.specs.declared.command.Command.TheVariants as command
use Rattle.seq_chain.specs.declared.link.Link.{Link}
use Rattle.seq_chain.specs.Cover.{first_of}
use Rattle.seq_chain.specs.Sealing as sealing
use Rattle.param_load.specs.declared.entry.Move.TheVariants as move

-- a frame that was taken is the newest of these, or a Reset frame where there is none
abbrev pub IsNewestOf : List ℕ → List (List ℕ) → Type 0
IsNewestOf f [] = has_command command.Reset f ≡ true
IsNewestOf f (g ∷ frames) = f ≡ g

abbrev pub IsNewestIfAny : Option (List ℕ) → List (List ℕ) → Type 0
IsNewestIfAny None frames = Unit {0}
IsNewestIfAny (Some f) frames = IsNewestOf f frames

-- what a chain goes by
pub record Chained : Type 0 where
  pub sent : List (List ℕ)
  pub taken : List (List ℕ)
  pub kept : Option (List ℕ)
  pub own_link : Option Link
  pub taken_link : Option Link

-- what the chain of an end goes by after its deeds in a session: no other deed changes it
abbrev pub chained : Setup → List Deed → Chained
chained s u = record { sent = own u; taken = taken u; kept = kept u; own_link = own_link s u; taken_link = taken_link s u }

-- the newest frame of s, with the chain u, is on its way, and both chains agree but for it
pub record IsBetween (s r : Setup) (u v : Chained) (conn : ℕ) (c : Command) (load f : List ℕ) : Type 0 where
  pub tail : List ℕ
  pub head : f ≡ command_byte c ∷ tail
  pub older : List (List ℕ)
  pub newest : u.sent ≡ f ∷ older
  pub frame : frame_of (sends s) f ≡ sealing.sealed (newest_crc (sends r) v.sent) v.taken_link conn (command_byte c) load
  pub long : length f ≡ frame_len (sends s)
  pub is_new : v.kept ≢ Some f
  pub sent_link : u.own_link ≡ Some (sealing.noted (newest_crc (sends r) v.sent) v.taken_link (frame_of (sends s) f))
  pub answer_link : v.own_link ≡ u.taken_link
  pub answer_crc : newest_crc (sends r) v.sent ≡ newest_crc (receives s) u.taken
  pub answer_kept : IsNewestIfAny u.kept v.sent

abbrev pub OnItsWay : Setup → Setup → List Deed → List Deed → ℕ → Command → List ℕ → List ℕ → Type 0
OnItsWay s r u v conn c load f = IsBetween s r (chained s u) (chained r v) conn c load f

-- the frame passes the test of its CRCs
pub fits_on : (s r : Setup) (u v : List Deed) (conn : ℕ) (c : Command) (load f : List ℕ) → sends s ≡ receives r → OnItsWay s r u v conn c load f → fits_session r v (frame_of (receives r) f) ≡ true
fits_on s r u v conn c load f h k = search rules

-- the bytes of a frame
pub groups_long : (load crcs : List ℕ) → length crcs ≡ length (groups load) → length (with_crcs (groups load) crcs) ≡ length load + 2 * length (groups load)
groups_long [] crcs h = refl
groups_long (d ∷ []) (k ∷ []) h = refl
groups_long (d ∷ d' ∷ load) (k ∷ crcs) h = let e = groups_long load crcs (omega arith) in omega arith
groups_long (d ∷ _) _ h = absurd (omega arith)

pub sealed_long : (s : Setup) (e : List Deed) (conn : ℕ) (c : Command) (load : List ℕ) → length load ≡ sends s → length (seal s e conn c load) ≡ frame_len (sends s)
sealed_long s e conn c load h = grind (arith, common_steps, count_crcs, groups_long, count_groups)

-- nothing is of a session
pub record IsFresh (u : Chained) : Type 0 where
  pub none_sent : u.sent ≡ []
  pub none_taken : u.taken ≡ []
  pub none_kept : u.kept ≡ None
  pub no_own : u.own_link ≡ None
  pub no_taken : u.taken_link ≡ None

pub fresh : IsFresh (record { sent = []; taken = []; kept = None; own_link = None; taken_link = None })
fresh = record { none_sent = refl; none_taken = refl; none_kept = refl; no_own = refl; no_taken = refl }

abbrev pub Fresh : Setup → List Deed → Type 0
Fresh s u = IsFresh (chained s u)

-- the deed that takes a frame of a session and answers it
abbrev pub answering : List ℕ → Command → List ℕ → List ℕ → Deed
answering f c load g = record { what = move.Deliver f; did = takes_frame c load; sent = g }

taken-more : (f : List ℕ) (c : Command) (load g : List ℕ) (v : List Deed) → is_reset c ≡ false → taken (answering f c load g ∷ v) ≡ f ∷ taken v
taken-more f c load g v n = simp n

link-more : (r : Setup) (f : List ℕ) (c : Command) (load g : List ℕ) (v : List Deed) → is_reset c ≡ false
    → taken_link r (answering f c load g ∷ v) ≡ Some (sealing.noted (newest_crc (sends r) (own v)) (taken_link r v) (frame_of (receives r) f))
link-more r f c load g v n = simp n

pub head_on : (c : Command) → is_reset c ≡ false → has_command command.Reset (command_byte c ∷ []) ≡ false
head_on c h = grind arith

-- the next frame isn't the one that was taken last
newer : (l : ℕ) (o : Option (List ℕ)) (g : List ℕ) (frames : List (List ℕ)) → has_command command.Reset g ≡ false → IsOtherThanNewest l (first_of (frame_of l g).crcs) frames → IsNewestIfAny o frames → o ≢ Some g
newer l o g frames h k m = grind arith

-- the receiver takes the frame and seals its answer, which is then on its way
pub next_on_its_way : (s r : Setup) (u v : List Deed) (conn : ℕ) (c : Command) (load f : List ℕ) (conn' : ℕ) (c' : Command) (load' load'' : List ℕ) → sends s ≡ receives r → is_reset c ≡ false → is_reset c' ≡ false
    → length load' ≡ sends r → OnItsWay s r u v conn c load f
    → NeighboursDiffer (sends r) (own (answering f c load'' (seal r (answering f c load'' [] ∷ v) conn' c' load') ∷ v))
    → OnItsWay r s (answering f c load'' (seal r (answering f c load'' [] ∷ v) conn' c' load') ∷ v) u conn' c' load' (seal r (answering f c load'' [] ∷ v) conn' c' load')
next_on_its_way s r u v conn c load f conn' c' load' load'' k n n' h o differ =
    let g : List ℕ = seal r (answering f c load'' [] ∷ v) conn' c' load' in
    let same : first_of (frame_of (receives r) f).crcs ≡ newest_crc (sends s) (own u) = search (rules, first_of, sends, own) in
    let crc : (d : List ℕ) → newest_crc (receives r) (taken (answering f c load'' d ∷ v)) ≡ newest_crc (sends s) (own u) =
    λ d. ap (newest_crc (receives r)) (taken-more f c load'' d v n) ∙ same in
    record {
      tail = _;
      head = refl;
      older = own v;
      newest = refl;
      frame = read_back r (answering f c load'' [] ∷ v) conn' c' load' h
          ∙ ap₂ (λ (a : ℕ) (b : Option Link). sealing.sealed a b conn' (command_byte c') load') (crc []) o.answer_link;
      long = sealed_long r (answering f c load'' [] ∷ v) conn' c' load' h;
      is_new = newer (sends r) (kept u) g (own v) (head_on c' n') differ.0 o.answer_kept;
      sent_link = ap₂ (λ (a : ℕ) (b : Option Link). Some (sealing.noted a b (frame_of (sends r) g))) (crc g) o.answer_link;
      answer_link = o.sent_link ∙ (ap (λ l. Some (sealing.noted (newest_crc (sends r) (own v)) (taken_link r v) (frame_of l f))) k ∙ sym (link-more r f c load'' g v n));
      answer_crc = sym (crc g);
      answer_kept = subst (λ (frames : List (List ℕ)). IsNewestOf f frames) (sym o.newest) refl;
    }

-- an end takes a Reset frame and seals the first frame of a session, which is then on its way
pub first_on_its_way : (s r : Setup) (u v : List Deed) (f load : List ℕ) (conn' : ℕ) (c' : Command) (load' : List ℕ) → length load' ≡ sends s → has_command command.Reset f ≡ true → Fresh s u → Fresh r v
    → OnItsWay s r (answering f command.Reset load (seal s (answering f command.Reset load [] ∷ u) conn' c' load') ∷ u) v conn' c' load' (seal s (answering f command.Reset load [] ∷ u) conn' c' load')
first_on_its_way s r u v f load conn' c' load' h is a b =
    let crc : newest_crc (receives s) (taken u) ≡ newest_crc (sends r) (own v) = ap (newest_crc (receives s)) a.none_taken ∙ sym (ap (newest_crc (sends r)) b.none_sent) in
    let link : own_link s u ≡ taken_link r v = a.no_own ∙ sym b.no_taken in
    record {
      tail = _;
      head = refl;
      older = own u;
      newest = refl;
      frame = read_back s (answering f command.Reset load [] ∷ u) conn' c' load' h ∙ ap₂ (λ (a : ℕ) (b : Option Link). sealing.sealed a b conn' (command_byte c') load') crc link;
      long = sealed_long s (answering f command.Reset load [] ∷ u) conn' c' load' h;
      is_new = λ e. let none : Some (seal s (answering f command.Reset load [] ∷ u) conn' c' load') ≡ None = sym e ∙ b.none_kept in cc;
      sent_link = ap₂ (λ (a : ℕ) (b : Option Link). Some (sealing.noted a b (frame_of (sends s) (seal s (answering f command.Reset load [] ∷ u) conn' c' load')))) crc link;
      answer_link = b.no_own ∙ sym a.no_taken;
      answer_crc = sym crc;
      answer_kept = subst (λ (frames : List (List ℕ)). IsNewestOf f frames) (sym b.none_sent) is;
    }
