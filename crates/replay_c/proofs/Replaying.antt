-- What a run over a text leaves in memory that was told to be written.
use Rattle.std.proofs.Common.{◌≡◌, ℕ, List, [], ◌++◌, arith, ap, sym, ◌∙◌, subst}
use Rattle.std.specs.Prelude.{Some}
use Rattle.std.specs.declared.option.Option.{Option}
use Rattle.fsoe_io.specs.declared.status.Ended.{Ended}
use Rattle.fsoe_io.specs.declared.status.Status.{Status}
use Rattle.fsoe_io.specs.declared.status.Status.TheVariants as status
use Rattle.schedule_file.specs.Input.{input_of}
use Rattle.schedule_file.specs.declared.header_kind.HeaderKind.TheVariants as kind
use Rattle.file_run.specs.Outside.{Outside}
use Rattle.file_run.specs.Ran.{EndsAs}
use Rattle.duo_run.specs.Replay.{RanPair, replay_reporting}
use Rattle.replay_c.specs.Replayed.{Replayed, WrittenWith}
use Rattle.replay_c.specs.Told.{told}
use Rattle.replay_c.proofs.Told.{TellsMore, told_more}

-- a text that never fails, and memory that told this before and tells that now, with as many refusals
abbrev pub outside : (text : List ℕ) (left : Option (List ℕ)) (before now : List ℕ) (refusals refusals' : ℕ) → Outside
outside text left before now refusals refusals' = record {
  source = record { before = Some text; after = left; faults_before = 0; faults_after = 0 };
  sink = record { before = Some before; after = Some now; faults_before = refusals; faults_after = refusals' };
}

-- what was written between two tellings
record Written (status : Status) (ended : Ended) (text before now : List ℕ) : Type 0 where
  piece : List ℕ
  grew : now ≡ before ++ piece
  written : WrittenWith status (input_of kind.Pair text) ended piece

written_by : (status : Status) (ended : Ended) (text : List ℕ) (left : Option (List ℕ)) (before now : List ℕ) (refusals refusals' : ℕ) → EndsAs replay_reporting status ended (outside text left before now refusals refusals')
    → Written status ended text before now
written_by status.Ok ended text left before now m n e = record { piece = e.wrote.0; grew = e.wrote.1; written = e.wrote.2 }
written_by status.Other ended text left before now m n e = record { piece = e.wrote.0; grew = e.wrote.1; written = e.wrote.2 }
written_by status.Line ended text left before now m n e = record { piece = e.wrote.0; grew = e.wrote.1; written = e.wrote.2 }
written_by status.Write ended text left before now m n e = record { piece = e.wrote.0; grew = e.wrote.1; written = e.wrote.2 }
written_by status.Read ended text left before now m n e = absurd (omega (arith, e.cause (λ z. omega (arith, z))))
written_by status.Memory ended text left before now m n e = absurd e.takes
written_by status.Usage ended text left before now m n e = absurd e
written_by status.Config ended text left before now m n e = absurd e
written_by status.Desk ended text left before now m n e = absurd e

-- what a run leaves of memory to which nothing had been written
pub record LeavesMemory (text : List ℕ) (ended : Ended) (name : ℕ) (before : List ℕ) (name' : ℕ) (before' written : List ℕ) : Type 0 where
  pub name_is : name' ≡ name
  pub before_is : before' ≡ before
  pub replayed : Replayed text ended written

pub leaves_memory : (text : List ℕ) (ended : Ended) (left : Option (List ℕ)) (name : ℕ) (before none : List ℕ) (name' : ℕ) (before' written : List ℕ) (refusals refusals' : ℕ) → none ≡ []
    → RanPair ended (outside text left (told name before none) (told name' before' written) refusals refusals') → LeavesMemory text ended name before name' before' written
leaves_memory text ended left name before none name' before' written refusals refusals' empty ran =
    let w : Written ended.status ended text (told name before none) (told name' before' written) = written_by ended.status ended text left (told name before none) (told name' before' written) refusals refusals' ran.run.ends in
    let more : TellsMore name before none name' before' written w.piece = told_more name before none name' before' written w.piece w.grew in
    let is : written ≡ w.piece = more.written_is ∙ ap (λ (z : List ℕ). z ++ w.piece) empty in
    record {
      name_is = more.name_is;
      before_is = more.before_is;
      replayed = subst (λ (z : List ℕ). Replayed text ended z) (sym is) w.written;
    }
