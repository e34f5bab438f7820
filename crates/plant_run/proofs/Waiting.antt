-- The lines of the connections and of the bounds that wait.
use Rattle.plant_run.proofs.Common.{Act, Beginning, BoundSpec, IsSomeAnd, JournalStep, LinkConf, None, Option, PlantLine, PlantStands, PlantView, RunStands, RunView, ScriptHeading, ShowsBound, ShowsPair, Some, Terms, ChannelTold, Watched, broken_of, codes, decimal, heard_of, limit_of, line_by, lines_by, link_at, link_line, link_lines, made_count, end_outputs, pair, same_count, slice_get_within, state_at, view_of, watched_after}
use Rattle.std.proofs.Common.{◌≡◌, ◌≤◌, ℕ, suc, List, [], ◌∷◌, ◌++◌, drop, length, slice_get, refl, sym, ap, subst, ◌∙◌, arith, rules}
use Rattle.std.proofs.Math.Seq.{drop-cons}
use Rattle.std.proofs.lemmas.List.{drop_all}
use Rattle.std.proofs.lemmas.Option.{get_or_from_slice_get}
use Rattle.hex.specs.Hex.{encode_lower}
use Rattle.reaction_bound.specs.Reaction as reaction
use Rattle.plant_run.proofs.Hearing.{bound_at}
use Rattle.fsoe_base.specs.Command.{state_name}
use Rattle.fsoe_base.specs.declared.command.End.TheVariants as side
use Rattle.fsoe_base.specs.declared.command.State.{State}
use Rattle.param_load.specs.declared.entry.Entry.{Entry}

-- the text of an end
abbrev pub end_by : State → List ℕ → List ℕ
end_by state outputs = codes " " ++ state_name state ++ codes " " ++ encode_lower outputs

link_by : (o : Option LinkConf) (k : ℕ) (w : LinkConf → List Entry) (ms ss : State) (mo so text : List ℕ) → IsSomeAnd o (λ l. ms ≡ state_at l side.Master (w l)) → IsSomeAnd o (λ l. mo ≡ end_outputs l side.Master (w l))
    → IsSomeAnd o (λ l. ss ≡ state_at l side.Slave (w l)) → IsSomeAnd o (λ l. so ≡ end_outputs l side.Slave (w l)) → text ≡ ((decimal k ++ end_by ms mo) ++ end_by ss so) ++ codes "\n" → IsSomeAnd o (λ l. text ≡ link_line l k (w l))
link_by o k w ms ss mo so text h l m n p = grind arith

pub line_shown : (v : PlantView) (k : ℕ) (ms ss : State) (mo so text : List ℕ) → ShowsPair v k ms (λ l w. state_at l side.Master w) → ShowsPair v k mo (λ l w. end_outputs l side.Master w) → ShowsPair v k ss (λ l w. state_at l side.Slave w)
    → ShowsPair v k so (λ l w. end_outputs l side.Slave w) → text ≡ ((decimal k ++ end_by ms mo) ++ end_by ss so) ++ codes "\n" → ShowsPair v k text (λ l w. link_line l k w)
line_shown v k ms ss mo so text a b c d is = record {
  shows = λ begins acts h.
      link_by (link_at begins.links k) k (λ l. pair l k v.journal) ms ss mo so text (a.shows begins acts h) (b.shows begins acts h) (c.shows begins acts h) (d.shows begins acts h) is;
}

drop_at : {X : Type 0} (xs : List X) (place : ℕ) (x : X) → slice_get xs place ≡ Some x → drop place xs ≡ x ∷ drop (suc place) xs
drop_at {X = X} xs place x e = drop-cons xs place x (slice_get_within xs place x e) ∙ ap (λ (y : X). y ∷ drop (suc place) xs) (get_or_from_slice_get xs place x x e)

-- the line of the next connection is the first part of what waits, and the rest waits on
link_part : (o : Option LinkConf) (links : List LinkConf) (place : ℕ) (text : List ℕ) (steps : List JournalStep) → slice_get links place ≡ o → IsSomeAnd o (λ l. text ≡ link_line l (suc place) (pair l (suc place) steps))
    → link_lines (suc place) (drop place links) steps ≡ text ++ link_lines (suc (suc place)) (drop (suc place) links) steps
link_part None links place text steps at h = absurd h
link_part (Some l) links place text steps at h =
    ap (λ (z : List LinkConf). link_lines (suc place) z steps) (drop_at links place l at)
    ∙ ap (λ (z : List ℕ). z ++ link_lines (suc (suc place)) (drop (suc place) links) steps) (sym h)

pub part_shown : (b : Beginning) (acts : List Act) (v : PlantView) (place next : ℕ) (links : List LinkConf) (text : List ℕ) → PlantStands b v acts → links ≡ b.links → ShowsPair v next text (λ conf w. link_line conf next w) → next ≡ suc place
    → link_lines (suc place) (drop place links) v.journal ≡ text ++ link_lines (suc next) (drop next links) v.journal
part_shown b acts v place next links text stands same shows number =
    rw (same, number) (link_part (slice_get b.links place) b.links place text v.journal refl (subst (λ (n : ℕ). IsSomeAnd (link_at b.links n) (λ l. text ≡ link_line l n (pair l n v.journal))) number (shows.shows b acts stands)))

-- none waits after the last
pub links_done : {t : Terms} {before : ChannelTold} {now : RunView} {count : ℕ} {h : ScriptHeading} {log : List PlantLine} {text : List ℕ} {place most : ℕ} {links : List LinkConf} → RunStands t before now count h log text → links ≡ t.begins.links → most ≡ length now.plant.links → most ≤ place → link_lines (suc place) (drop place links) now.plant.journal ≡ []
links_done k l m n = search (rules, same_count, made_count, drop_all)

-- the line of the next bound is the first part of what waits, and the rest waits on
pub bound_part : (b : Beginning) (acts : List Act) (v : PlantView) (links : List LinkConf) (bounds : List BoundSpec) (watched : List Watched) (place next : ℕ) (w : Watched) (broken : Option ℕ) (text : List ℕ) → PlantStands b v acts → links ≡ b.links
    → watched ≡ watched_after b acts bounds → slice_get watched place ≡ Some w → ShowsBound v w.bound w.limit broken text → ((limit : ℕ) (heard : List reaction.Heard) → w.reaction ≡ view_of limit heard → broken ≡ broken_of limit heard) → next ≡ suc place
    → lines_by links v.journal (drop place watched) ≡ text ++ lines_by links v.journal (drop next watched)
bound_part b acts v links bounds watched place next w broken text h same are at shows tells number =
    let is = (bound_at b.links (λ bound. heard_of b bound acts) bounds place w (ap (λ (ws : List Watched). slice_get ws place) (sym are) ∙ at)).2 in
    let late : broken ≡ w.reaction.broken = tells (limit_of b.links w.bound) (heard_of b w.bound acts) (ap (λ (z : Watched). z.reaction) is) ∙ sym (ap (λ (z : Watched). z.reaction.broken) is) in
    rw (same, number)
    (ap (lines_by b.links v.journal) (drop_at watched place w at)
    ∙ ap (λ (z : List ℕ). z ++ lines_by b.links v.journal (drop (suc place) watched))
    (ap (line_by b.links v.journal w.bound) (sym late) ∙ sym (shows.shows b acts h (ap (λ (z : Watched). z.limit) is))))
