-- What a bulk run reports.
use Rattle.duo_run.proofs.Common.{Ended, Entry, Fair, IsWorld, Summary, Told, Writes, before_is_clean, before_is_world, before_other, ended_with, bulk_entries, fair_world, first_other, made_lengths, made_master, made_slave, number_line, other_line, report_of, summary_lines, summary_of}
use Rattle.std.proofs.Common.{◌≡◌, ℕ, List, ◌++◌, Option, ap, ap₂, subst, ◌∙◌, rules}

pub bulk_wrote : (number events : ℕ) (summary : Summary) (other : Option ℕ) (ended result : Ended) (text : List ℕ) (sink : Told) → summary ≡ summary_of (bulk_entries number events) → other ≡ first_other (bulk_entries number events)
    → text ≡ number_line number events ++ summary_lines summary ++ other_line other → ended ≡ ended_with other → Writes 0 text ended result sink
    → Writes 0 (report_of number events (bulk_entries number events)) (ended_with (first_other (bulk_entries number events))) result sink
bulk_wrote number events summary other ended result text sink tells first is ends writes =
    let w : List Entry = bulk_entries number events in
    subst (λ (ended : Ended). Writes 0 (report_of number events w) ended result sink) (ends ∙ ap ended_with first)
    (subst (λ (text : List ℕ). Writes 0 text ended result sink) (is ∙ ap₂ (λ (s : Summary) (o : Option ℕ). number_line number events ++ summary_lines s ++ other_line o) tells first) writes)

pub entries_fair : (number events : ℕ) → IsWorld made_master made_slave (bulk_entries number events) → Fair made_lengths (before_other (bulk_entries number events))
entries_fair number events h = search (rules, fair_world, before_is_world, before_is_clean)
