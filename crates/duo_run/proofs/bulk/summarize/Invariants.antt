use Rattle.duo_run.proofs.Numbers.Summarizing.{AfterEvents}
use Rattle.duo_run.proofs.bulk.summarize.Given as goal

abbrev pub invariant-loop : goal.invariant-loop
invariant-loop l = AfterEvents l.number l.counter l.maker l.duo l.summary
