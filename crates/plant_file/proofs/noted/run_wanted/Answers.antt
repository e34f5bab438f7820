use Rattle.plant_file.proofs.noted.run_wanted.Goals as goal

pub returns-in-Report-clause-ran : goal.returns-in-Report-clause-ran
returns-in-Report-clause-ran g c = rw c.in-Report.is c.run_plant.ensures.ran

pub returns-in-Journal-clause-ran : goal.returns-in-Journal-clause-ran
returns-in-Journal-clause-ran g c =
    rw c.in-Journal.is (record {
      ends = c.run_plant-ended.result;
      ran = c.run_plant-ended.ensures.ran;
      wrote = rw c.steps.ensures at c.write_journal.ensures.wrote;
      later = c.write_journal.ensures.later;
    })
