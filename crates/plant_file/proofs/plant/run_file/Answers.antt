use Rattle.std.proofs.Common.{refl, rules}
use Rattle.std.specs.Prelude.{Ok, Err}
use Rattle.fsoe_io.specs.declared.desk.LoadFault.TheVariants as load
use Rattle.plant_conf.specs.declared.fault.ConfFault.TheVariants as fault
use Rattle.plant_file.specs.Noted.{RanWanted}
use Rattle.plant_file.proofs.SetUp.{text_refused}
use Rattle.plant_file.proofs.plant.run_file.Goals as goal

pub returns-in-Ok-read_conf-clause-ran : goal.returns-in-Ok-read_conf-clause-ran
returns-in-Ok-read_conf-clause-ran g c = record {
  answer = Ok c.in-Ok.text.items;
  may = (c.in-Ok.ensures.bytes, c.in-Ok.ensures.within, c.in-Ok.ensures.stayed refl);
  ran = (Ok c.in-Ok-read_conf.conf, rw c.as_slice.ensures.value at c.in-Ok-read_conf.ensures.reads, c.run_conf.ensures.ran);
  later = c.in-Ok.ensures.later;
}

pub returns-in-Err-Memory-read_conf-clause-ran : goal.returns-in-Err-Memory-read_conf-clause-ran
returns-in-Err-Memory-read_conf-clause-ran g c = record {
  answer = Ok c.in-Ok.text.items;
  may = (c.in-Ok.ensures.bytes, c.in-Ok.ensures.within, c.in-Ok.ensures.stayed refl);
  ran = (Err fault.Memory, (λ other. absurd (other refl)), search rules);
  later = c.in-Ok.ensures.later;
}

pub returns-in-Ok-clause-ran : goal.returns-in-Ok-clause-ran
returns-in-Ok-clause-ran g c = record {
  answer = Ok c.in-Ok.text.items;
  may = (c.in-Ok.ensures.bytes, c.in-Ok.ensures.within, c.in-Ok.ensures.stayed refl);
  ran = (Err c.in-Err.why, rw c.as_slice.ensures.value at c.in-Err.ensures.refuses, text_refused (RanWanted c.args.wanted) c.in-Err.why _ _ _ (search rules) (search rules));
  later = c.in-Ok.ensures.later;
}

pub returns-in-Err-Failed-clause-ran : goal.returns-in-Err-Failed-clause-ran
returns-in-Err-Failed-clause-ran g c =
    let told = rw c.in-Err-Failed.field-0-is at c.in-Err-Failed.ensures in
    record { answer = Err load.Failed; may = told.cause refl; ran = search rules; later = told.later }

pub returns-in-Err-TooLong-clause-ran : goal.returns-in-Err-TooLong-clause-ran
returns-in-Err-TooLong-clause-ran g c =
    let told = rw c.in-Err-TooLong.field-0-is at c.in-Err-TooLong.ensures in
    record { answer = Err load.TooLong; may = (told.too_long refl, told.stayed refl); ran = search rules; later = told.later }

pub returns-clause-ran : goal.returns-clause-ran
returns-clause-ran g c =
    let told = rw c.in-Err-Memory.field-0-is at c.in-Err-Memory.ensures in
    record { answer = Err load.Memory; may = told.stayed refl; ran = search rules; later = told.later }
