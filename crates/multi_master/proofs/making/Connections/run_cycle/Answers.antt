use Rattle.multi_master.proofs.Common.{MasterView, due_in, own_len, settings_in}
use Rattle.std.proofs.Common.{◌≡◌, List, length, map, refl, sym, ap, ◌∙◌, arith, rules}
use Rattle.multi_master.proofs.Keeping.{same_lens, written_back}
use Rattle.multi_master.proofs.making.Connections.run_cycle.Goals as goal

pub put_answers-requires-clause-fits : goal.put_answers-requires-clause-fits
put_answers-requires-clause-fits g c = search (rules, written_back)

pub returns : goal.returns
returns g c =
    let masters : List MasterView = c.args.self.now.masters.items in
    let outputs = written_back c.cycle.new.outputs c.args.self.now.answers.items c.args.self.now.answers.len (cc) (cc) in
    let put = written_back c.put_answers.new.masters masters c.args.self.now.masters.len (cc) (cc) in
    let lens : map length c.as_mut_slice.result.now ≡ map own_len masters = ap (map length) c.as_mut_slice.ensures.value ∙ c.requires.fits in
    let settings : map settings_in c.put_answers.new.masters ≡ map settings_in masters = c.put_answers.ensures.settings ∙ ap (map settings_in) c.as_mut_slice-2.ensures.value in
    let holds = rw (c.as_slice.ensures.value, lens) at c.cycle.ensures.holds in
    let answers = rw (c.as_slice.ensures.value, lens) at c.cycle.ensures.answers in
    rw (put, outputs) (record {
      runs = record {
        app_is = grind arith;
        guarded = rw (← answers) (rw c.as_slice.ensures.value at c.cycle.ensures.guarded);
        puts = rw (← answers) (rw (c.as_slice-2.ensures.value ∙ outputs, c.as_mut_slice-2.ensures.value) at c.put_answers.ensures.puts);
      };
      numbers = c.put_answers.ensures.numbers;
      fit = c.cycle.ensures.lengths ∙ lens ∙ sym (same_lens c.put_answers.new.masters masters settings);
      long = cc;
      inputs = refl;
      settings = settings;
      due = c.put_answers.ensures.due ∙ ap (map due_in) c.as_mut_slice-2.ensures.value;
    })
