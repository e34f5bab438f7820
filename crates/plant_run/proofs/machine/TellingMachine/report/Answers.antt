use Rattle.plant_run.proofs.Common.{err_from_is_err_and, link_lines}
use Rattle.std.proofs.Common.{List, [], ℕ, ◌++◌, ap, ap₂, arith, refl, sym, ◌∙◌}
use Rattle.fb_net.specs.contracts.kind_of.KindOfApplication.TheImpl.{ghosts, no_dict}
use Rattle.multi_master.specs.Calls.{app_view}
use Rattle.plant_model.specs.declared.event.PlantLine.TheVariants as line
use Rattle.plant_run.proofs.Hearing.{can_hear}
use Rattle.plant_run.proofs.NextLine.{app_stopped, goes_on, says_app, step_fits}
use Rattle.plant_run.proofs.machine.TellingMachine.report.Goals as goal

pub step-requires : goal.step-requires
step-requires g c = record { fits = step_fits c.requires.1.stands.2 (rw c.in-Step.is at c.requires.1.said) }

pub hear-requires : goal.hear-requires
hear-requires g c = can_hear c.requires.1.stands.2 (omega (arith, c.requires.1.number_is, c.requires.1.few))

pub hear-requires-in-App : goal.hear-requires-in-App
hear-requires-in-App g c = can_hear c.requires.1.stands.2 (omega (arith, c.requires.1.number_is, c.requires.1.few))

pub returns-then-tick-clause-takes_event : goal.returns-then-tick-clause-takes_event
returns-then-tick-clause-takes_event g c =
    let ticks = rw c.is_tick-tick.ensures at c.if-tick.true in
    λ first. record {
      takes = λ h log text number stands. (
        (stands.0.0, stands.0.1, c.step.ensures.name_stays ∙ stands.0.2),
        stands.1,
        goes_on c.in-Step.is stands.2 c.in-Ok.ensures.follows c.step.ensures.fixed (rw c.is_tick-tick.ensures at c.hear.ensures) (λ more. refl) (rw ticks refl)
            (rw ticks (ap₂ (λ text links. text ++ link_lines 1 links c.step.new.self.journal) c.write_count.ensures.text (ap (λ conf. conf.now.links) stands.1))),
      );
    }

pub returns-else-tick-clause-takes_event : goal.returns-else-tick-clause-takes_event
returns-else-tick-clause-takes_event g c =
    let quiet = rw c.is_tick-tick.ensures at c.if-tick.false in
    λ first. record {
      takes = λ h log text number stands. (
        (stands.0.0, stands.0.1, c.step.ensures.name_stays ∙ stands.0.2),
        stands.1,
        goes_on c.in-Step.is stands.2 c.in-Ok.ensures.follows c.step.ensures.fixed (rw c.is_tick-tick.ensures at c.hear.ensures) (λ more. refl) (rw quiet (omega arith))
            (rw quiet (ap (λ (z : List ℕ). z ++ []) c.clear.ensures)),
      );
    }

pub returns-in_ok-take_spare-in-App-clause-takes_event : goal.returns-in_ok-take_spare-in-App-clause-takes_event
returns-in_ok-take_spare-in-App-clause-takes_event g c =
    let taken = c.in_ok-take_spare-in-App.ensures.follows in
    let K = ghosts g.row.H g.H.Application no_dict no_dict in
    λ first. record {
      takes = λ h log text number stands. (
        stands.0,
        stands.1,
        goes_on (c.in-App.is ∙ ap line.App (sym c.bytes.ensures.value)) stands.2 (taken.2 _) c.take_spare.ensures.fixed c.hear-in-App.ensures
            (says_app (app_view K.rule K.holds K.guards) c.bytes.result.now _ _ taken.0 taken.1) (omega arith) (ap (λ (z : List ℕ). z ++ []) c.clear.ensures),
      );
    }

pub returns-in_err-take_spare-in-App-clause-stopped : goal.returns-in_err-take_spare-in-App-clause-stopped
returns-in_err-take_spare-in-App-clause-stopped g c =
    let p = err_from_is_err_and c.from_residual.result c.from_residual.ensures.1 in
    let K = ghosts g.row.H g.H.Application no_dict no_dict in
    rw (p.1, p.2)
    (λ first h log text stands.
    app_stopped (app_view K.rule K.holds K.guards) _ c.bytes.result.now c.args.event.now _ (c.in-App.is ∙ ap line.App (sym c.bytes.ensures.value)) stands.2 refl c.in_err-take_spare-in-App.ensures.none)
