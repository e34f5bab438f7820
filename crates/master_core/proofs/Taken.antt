-- A frame that is taken in place: the master goes on to where it settles the frame.
use Rattle.master_core.proofs.Common.{Code, KitView, MasterView, Phase, SessionFrameView, accepted_of, ends, settles, takes}
use Rattle.std.proofs.Common.{◌≡◌, true, false, Some, Result, Ok, Err, ap, ◌∙◌}
use Rattle.fsoe_base.specs.declared.did.Cause.TheVariants as cause
use Rattle.fsoe_base.specs.Codes.{local_reset}
use Rattle.failsafe_io.specs.Timer.{started}

-- a master with another phase, whose frame is due
abbrev owing : MasterView → Phase → MasterView
owing v p = record v { state = record { phase = p; due = Some (record { code = local_reset }) }; timer = started v.kit.settings.watchdog }

pub taken : (v : MasterView) (f : SessionFrameView) (p : Phase) (r : Result Phase Code) → Ok p ≡ r → accepted_of (owing v p) (record (takes f.command f.frame.load true) { sent = false }) ≡ settles v f r
taken v f p r h = ap (λ (r : Result Phase Code). settles v f r) h

pub refused : (v w : MasterView) (f : SessionFrameView) (r : Result Phase Code) (x : Code) → Err x ≡ r → w.kit ≡ v.kit → ends w true (cause.Found x) ≡ settles v f r
refused v w f r x h k = ap (λ (kit : KitView). ends (record v { kit = kit }) true (cause.Found x)) k ∙ ap (λ (r : Result Phase Code). settles v f r) h
