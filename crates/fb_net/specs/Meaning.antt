-- What a net means as an application.
use Rattle.std.specs.Prelude.{ℕ, Bool, List}
use Rattle.failsafe_io.specs.declared.bit.Bit.{Bit}
use Rattle.failsafe_io.specs.Application.{Answer}
use Rattle.fb_net.specs.NetView.{NetView, plan}
use Rattle.fb_net.specs.Guarded.{is_output_guarded}
use Rattle.fb_net.specs.Steps.{holds_of, net_rule}

-- what a net holds
abbrev pub net_holds : NetView → List ℕ
net_holds v = holds_of v.blocks v.values

-- how it answers, whatever it holds
abbrev pub rule_of : NetView → List ℕ → Bool → List (List ℕ) → List ℕ → Answer
rule_of v = net_rule (plan v.blocks) v.drives

-- the answer to a cycle, by what the net holds
abbrev pub net_answer : NetView → Bool → List (List ℕ) → List ℕ → Answer
net_answer v ticked inputs lens = rule_of v (net_holds v) ticked inputs lens

-- which output bits are guarded by which input bits
abbrev pub guards_of : NetView → Bit → Bit → Bool
guards_of v = is_output_guarded (plan v.blocks) v.drives
