-- How the chain of an end goes on, frame by frame.
use Rattle.std.specs.Prelude.{ℕ, List, Some, None}
use Rattle.fsoe_frame.specs.Parts.{Frame}
use Rattle.seq_chain.specs.declared.chain.Chain.{Chain}
use Rattle.seq_chain.specs.declared.link.Link.{Link}
use Rattle.seq_chain.specs.Numbers.{last_crc}
use Rattle.seq_chain.specs.Sealing as sealing

-- the chain of a session in which no frame was sent or taken yet
abbrev pub fresh : Chain
fresh = record { own = None; taken = None }

-- the next frame that this end sends
abbrev pub sealed_by : Chain → ℕ → ℕ → List ℕ → Frame
sealed_by chain conn cmd load = sealing.sealed (last_crc chain.taken) chain.own conn cmd load

-- the chain after this end sent a frame
abbrev pub after_sent : Chain → Frame → Chain
after_sent chain frame = record chain { own = Some (sealing.noted (last_crc chain.taken) chain.own frame) }

-- what this end notes of a frame that it takes
abbrev pub link_of : Chain → Frame → Link
link_of chain frame = sealing.noted (last_crc chain.own) chain.taken frame

-- the chain after this end took a frame
abbrev pub after_taken : Chain → Frame → Chain
after_taken chain frame = record chain { taken = Some (link_of chain frame) }

-- the same chain as the peer has it, where each end took all that the other sent: what one end noted as sent, the other
-- noted as taken
abbrev pub turned : Chain → Chain
turned chain = record { own = chain.taken; taken = chain.own }
