-- The names that more than one file of these proofs cites, passed on from one place. Declares nothing.
pub use Rattle.failsafe_io.specs.Bits.{at_number, bit_at, has_bit, is_same_bit}
pub use Rattle.failsafe_io.specs.declared.bit.Bit.{Bit}
pub use Rattle.fb_lib.proofs.Looking.{follows_by, gives_by}
pub use Rattle.fb_lib.specs.Cycle.{Cycle, second}
pub use Rattle.fb_lib.specs.Kind.{takes_inputs}
pub use Rattle.fb_lib.specs.Standing.{AreOff, BlockStands, kind_of}
pub use Rattle.fb_lib.specs.Steps.{next_block, next_held, block_gives}
pub use Rattle.fb_net.specs.Calls.{Call, Called, all_outputs, cycles_of, held_after}
pub use Rattle.fb_net.specs.Fault.{block_fault, blocks_fault, drives_fault, first_fault, wires_fault}
pub use Rattle.fb_net.specs.Guarded.{guarded_blocks, guarded_from, is_output_guarded, is_wire_guarded}
pub use Rattle.fb_net.specs.Meaning.{net_holds, rule_of}
pub use Rattle.fb_net.specs.Mirror.{mirror_images, mirrored}
pub use Rattle.fb_net.specs.NetView.{NetView, net_block, new_net, plan}
pub use Rattle.fb_net.specs.Outputs.{bits_on, driven_images, images_with, net_outputs, with_on, zero_images}
pub use Rattle.fb_net.specs.Ready.{AllReady, IsReady}
pub use Rattle.fb_net.specs.Standing.{BlocksStand, CanRun, IsNewNet, KeepsPlan, NetStands}
pub use Rattle.fb_net.specs.Steps.{all_restored, cycle_of, flag, given, held_values, holds_of, kept_numbers, run_blocks, run_values, block_after}
pub use Rattle.fb_net.specs.Values.{NetBlock, NetCycle, block_cycles, block_values, shown_values, values_from, wire_value, with_block}
pub use Rattle.fb_net.specs.BlockSpec.{BlockSpec}
pub use Rattle.fb_net.specs.declared.spec.Drive.{Drive}
pub use Rattle.fsoe_base.specs.Image.{bit_of, with_bit}
pub use Rattle.std.proofs.lemmas.Bool.{cases_Bool, cases_eq}
pub use Rattle.std.proofs.lemmas.Grind.{common_steps, take-set_at}
pub use Rattle.std.proofs.lemmas.List.{get_or-set_other, get_or-set_same, get_or_past, length-set, set_past}
pub use Rattle.std.proofs.lemmas.Nat.{and_or_apart, and_or_self, pow_apart}
pub use Rattle.std.specs.List.{All, list_all, list_any}
