-- The names that more than one file of these proofs cites, passed on from one place. Declares nothing.
pub use Rattle.fsoe_base.specs.Bytes.{low_high}
pub use Rattle.fsoe_base.specs.Lengths.{frame_len, is_length}
pub use Rattle.fsoe_crc.proofs.Adjacent.{rem-adjacent, rem-one}
pub use Rattle.fsoe_crc.proofs.Linear.{fed_bits-below, fed_bits-injective, fed_bytes-append, fed_bytes-below, fed_bytes-injective, sixteen_zeros-are_bits}
pub use Rattle.fsoe_crc.proofs.Weight.{byte_turned, pair_turned, weight, zero_first}
pub use Rattle.fsoe_crc.proofs.Xored.{rem-xored}
pub use Rattle.fsoe_crc.specs.Remainder.{fed_bytes, rem, sixteen_zeros}
pub use Rattle.fsoe_crc.specs.Turned.{turned_bits}
pub use Rattle.fsoe_frame.proofs.Places.{frame_at, frame_len_other, pair_left, whole}
pub use Rattle.fsoe_frame.specs.Layout.{groups}
pub use Rattle.fsoe_frame.specs.Parts.{AreBytes, Frame, frame_of, one_byte, pairs}
pub use Rattle.seq_chain.specs.Cover.{common, cover, covered, crc_0, crcs, crcs_from, first_of, place}
pub use Rattle.seq_chain.specs.Differences.{CancelsOut, DifferAsData, DifferAt, DifferEverywhere, DifferInCommand, DifferInConnection, DifferInCrc, DifferInGroup, DifferInGroups, SteppedAlike, steps_again, turned_in_frames, turned_within}
pub use Rattle.seq_chain.specs.FreshIds.{SteppedAlikeAfter, first_number, step_in_last, step_in_load}
pub use Rattle.seq_chain.specs.Numbered.{IsNumbered}
pub use Rattle.seq_chain.specs.Numbers.{next, number_of, repeats_crc}
pub use Rattle.seq_chain.specs.Reset.{reset_crcs, reset_load, reset_view, zeros_follow}
pub use Rattle.seq_chain.specs.Sealing.{fits, noted, sealed}
pub use Rattle.seq_chain.specs.declared.link.Link.{Link}
pub use Rattle.std.proofs.lemmas.Bool.{agree_below_at, cases_eq, eqb-false, eqb-true}
pub use Rattle.std.proofs.lemmas.List.{get_or-drop, take-replicate}
pub use Rattle.std.specs.Cmp.Lexicographic.{bytes_decides, pointwise}
pub use Rattle.std.specs.Int.Bits.{xor_assoc, xor_block, xor_comm, xor_lt, xor_mod, xor_self, xor_shr}
