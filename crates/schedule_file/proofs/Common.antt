-- The names that more than one file of these proofs cites, passed on from one place. Declares nothing.
pub use Rattle.fsoe_base.specs.Lengths.{is_length}
pub use Rattle.fsoe_base.specs.LengthsOf.{length_of}
pub use Rattle.fsoe_base.specs.declared.command.End.{End}
pub use Rattle.fsoe_base.specs.declared.lengths.Lengths.{Lengths}
pub use Rattle.fsoe_base.specs.declared.lengths.TheConstants.{MOST_DATA, MOST_FRAME}
pub use Rattle.hex.proofs.HexLemmas.{decode_of-encode_lower, decode_of-ok}
pub use Rattle.hex.specs.Hex.{IsBytes, decode_of, encode_lower, hex_digit_value, is_hex_digit, pair_value}
pub use Rattle.hex.specs.declared.error.FromHexError.{FromHexError}
pub use Rattle.memchr.specs.Find.{IsFirstByte, Nowhere, Passes, is_byte}
pub use Rattle.param_load.specs.AppRule.{is_acceptable, rule_len}
pub use Rattle.param_load.specs.Profile.{allows_id}
pub use Rattle.param_load.specs.declared.app_rule.AppRule.{AppRule}
pub use Rattle.param_load.specs.declared.app_rule.AppRule.TheVariants.{Ranges}
pub use Rattle.param_load.specs.declared.master_settings.MasterSettings.{MasterSettings}
pub use Rattle.param_load.specs.declared.profile.Profile.{Profile}
pub use Rattle.param_load.specs.declared.slave_settings.SlaveSettings.{SlaveSettings}
pub use Rattle.schedule_file.specs.Event.{Fits, FitsEnd, InRange, OnStep, RuleInRange, profile_of}
pub use Rattle.schedule_file.specs.EventLine.{altered_line, delivered_len, event_said, line_said, reference_of, switch_of}
pub use Rattle.schedule_file.specs.EventText.{IsOfTypes, event_text, reference_text, switch_text}
pub use Rattle.schedule_file.specs.Field.{bytes_said, fields_of, is_space, number_said, some_bytes}
pub use Rattle.schedule_file.specs.Fields.{by_word, map_ok, next_field, no_field, number_16, number_32, one_field, one_hex_field, value_or}
pub use Rattle.schedule_file.specs.FieldsRead.{Becomes, fields_after, not_hex}
pub use Rattle.schedule_file.specs.Header.{Heading, IsMasterOf, IsSlaveOf, fields_taken, heading_after, heading_new, heading_with, profile_given, profile_taken, rule_place, title_taken}
pub use Rattle.schedule_file.specs.HeaderLine.{header_line, lengths_line, master_line, profile_line, range_line, rule_line, slave_line}
pub use Rattle.schedule_file.specs.HeaderPart.{highs_of, list_with, lows_of, master_with_app, profile_for, ranges_with, rule_begun, rule_with_bytes, rule_with_pairs, slave_with_bytes, slave_with_pairs}
pub use Rattle.schedule_file.specs.Input.{AtEnd, InputCause, InputFormat, NoLine, Refused, Stop, WholeHeaderOf, event_of, header_in, header_of, header_read, header_step, heading_profile, input_by, input_of, input_read, is_full, lines_in, lines_of, open_line, own_length, said_after, schedule_format, steps, texts, whole_line, with_room}
pub use Rattle.schedule_file.specs.PairEvent.{end_letter, pair_event, pair_line, pair_said, pair_word_of}
pub use Rattle.schedule_file.specs.PairsEvent.{common_line, is_digits, numbered, numbered_line, pairs_line, pairs_said, said_to, said_to_number}
pub use Rattle.schedule_file.specs.PairsFit.{FitsEnds, FitsPair, IsPair, PairsLineFits, line_of_event, with_pair}
pub use Rattle.schedule_file.specs.PairsHeader.{PairsHeading, pairs_begun, pairs_of}
pub use Rattle.schedule_file.specs.Place.{admitted, header_word_of, is_start, may_stand}
pub use Rattle.schedule_file.specs.declared.event.Event.{Event}
pub use Rattle.schedule_file.specs.declared.event.ScheduleLine.{ScheduleLine}
pub use Rattle.schedule_file.specs.declared.event_line.EventWord.{EventWord}
pub use Rattle.schedule_file.specs.declared.header_kind.HeaderKind.{HeaderKind}
pub use Rattle.schedule_file.specs.declared.header_line.HeaderLine.{HeaderLine}
pub use Rattle.schedule_file.specs.declared.header_line.RuleLine.{RuleLine}
pub use Rattle.schedule_file.specs.declared.line_cause.LineCause.{LineCause}
pub use Rattle.schedule_file.specs.declared.pairs_line.PairsLine.{PairsLine}
pub use Rattle.schedule_file.specs.declared.place.Place.{Place}
pub use Rattle.schedule_file.specs.declared.place.Word.{Word}
pub use Rattle.std.proofs.lemmas.Bool.{agree_below_at, and_parts, cases_lt, eqb-true, false_from_ne_true, leb-true, ltb-true}
pub use Rattle.std.proofs.lemmas.Bool.Decides.{nat_tests}
pub use Rattle.std.proofs.lemmas.Fmt.{decimal_digit, decimal_nonempty, digits_decimal, digits_value-decimal, first_decimal}
pub use Rattle.std.proofs.lemmas.Grind.{common_steps}
pub use Rattle.std.proofs.lemmas.List.{drop_more, get_or-take, get_or_default, length-take, length_push, map-append, take-append-drop, take_more, take_rest}
pub use Rattle.std.proofs.lemmas.List.Elements.{All-append, All-cons, All-head, All-nil, All-tail}
pub use Rattle.std.proofs.lemmas.List.Splits.{join_with_byte-slice_split, length-slice_split, slice_split-cons_no, slice_split-cons_yes, slice_split_at, slice_split_none}
pub use Rattle.std.proofs.lemmas.Option.{IfSome_then, get_or_from_slice_get, slice_get-map, slice_get_within}
pub use Rattle.std.proofs.lemmas.Result.{IfOk-at_ok, IfOk-weaker}
pub use Rattle.std.proofs.lemmas.Str.Parse.{digits_value-take-le, numerals_by_value, tells_all_ascii_digits}
pub use Rattle.std.specs.Char.{is_ascii_digit}
pub use Rattle.std.specs.Cmp.Lexicographic.{pointwise}
pub use Rattle.std.specs.List.{join_with_byte, list_all, onto_first, slice_split}
pub use Rattle.std.specs.Prelude.{All, Err, IfOk, IfSome, IsTrue, None, Ok, OnOk, Option, Result, Some, codes, decimal, nat_le, nat_lt, option_map, slice_get, true}
pub use Rattle.std.specs.Str.{all_ascii_digits, bytes_eq}
pub use Rattle.std.specs.Str.Parse.{digits_value}
