-- What the walks of this crate share.
pub use Rattle.std.proofs.Common.{◌≡◌, ◌-◌, ◌+◌, ◌≤◌, ◌%◌, ℕ, List, [], ◌∷◌, ◌++◌, refl, sym, ap, ◌∙◌, arith, w64}
pub use mir.Syntax.{Fn}
pub use mir.Val.{Val, vint, vptr}
pub use base.Logic.{SProp, emp, id⊢}
pub use prog.Wp.{Env, WpFn}
pub use contract.Monad.{fact, fact_i}
pub use contract.Running.{tables}
pub use types.Kit.{‵, raw, ◌⊛◌, prop, at_ret, ◌$◌, ◌∵◌, !, qed, by, move, keep, drop, use0, use1, use2, split, join, frame, rewrite, regoal, fsplit, fjoin, feq_i, flt_i}
pub use types.Part.{whole, sub, agg}
pub use types.Run.{stop, fld, of_opd, bin, no_more, and_then, returns, enter, first, blocks, exec}
pub use types.ByLocal.{alloc_all, pass_all, free_all, look_at, get, get_in, sets, sets_last, env, is}
pub use denote.RattleType.{owns}
pub use denote.RawPtr.{Ptr, block_ptr, ptr_val, in_a_block}
pub use denote.Signature.{types_at}
pub use denote.Steps.{nothing, heard}
pub use denote.Struct.Tuple.{Tuple}
pub use denote.Triple.Entry.{alive}
pub use denote.Triple.Walked.{Stays, stay_dropped, walk_of, Goes-dropped}
pub use Rattle.std.proofs.alloc.Calls.{Goes-blank}
pub use Rattle.std.proofs.alloc.Shapes.{after}
pub use Rattle.std.proofs.ResultValues.{and_tt}
pub use Rattle.region.proofs.Pairs.{pair_of, pair_val}
pub use Rattle.std.proofs.raw_atomic.Walks.{proved_at, leaves}
pub use Rattle.linked_list_allocator.proofs.Values.{ptr_typed, list_val, list_own, list_told, list_made}
pub use Rattle.linked_list_allocator.proofs.Walks.{slot_at}
pub use Rattle.linked_list_allocator.proofs.Nodes.{resized, cuts}
pub use Rattle.std.proofs.Common.{true, false, Ok, Err, subst, lit<}
pub use mir.Syntax.{Ty}
pub use base.Logic.{ent}
pub use base.Fml.{ftrue, froom}
pub use prog.Memory.{size, align, capped}
pub use types.Kit.{some, later, pick, await}
pub use types.Match.{vrt, in_variant}
pub use types.Run.{lit, switches_on}
pub use types.ByLocal.{get_tag, lands_as}
pub use denote.Triple.Spec.{triple_of}
pub use denote.Triple.Clauses.{Lasts, lasts}
pub use denote.Triple.Call.{calls_from}
pub use Rattle.std.proofs.alloc.Calls.{Answer, Answer-typed, answer_val, Answer-Ok, Answer-err}
pub use Rattle.std.proofs.alloc.Shapes.{head, arm_body}
pub use Rattle.linked_list_allocator.proofs.Walks.{then_runs}
pub use Rattle.region.proofs.Taken.{Taken, Told, taken, becomes_room}
pub use denote.Triple.Table.{framed}
