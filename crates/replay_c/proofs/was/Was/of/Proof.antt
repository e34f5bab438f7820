-- `of` makes the struct without fields, whose ghost field has the bytes of the slice.
use Rattle.std.proofs.Common.{[], ◌∷◌, refl}
use Rattle.std.proofs.raw_atomic.Walks.{proved}
use mir.Syntax.{named}
use base.Fml.{ftrue}
use types.Kit.{‵, raw, ◌⊛◌, ◌$◌, ◌∵◌, !, qed, keep, move, split, fjoin, suffices, done}
use types.Part.{agg}
use types.Run.{enter, returns, no_more}
use types.ByLocal.{alloc_all, pass_all, free_all, look_at, sets}
use denote.RattleType.{owns}
use denote.Builtin.{u8}
use denote.Exit.{yes}
use denote.Signature.{plain}
use denote.Slice.{ShrSlice, shr_slice_vals, shr_slice_Tells}
use denote.Steps.{nothing}
use denote.Triple.Entry.{alive}
use denote.Triple.Walked.{says, Stays, stay_none_slice, walk_of, Goes-none_slice, ends_at}
use Rattle.replay_c.proofs.Empty.{none, none_made}
use Rattle.replay_c.specs.contracts.was.Was.of as f
use Rattle.replay_c.proofs.was.Was.of.Statement.{statement}
use Rattle.replay_c.proofs.was.Was.of.Code as code

abbrev stayed : Stays f.ended.signature.params f.ended.kept
stayed = (stay_none_slice (0 ∷ []) tt (plain (λ _. u8)) yes, tt)

pub of_spec : {M : Type 1} → statement M
of_spec 𝓤 𝓛 𝓜 𝓡 wired =
    let c = f.clauses 𝓛 𝓜.mem 𝓡.returns in let W = walk_of 𝓛 f.ended stayed c in
    proved 𝓛 f.ended stayed c 𝓜 𝓡 (Goes-none_slice 𝓛 1 (0 ∷ []) tt (plain (λ _. u8)) yes, tt)
    f.Key.name code.function (code.unfolded 𝓤 𝓛.H 𝓜 𝓡 wired)
    (λ κs. (shr_slice_vals, tt)) (λ κs. (shr_slice_Tells (named 0) κs.0 u8, tt)) (λ κs qs bounds a _ are.
    let vs = shr_slice_vals a.0 in let y : W.Ghost = ((κs, qs, bounds, a, (vs, tt)), tt) in
    qed 𝓛 ((raw (alive 𝓛 f.ended.signature κs qs) ⊛ ‵ (owns (ShrSlice (named 0) κs.0 u8 ∷ []) a (vs, tt))) ∷ ‵ ftrue ∷ []) ∵
    keep ! (0 ∷ []) $ split ! $ enter ! _ _ _ _ _ $
    alloc_all ! (λ l. pass_all ! refl ((tt, (tt, (record { fits = are.0.0.1.0 }, tt))), tt) $
    sets ! (agg ! (no_more !)) refl (tt, tt) $
    nothing ! $ none_made ! $ fjoin ! $
    returns ! (look_at ! 0 refl) $ free_all ! refl $
    suffices ! _ (ends_at 𝓛 f.ended stayed c y none (record { bytes = a.0.now }) (tt, tt) (tt, tt)) $ says ! refl $
    move ! (1 ∷ 2 ∷ 0 ∷ []) $ done !))
