-- `new` makes a value of no bytes, with the empty list that its clause names. Assumes `Logic`.
use Rattle.std.proofs.Common.{[], ◌∷◌, refl}
use Rattle.std.proofs.raw_atomic.Walks.{proved}
use mir.Syntax.{Fn, a_type}
use mir.MapTy.{inst_fn}
use mir.Val.{vstruct, vcons, vnil}
use base.Fml.{Fml}
use types.Kit.{‵, raw, ◌⊛◌, ◌$◌, ◌∵◌, !, qed, split, keep, move, join, use0, suffices, done}
use types.Run.{enter, returns, and_then, no_more}
use types.Part.{agg}
use types.ByLocal.{alloc_all, pass_all, free_all, look_at, get, sets}
use denote.Param.{layouts}
use denote.RattleType.{RattleType, owns}
use denote.Shadow.{makes_shadow}
use denote.Steps.{nothing}
use denote.Signature.{types_at, type_at}
use denote.Triple.Entry.{Res, alive}
use denote.Triple.Walked.{Stays, walk_of, says, ends_at}
use Rattle.ghost_list.specs.contracts.list.GhostList.new.{ended, clauses}
use Rattle.ghost_list.specs.contracts.list.GhostList.new.Key.{name as #self}
use Rattle.ghost_list.proofs.list.GhostList.new.Statement.{statement}
use Rattle.ghost_list.proofs.list.GhostList.new.Code as code

abbrev function : RattleType → Fn
function Y = inst_fn (layouts (a_type ∷ []) (Y, tt)) code.function

abbrev stayed : (Y : RattleType) → Stays (ended Y).signature.params (ended Y).kept
stayed Y = tt

pub new_spec : {M : Type 1} → statement M
new_spec 𝓤 𝓛 𝓜 𝓡 wired Y laws =
    let T = ended Y in let c = clauses Y 𝓛 𝓜.mem 𝓡.returns in let W = walk_of 𝓛 T (stayed Y) c in
    proved 𝓛 T (stayed Y) c 𝓜 𝓡 tt
    (#self (layouts (a_type ∷ []) (Y, tt))) (function Y) (code.unfolded 𝓤 𝓛.H 𝓜 𝓡 wired (Y, tt))
    (λ κs. tt) (λ κs. tt) (λ κs qs bounds a g are.
    let y : W.Ghost = ((κs, qs, bounds, a, tt), g) in
    let r : Res T.signature κs = record { marker = record {}; items = [] } in
    let O : Fml = (type_at T.signature.result κs).own_val r (vstruct (vcons (vstruct vnil) vnil) ∷ []) in
    qed 𝓛 ((raw (alive 𝓛 T.signature κs qs) ⊛ ‵ (owns (types_at T.signature.params κs) a tt)) ∷ raw ((c κs a).requires g) ∷ []) ∵ split ! $ keep ! (0 ∷ []) $
    enter ! _ _ _ _ _ $ alloc_all ! (λ l. pass_all ! refl tt $
    sets ! (agg ! (no_more !)) refl (tt, tt) $ sets ! (agg ! (and_then ! (get ! refl) (no_more !))) refl (tt, (tt, tt)) $
    returns ! (look_at ! 0 refl) $ free_all ! refl $
    use0 𝓛 (‵ O) (makes_shadow 𝓛 O ((λ vss. (tt, ((λ uss. (tt, tt)), tt))), tt) (((vstruct vnil ∷ [], tt), (refl, ((tt, (refl, tt)), tt))), tt)) $
    suffices ! _ (ends_at 𝓛 T (stayed Y) c y (vstruct (vcons (vstruct vnil) vnil)) r tt tt) $ says ! refl $
    nothing ! $ join ! $ move ! (1 ∷ 0 ∷ []) $ join ! $ done !))
