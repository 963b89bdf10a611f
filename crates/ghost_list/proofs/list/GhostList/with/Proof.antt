-- `with` makes a value of no bytes, with the list that its clause names. Assumes `Logic`.
use Rattle.std.proofs.Common.{[], ◌∷◌, ◌++◌, refl}
use Rattle.std.proofs.raw_atomic.Walks.{proved}
use mir.Syntax.{Fn, a_type, named}
use mir.MapTy.{inst_fn}
use mir.Val.{vstruct, vcons, vnil}
use base.Fml.{Fml}
use types.Kit.{‵, raw, ◌⊛◌, ◌$◌, ◌∵◌, !, qed, split, keep, move, fjoin, join, use0, suffices, done}
use types.Run.{enter, returns, and_then, no_more}
use types.Part.{agg}
use types.ByLocal.{alloc_all, pass_all, free_all, look_at, get, sets}
use denote.Builtin.{RefOf}
use denote.Exit.{yes}
use denote.Param.{param, layouts}
use denote.RattleType.{RattleType, Valss, owns}
use denote.Ref.{shr_vals, shr_Tells}
use denote.Shadow.{makes_shadow}
use denote.Steps.{nothing}
use denote.Signature.{types_at, type_at, plain}
use denote.Triple.Entry.{Res, alive}
use denote.Triple.Walked.{Stays, stay_dropped, Goes-dropped, walk_of, says, ends_at}
use Rattle.ghost_list.specs.contracts.list.GhostList.{the_row}
use Rattle.ghost_list.specs.contracts.list.GhostList.with.{ended, clauses}
use Rattle.ghost_list.specs.contracts.list.GhostList.with.Key.{name as #self}
use Rattle.ghost_list.proofs.list.GhostList.with.Statement.{statement}
use Rattle.ghost_list.proofs.list.GhostList.with.Code as code

abbrev Item : RattleType → RattleType
Item Y = param 0 Y

abbrev Row : RattleType → RattleType
Row Y = the_row (Item Y)

abbrev function : RattleType → Fn
function Y = inst_fn (layouts (a_type ∷ []) (Y, tt)) code.function

-- both references are let go
abbrev stayed : (Y : RattleType) → Stays (ended Y).signature.params (ended Y).kept
stayed Y =
    (stay_dropped (RefOf (0 ∷ []) tt (plain (λ _. Row Y)) (λ _. tt)) yes, (stay_dropped (RefOf (1 ∷ []) tt (plain (λ _. Item Y)) (λ _. tt)) yes, tt))

pub with_spec : {M : Type 1} → statement M
with_spec 𝓤 𝓛 𝓜 𝓡 wired Y laws =
    let T = ended Y in let c = clauses Y 𝓛 𝓜.mem 𝓡.returns in let W = walk_of 𝓛 T (stayed Y) c in
    let goes_list = Goes-dropped 𝓛 3 (RefOf (0 ∷ []) tt (plain (λ _. Row Y)) (λ _. tt)) yes (λ κs x f. refl) in
    let goes_item = Goes-dropped 𝓛 3 (RefOf (1 ∷ []) tt (plain (λ _. Item Y)) (λ _. tt)) yes (λ κs x f. refl) in
    proved 𝓛 T (stayed Y) c 𝓜 𝓡 (goes_list, (goes_item, tt))
    (#self (layouts (a_type ∷ []) (Y, tt))) (function Y) (code.unfolded 𝓤 𝓛.H 𝓜 𝓡 wired (Y, tt))
    (λ κs. (shr_vals, (shr_vals, tt))) (λ κs. (shr_Tells (named 0) κs.0 (Row Y), (shr_Tells (named 1) κs.1.0 (Item Y), tt))) (λ κs qs bounds a g are.
    let vss : Valss (types_at T.signature.params κs) = (shr_vals a.0, (shr_vals a.1.0, tt)) in
    let y : W.Ghost = ((κs, qs, bounds, a, vss), g) in
    let r : Res T.signature κs = record { marker = record {}; items = a.0.now.items ++ a.1.0.now ∷ [] } in
    let O : Fml = (type_at T.signature.result κs).own_val r (vstruct (vcons (vstruct vnil) vnil) ∷ []) in
    qed 𝓛 ((raw (alive 𝓛 T.signature κs qs) ⊛ ‵ (owns (types_at T.signature.params κs) a vss)) ∷ raw ((c κs a).requires g) ∷ []) ∵ split ! $ keep ! (0 ∷ []) $
    enter ! _ _ _ _ _ $ alloc_all ! (λ l. pass_all ! refl ((tt, tt), ((tt, tt), tt)) $
    sets ! (agg ! (no_more !)) refl (tt, tt) $ sets ! (agg ! (and_then ! (get ! refl) (no_more !))) refl (tt, (tt, tt)) $
    returns ! (look_at ! 0 refl) $ free_all ! refl $
    use0 𝓛 (‵ O) (makes_shadow 𝓛 O ((λ vss. (tt, ((λ uss. (tt, tt)), tt))), tt) (((vstruct vnil ∷ [], tt), (refl, ((tt, (refl, tt)), tt))), tt)) $
    suffices ! _ (ends_at 𝓛 T (stayed Y) c y (vstruct (vcons (vstruct vnil) vnil)) r (tt, (tt, tt)) (tt, (tt, tt))) $ says ! refl $
    nothing ! $ nothing ! $ fjoin ! $ nothing ! $ fjoin ! $ join ! $ move ! (1 ∷ 0 ∷ []) $ join ! $ done !))
