-- `and` makes an empty struct as well, and reads neither of what it is lent: the list behind it and
-- the value are known to the clause alone.
use Rattle.std.proofs.Common.{[], ◌∷◌, ◌++◌, refl}
use Rattle.std.proofs.raw_atomic.Walks.{proved}
use base.Logic.{SProp}
use contract.Running.{tables}
use denote.Builtin.{RefOf}
use denote.Exit.{yes}
use denote.Param.{param, layouts}
use denote.RattleType.{RattleType, owns}
use denote.Ref.{shr_vals, shr_Tells}
use denote.Signature.{plain, types_at}
use denote.Steps.{nothing}
use denote.Triple.Entry.{alive}
use denote.Triple.Walked.{Stays, stay_dropped, walk_of, Goes-dropped, ends_at, says}
use mir.MapTy.{inst_fn}
use mir.Syntax.{a_type, named}
use mir.Val.{Val, vptr}
use types.ByLocal.{alloc_all, pass_all, free_all, look_at, get, sets}
use types.Kit.{‵, raw, ◌⊛◌, ◌$◌, ◌∵◌, !, qed, move, keep, split, fjoin, suffices, done}
use types.Part.{agg}
use types.Run.{enter, returns, and_then, no_more}
use Rattle.mt_base.proofs.Fieldless.{inside, marked}
use Rattle.mt_base.specs.contracts.history.History as History
use Rattle.mt_base.specs.contracts.history.History.and_as as f
use Rattle.mt_base.specs.contracts.history.History.and_as.Key.{name as key}
use Rattle.mt_base.proofs.history.History.and_as.Statement.{statement}
use Rattle.mt_base.proofs.history.History.and_as.Code as code

pub and_as_spec : {M : Type 1} → statement M
and_as_spec 𝓤 𝓛 𝓜 𝓡 wired T B laws others =
    let E = f.ended T B in let c = f.clauses T B 𝓛 𝓜.mem 𝓡.returns in let 𝓣 = tables 𝓤 𝓛.H 𝓜 𝓡 𝓡.env in
    let inst = layouts (a_type ∷ a_type ∷ []) (T, (B, tt)) in let fn = inst_fn inst code.function in
    let R : RattleType = param 0 T in let Q : RattleType = param 1 B in let S : RattleType = History.the_row R in
    let self = RefOf (0 ∷ []) tt (plain (λ _. S)) (λ _. tt) in let last = RefOf (1 ∷ []) tt (plain (λ _. Q)) (λ _. tt) in
    let stayed : Stays E.signature.params E.kept = (stay_dropped self yes, (stay_dropped last yes, tt)) in
    proved 𝓛 E stayed c 𝓜 𝓡 (Goes-dropped 𝓛 4 self yes (λ κs x w. refl), (Goes-dropped 𝓛 4 last yes (λ κs x w. refl), tt)) (key inst) fn (code.unfolded 𝓤 𝓛.H 𝓜 𝓡 wired (T, (B, tt)))
    (λ κs. (shr_vals, (shr_vals, tt))) (λ κs. (shr_Tells (named 0) κs.0 S, (shr_Tells (named 1) κs.1.0 Q, tt))) (λ κs qs bounds a g are.
    let p : Val = vptr a.0.ref_ptr.0 a.0.ref_ptr.1 in let q : Val = vptr a.1.0.ref_ptr.0 a.1.0.ref_ptr.1 in
    let y : (walk_of 𝓛 E stayed c).Ghost = ((κs, qs, bounds, a, (p ∷ [], (q ∷ [], tt))), g) in
    let Post : Val → SProp 𝓤 = (walk_of 𝓛 E stayed c).post y in
    let longer : S.Denot = record { of = record {}; items = a.0.now.items ++ g a.1.0.now ∷ [] } in
    qed 𝓛 ((raw (alive 𝓛 E.signature κs qs) ⊛ ‵ (owns (types_at E.signature.params κs) a y.0.4)) ∷ raw ((c κs a).requires g) ∷ []) ∵ split ! $ keep ! (0 ∷ []) $
    enter ! 𝓣.C 𝓣.Λ fn (p ∷ q ∷ []) Post $ alloc_all ! (λ l. pass_all ! refl ((tt, tt), ((tt, tt), tt)) $
    sets ! (agg ! (no_more !)) refl (tt, tt) $
    sets ! (agg ! (and_then ! (get ! refl) (no_more !))) refl (tt, (tt, tt)) $
    nothing ! $ marked ! R $ fjoin ! $
    returns ! (look_at ! 0 refl) $ free_all ! refl $
    suffices ! _ (ends_at 𝓛 E stayed c y inside longer (tt, (tt, tt)) (tt, (tt, tt))) $ says ! refl $
    nothing ! $ nothing ! $ fjoin ! $ nothing ! $ fjoin ! $ move ! (2 ∷ 0 ∷ 1 ∷ []) $ done !))
