use Rattle.std.proofs.Common.{ℤ, All, take, get_or, refl, sym, subst, pos, arith, rules, SFits, w64, to_z-of_z}
use Rattle.std.proofs.lemmas.List.{take_more, take_all}
use Rattle.std.proofs.lemmas.List.Elements.{All-push}
use Rattle.mt_base.specs.Limits.{IsCounter}
use Rattle.mt_counters.proofs.counters.counters_fit.Goals as goal

-- a counter as it is printed
IsReported : ℤ × ℤ × ℤ → Type 0
IsReported t = IsCounter t.0 t.1 t.2

-- src/schema.rt:37:5
pub loop-low-preserved : goal.loop-low-preserved
unfolding IsReported
loop-low-preserved c =
    let xs = c.args.counters.now in let i = c.loop-low.low-index in
    let t = get_or xs i (pos 0, pos 0, pos 0) in
    let low : SFits w64 t.0 = search rules in
    let high : SFits w64 t.1 = search rules in
    let start : SFits w64 t.2 = search rules in
    let fits : IsCounter t.0 t.1 t.2 = simp to_z-of_z at (c.if-not-counter_fits.ensures.0 refl) in
    subst (All IsReported) (sym (take_more xs i (pos 0, pos 0, pos 0) c.loop-low-test.true))
    (All-push IsReported (take i xs) t c.loop-low.invariant fits)

-- src/schema.rt:33:1
pub returns : goal.returns
unfolding IsReported
returns c = subst (All IsReported) (take_all c.loop-low.low-index c.args.counters.now (let past = c.loop-low-test.false in omega arith)) c.loop-low.invariant
