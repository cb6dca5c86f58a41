use Rattle.std.proofs.Common.{◌≡◌, ◌∙◌, get_or, sym, pos, rules, SFits, w64, to_z-of_z, true, false, add-one}
use Rattle.mt_report.specs.Excess.{is_counter}
use Rattle.mt_report.proofs.ExcessLemmas.{found, passed}
use Rattle.mt_report.proofs.excess.counter_excess.Goals as goal

pub returns-then-not-is_counter : goal.returns-then-not-is_counter
returns-then-not-is_counter c =
    let xs = c.args.counters.now in let i = c.loop-low.low-index in
    let t = get_or xs i (pos 0, pos 0, pos 0) in
    let low : SFits w64 t.0 = search rules in
    let high : SFits w64 t.1 = search rules in
    let start : SFits w64 t.2 = search rules in
    let is : is_counter t.0 t.1 t.2 ≡ false = sym (simp to_z-of_z at c.if-not-is_counter.ensures) in
    simp to_z-of_z (sym (found xs i (pos 0, pos 0, pos 0) c.loop-low-test.true is) ∙ c.loop-low.invariant)

pub loop-low-preserved : goal.loop-low-preserved
loop-low-preserved c =
    let xs = c.args.counters.now in let i = c.loop-low.low-index in
    let t = get_or xs i (pos 0, pos 0, pos 0) in
    let low : SFits w64 t.0 = search rules in
    let high : SFits w64 t.1 = search rules in
    let start : SFits w64 t.2 = search rules in
    let is : is_counter t.0 t.1 t.2 ≡ true = sym (simp to_z-of_z at c.if-not-is_counter.ensures) in
    rw add-one (passed xs i (pos 0, pos 0, pos 0) c.loop-low-test.true is ∙ c.loop-low.invariant)
