use Rattle.std.proofs.Common.{◌≡◌, ◌+◌, ◌*◌, ◌+ℤ◌, inl, ℕ, ℤ, sym, ◌∙◌, ap, arith, subst}
use Rattle.std.specs.Int.{w64}
use Rattle.std.proofs.lemmas.Int.{to_z-of_z}
use Rattle.mt_base.specs.Ranges.{Torn, i64_at}
use Rattle.mt_model.specs.Model.{stays}
use Rattle.mt_model.specs.declared.counters.Count.{Count}
use Rattle.mt_counters.specs.Counters.{place_of}
use Rattle.mt_base.proofs.EightBytes.{number_stays}
use Rattle.mt_counters.proofs.Numbers.{counters_kept}
use Rattle.mt_counters.proofs.counters.add.Goals as goal

pub returns-clause-done : goal.returns-clause-done
returns-clause-done c =
    let old = c.args.page.now in
    let new = c.put_i64.new.page in
    let n = c.args.number in
    let place = c.from.ensures ∙ c.get.ensures in
    let at : 8 + 24 * c.from.result + 16 ≡ place_of n + 16 = ap (λ (k : ℕ). 8 + 24 * k + 16) place in
    let low : i64_at new (place_of n) ≡ i64_at old (place_of n) = number_stays old new _ 8 (place_of n) c.put_i64.ensures.rest (inl (omega (arith, place))) in
    let high : i64_at new (place_of n + 8) ≡ i64_at old (place_of n + 8) = number_stays old new _ 8 (place_of n + 8) c.put_i64.ensures.rest (inl (omega (arith, place))) in
    let number = ap (λ (p : ℕ). i64_at new p) (sym at) ∙ c.put_i64.ensures.number ∙ to_z-of_z w64 c.sum_of.result (record { sfits = c.sum_of.type_inv }) ∙ c.sum_of.ensures ∙ ap (λ (z : ℤ). c.counter-count.result.number +ℤ z) (to_z-of_z w64 c.args.step c.ranges.step) ∙ ap (λ (k : Count). k.number +ℤ c.args.step) c.counter-count.ensures in
    λ i. record { low = low i; high = high i; number = number i }

pub returns-clause-kept : goal.returns-clause-kept
returns-clause-kept c = λ relations counters a.
    let n = c.args.number in
    let place : 8 + 24 * c.from.result + 16 ≡ place_of n + 16 = ap (λ (k : ℕ). 8 + 24 * k + 16) (c.from.ensures ∙ c.get.ensures) in
    counters_kept relations counters n c.args.page.now c.put_i64.new.page c.args.step a (subst (λ (p : ℕ). Torn p 8 c.args.page.now c.put_i64.new.page) place c.put_i64.ensures.rest) (returns-clause-done c) (sym (ap (λ (k : Count). stays k c.args.step) c.counter-count.ensures) ∙ sym (c.takes.ensures ∙ ap (λ (z : ℤ). stays c.counter-count.result z) (to_z-of_z w64 c.args.step c.ranges.step)) ∙ c.if-not-takes.false)
