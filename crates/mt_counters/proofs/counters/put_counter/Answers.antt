use Rattle.std.proofs.Common.{◌≡◌, ◌+◌, ◌*◌, inl, ℕ, sym, ◌∙◌, ap, arith, rules, SFits}
use Rattle.std.specs.Int.{w64}
use Rattle.std.proofs.lemmas.Int.{to_z-of_z}
use Rattle.mt_base.specs.Ranges.{i64_at}
use Rattle.mt_base.proofs.EightBytes.{number_stays}
use Rattle.mt_counters.specs.Counters.{place_of}
use Rattle.mt_counters.proofs.counters.put_counter.Goals as goal

pub returns-clause-count : goal.returns-clause-count
returns-clause-count c =
    let n = c.args.number in
    let count = c.args.count.now in
    let small : SFits w64 count.low = search rules in
    let large : SFits w64 count.high = search rules in
    let inner : SFits w64 count.number = search rules in
    let first = c.put_i64.new.page in
    let second = c.put_i64-2.new.page in
    let last = c.put_i64-3.new.page in
    let at : 8 + 24 * c.from.result ≡ place_of n = ap (λ (k : ℕ). 8 + 24 * k) (c.from.ensures ∙ c.get.ensures) in
    let low = number_stays second last _ 8 (place_of n) c.put_i64-3.ensures.rest (inl (omega (arith, at))) ∙ number_stays first second _ 8 (place_of n) c.put_i64-2.ensures.rest (inl (omega (arith, at))) ∙ ap (λ (p : ℕ). i64_at first p) (sym at) ∙ c.put_i64.ensures.number ∙ to_z-of_z w64 count.low small in
    let high = number_stays second last _ 8 (place_of n + 8) c.put_i64-3.ensures.rest (inl (omega (arith, at))) ∙ ap (λ (p : ℕ). i64_at second (p + 8)) (sym at) ∙ c.put_i64-2.ensures.number ∙ to_z-of_z w64 count.high large in
    let number = ap (λ (p : ℕ). i64_at last (p + 16)) (sym at) ∙ c.put_i64-3.ensures.number ∙ to_z-of_z w64 count.number inner in
    λ i. record { low = low i; high = high i; number = number i }
