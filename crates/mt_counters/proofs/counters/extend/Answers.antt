use Rattle.std.proofs.Common.{◌≡◌, ◌<◌, ◌+◌, ℕ, length, map, get_or, set, sym, ap, subst, arith}
use Rattle.std.proofs.lemmas.List.{length-map}
use Rattle.std.proofs.lemmas.List.Elements.{All-get_or, All-map}
use Rattle.mt_model.specs.Tables.{IsLimited, count_at, no_count, started}
use Rattle.mt_counters.specs.Counters.{AreCounters, count_in}
use Rattle.mt_counters.specs.Extended.{IsExtended}
use Rattle.mt_counters.proofs.Growing.{counters_grow, extended, rest}
use Rattle.mt_counters.proofs.counters.extend.Goals as goal

pub returns-clause-done : goal.returns-clause-done
returns-clause-done c =
    let old = c.args.page.now in
    let mid = c.put_starts.new.page in
    let n = c.args.relations in
    let starts = map started c.args.counters.now in
    let many : length starts ≡ length c.args.counters.now = length-map c.args.counters.now started in
    let first = c.sizes-sizes.ensures.relations in
    let second = c.sizes-sizes.ensures.counters in
    let put = c.put_starts.ensures in
    let is = extended old mid n starts put.size put.head
    (λ k lt. put.stay k (subst (λ (x : ℕ). k < x) (sym second) lt))
    (λ i lt. subst (λ (x : ℕ). count_in mid (x + i) ≡ count_at starts i) second (put.starts i (subst (λ (x : ℕ). i < x) many lt))) in
    subst (λ (r : ℕ). IsExtended n starts old (set (set mid 0 r) 1 (c.from.result + length c.args.counters.now))) (ap (λ (x : ℕ). x + n) (sym first))
    (subst (λ (k : ℕ). IsExtended n starts old (set (set mid 0 (get_or old 0 0 + n)) 1 k)) (omega (arith, many, second, c.from.ensures)) is)

pub returns-clause-schema : goal.returns-clause-schema
returns-clause-schema c = λ r k a.
    let old = c.args.page.now in
    let mid = c.put_starts.new.page in
    let n = c.args.relations in
    let starts = map started c.args.counters.now in
    let many : length starts ≡ length c.args.counters.now = length-map c.args.counters.now started in
    let first = c.sizes-sizes.ensures.relations in
    let second = c.sizes-sizes.ensures.counters in
    let put = c.put_starts.ensures in
    let takes = c.if-not-takes_more.ensures in
    let few = takes.counter_count in
    let rest_stays = rest old mid n starts put.size put.head
    (λ x lt. put.stay x (subst (λ (y : ℕ). x < y) (sym second) lt))
    (λ i lt. subst (λ (x : ℕ). count_in mid (x + i) ≡ count_at starts i) second (put.starts i (subst (λ (x : ℕ). i < x) many lt))) in
    let r_is : get_or old 0 0 + n ≡ c.sizes-sizes.result.relations + n = ap (λ (x : ℕ). x + n) (sym first) in
    let k_is : get_or old 1 0 + length starts ≡ c.from.result + length c.args.counters.now = omega (arith, many, second, c.from.ensures) in
    let new = set (set mid 0 (c.sizes-sizes.result.relations + n)) 1 (c.from.result + length c.args.counters.now) in
    subst (λ (x : ℕ). AreCounters (r + n) (k + x) new) many
    (counters_grow r k n starts old new a (returns-clause-done c)
    (λ i low high. subst (λ (x : ℕ). get_or (set (set mid 0 x) 1 (c.from.result + length c.args.counters.now)) i 0 ≡ get_or old i 0) r_is
    (subst (λ (y : ℕ). get_or (set (set mid 0 (get_or old 0 0 + n)) 1 y) i 0 ≡ get_or old i 0) k_is (rest_stays i low high)))
    (λ i lt. All-get_or IsLimited starts i no_count lt (All-map IsLimited started c.args.counters.now takes.each))
    (omega (arith, many, few, second, a.counters_reported)))
