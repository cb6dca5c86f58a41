use Rattle.std.proofs.Common.{◌≤ℤ◌, refl, rules, SFits, w64, to_z-of_z}
use Rattle.mt_model.proofs.counters.Count.add.Goals as goal

pub returns-then-fits-clause-limited : goal.returns-then-fits-clause-limited
returns-then-fits-clause-limited c =
    let limited = c.requires.limited in
    let low : SFits w64 c.args.self.now.low = search rules in
    let high : SFits w64 c.args.self.now.high = search rules in
    let sum : SFits w64 c.sum_of-sum.result = search rules in
    let order : (c.args.self.now.low ≤ℤ c.sum_of-sum.result) × (c.sum_of-sum.result ≤ℤ c.args.self.now.high) =
    simp to_z-of_z at (c.if-fits.ensures.order.0 refl) in
    simp to_z-of_z (limited.0, order.0, order.1, limited.3)
