use Rattle.std.proofs.Common.{SFits, rules, to_z-of_z, w64}
use Rattle.mt_report.proofs.excess.write_excess.Goals as goal

pub returns-in-Counter-clause-front : goal.returns-in-Counter-clause-front
returns-in-Counter-clause-front g c =
    let low : SFits w64 c.in-Counter.low = search rules in
    let high : SFits w64 c.in-Counter.high = search rules in
    let start : SFits w64 c.in-Counter.start = search rules in
    rw c.in-Counter.is (simp to_z-of_z at c.write_counter.ensures.front)

pub returns-in-Nothing-clause-all : goal.returns-in-Nothing-clause-all
returns-in-Nothing-clause-all g c = rw c.in-Nothing.is c.put-in-Nothing.ensures.all
