use Rattle.std.proofs.Common.{◌≡◌, ◌+◌, ◌-◌, ℕ, drop, subst, arith}
use Rattle.mt_replay.specs.Losers.{PassesRecords}
use Rattle.mt_replay.proofs.Losing.{passes_then}
use Rattle.mt_replay.proofs.losers.LoserPass.pass_batch.Goals as goal

pub loop-i-preserved : goal.loop-i-preserved
loop-i-preserved c =
    let rs = c.args.batch.now.records.items in
    let i = c.loop-i.i - 1 in
    let some = c.loop-i-test.true in let inside = c.loop-i.invariant.inside in
    let next : c.loop-i.i ≡ i + 1 = omega arith in
    record {
      inside = omega arith;
      passes = passes_then c.args.batch.now rs i c.index.result.now c.args.self.now c.loop-i.self c.pass_one.new.self (omega arith) c.index.ensures
          (subst (λ (n : ℕ). PassesRecords c.args.batch.now (drop n rs) c.args.self.now c.loop-i.self) next c.loop-i.invariant.passes) c.in_ok-pass_one.ensures.passes;
    }
