use Rattle.std.proofs.Common.{◌≡◌, ◌+◌, ◌-◌, ℕ, drop, subst, arith}
use Rattle.mt_replay.specs.Passes.{Backs}
use Rattle.mt_replay.proofs.Leaving.{backs_then}
use Rattle.mt_replay.proofs.repeat.TakingBack.pass_records.Goals as goal

pub loop-i-preserved : goal.loop-i-preserved
loop-i-preserved c =
    let rs = c.args.records.now in
    let i = c.loop-i.i - 1 in
    let some = c.loop-i-test.true in let inside = c.loop-i.invariant.inside in
    let next : c.loop-i.i ≡ i + 1 = omega arith in
    record {
      inside = omega arith;
      back = backs_then rs i c.index-records-i.result c.args.self.now c.loop-i.self c.pass_one.new.self (omega arith) c.index-records-i.is
          (subst (λ (n : ℕ). Backs (drop n rs) c.args.self.now c.loop-i.self) next c.loop-i.invariant.back) c.pass_one.ensures;
    }
