use Rattle.std.proofs.Common.{◌≡◌, ◌∙◌, ◌++◌, ◌+◌, ◌-◌, List, drop, sym, subst, arith}
use Rattle.std.specs.List.{AllByRecursion}
use Rattle.mt_frame.specs.declared.records.Record.{Record}
use Rattle.mt_log.specs.Batch.{joined}
use Rattle.mt_log.specs.Found.{records_of}
use Rattle.mt_replay.specs.Losers.{HasEnded, HasRecorded}
use Rattle.mt_replay.specs.declared.losers.Loser.{Loser}
use Rattle.mt_replay.proofs.Losing.{all_reverse}
use Rattle.mt_replay.proofs.Walking.{joined_at}
use Rattle.mt_replay.proofs.losers.losers_of.Goals as goal

pub loop-i-preserved : goal.loop-i-preserved
loop-i-preserved c =
    let b = c.index-batches-i.result in
    let bs = c.args.batches.now in
    let i = c.loop-i.i - 1 in
    let some = c.loop-i-test.true in let inside = c.loop-i.invariant.inside in
    let next : i + 1 ≡ c.loop-i.i = omega arith in
    let passes = c.in_ok-pass_batch.ensures.passes in
    record {
      inside = omega arith;
      outcome = subst (λ (rs : List Record). HasRecorded c.pass_batch.new.self rs)
          (sym (joined_at bs i b (omega arith) c.index-batches-i.is ∙ (λ j. b.records.items ++ joined (records_of (drop (next j) bs)))))
          (passes.outcome (joined (records_of (drop c.loop-i.i bs))) c.loop-i.invariant.outcome);
      ended = passes.ended bs (i, (omega arith), sym c.index-batches-i.is) c.loop-i.invariant.ended;
    }

pub returns-clause-ended : goal.returns-clause-ended
returns-clause-ended c = subst (λ (ls : List Loser). AllByRecursion (HasEnded c.args.batches.now) ls) (sym c.into_losers.ensures) (all_reverse (HasEnded c.args.batches.now) c.loop-i.pass.losers.items c.loop-i.invariant.ended)
