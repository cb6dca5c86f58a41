use Rattle.std.proofs.Common.{◌+◌, take, ap, sym}
use Rattle.std.proofs.lemmas.List.{take_all}
use Rattle.mt_steps.specs.Repeated.{repeat, repeated}
use Rattle.mt_replay.proofs.Restoring.{repeats_none, repeats_same, repeats_then}
use Rattle.mt_replay.proofs.Walking.{repeat_at}
use Rattle.mt_replay.proofs.repeat.Repeating.repeat_records.Goals as goal

pub loop-entry-init : goal.loop-entry-init
loop-entry-init c = repeats_none c.args.self.now c.requires.whole

pub loop-entry-preserved : goal.loop-entry-preserved
loop-entry-preserved c =
    let i = c.loop-entry.entry-index in
    let records = c.args.records.now in
    repeats_then (λ x. repeat x (take i records)) (λ x. repeated x c.entry-item.result) (λ x. repeat x (take (i + 1) records)) c.args.self.now c.loop-entry.self c.repeat_one.new.self
    (λ x. sym (repeat_at x records i c.entry-item.result c.loop-entry-test.true c.entry-item.is))
    c.loop-entry.invariant c.in_ok-repeat_one.ensures.repeated

pub returns-clause-repeated : goal.returns-clause-repeated
returns-clause-repeated c =
    repeats_same (λ x. repeat x (take c.loop-entry.entry-index c.args.records.now)) (λ x. repeat x c.args.records.now) c.args.self.now c.loop-entry.self
    (λ x. ap (repeat x) (take_all c.loop-entry.entry-index c.args.records.now c.loop-entry-test.false)) c.loop-entry.invariant
