use Rattle.std.proofs.Common.{◌∙◌, ◌+◌, ℕ, List, take, length, ap, sym, subst}
use Rattle.std.proofs.lemmas.List.{take_all}
use Rattle.mt_log.specs.Batch.{joined}
use Rattle.mt_log.specs.Found.{records_of}
use Rattle.mt_log.specs.Holds.{AreRecords}
use Rattle.mt_log.specs.declared.batch.Batch.{Batch}
use Rattle.mt_steps.specs.Repeated.{repeat}
use Rattle.mt_replay.proofs.Restoring.{repeats_none, repeats_same, repeats_then}
use Rattle.mt_replay.proofs.Walking.{repeat_batch, each_at}
use Rattle.mt_replay.proofs.repeat.Repeating.repeat_all.Goals as goal

pub loop-batch-init : goal.loop-batch-init
loop-batch-init c = repeats_none c.args.self.now c.requires.whole

pub repeat_records-requires-clause-whole : goal.repeat_records-requires-clause-whole
repeat_records-requires-clause-whole c = c.loop-batch.invariant.whole

pub repeat_records-requires-clause-each : goal.repeat_records-requires-clause-each
repeat_records-requires-clause-each c =
    subst (λ (n : ℕ). AreRecords n c.deref.result.now) (sym c.loop-batch.invariant.count)
    (subst (AreRecords (length c.args.self.now.pages.items)) (sym c.deref.ensures.value)
    (each_at (length c.args.self.now.pages.items) c.args.batches.now c.loop-batch.batch-index c.batch-item.result c.loop-batch-test.true c.batch-item.is c.requires.each))

pub loop-batch-preserved : goal.loop-batch-preserved
loop-batch-preserved c =
    let i = c.loop-batch.batch-index in
    let batches = c.args.batches.now in
    repeats_then (λ x. repeat x (joined (records_of (take i batches)))) (λ x. repeat x c.deref.result.now) (λ x. repeat x (joined (records_of (take (i + 1) batches)))) c.args.self.now c.loop-batch.self c.repeat_records.new.self
    (λ x. ap (repeat (repeat x (joined (records_of (take i batches))))) c.deref.ensures.value ∙ sym (repeat_batch x batches i c.batch-item.result c.loop-batch-test.true c.batch-item.is))
    c.loop-batch.invariant c.in_ok-repeat_records.ensures.repeated

pub returns-clause-repeated : goal.returns-clause-repeated
returns-clause-repeated c =
    repeats_same (λ x. repeat x (joined (records_of (take c.loop-batch.batch-index c.args.batches.now)))) (λ x. repeat x (joined (records_of c.args.batches.now))) c.args.self.now c.loop-batch.self
    (λ x. ap (λ (bs : List Batch). repeat x (joined (records_of bs))) (take_all c.loop-batch.batch-index c.args.batches.now c.loop-batch-test.false)) c.loop-batch.invariant
