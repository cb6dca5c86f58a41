use Rattle.std.proofs.Common.{◌≡◌, ◌∷◌, ◌∙◌, [], refl, sym, subst}
use Rattle.std.specs.Prelude.{Contains}
use Rattle.mt_frame.specs.Grammar.{IsOperation}
use Rattle.mt_frame.specs.declared.records.LoggedOp.{LoggedOp}
use Rattle.mt_frame.specs.declared.records.Record.TheVariants.{OpEnd}
use Rattle.mt_replay.specs.Losers.{PassesRecords}
use Rattle.mt_replay.specs.declared.losers.Loser.{Loser}
use Rattle.mt_replay.specs.declared.losers.LoserPass.{LoserPass}
use Rattle.mt_replay.proofs.Losing.{passes_over, passes_loser}
use Rattle.mt_replay.proofs.losers.LoserPass.pass_end.Goals as goal

pub returns-then-is_over-clause-passes : goal.returns-then-is_over-clause-passes
returns-then-is_over-clause-passes c = passes_over c.args.batch.now c.args.txn c.args.op c.args.done.now c.args.self.now (sym c.is_over.ensures ∙ c.if-is_over.true)

pub returns-clause-passes : goal.returns-clause-passes
returns-clause-passes c =
    let old : LoserPass = c.args.self.now in
    let new : LoserPass = record { losers = c.push.new.self; ended = old.ended; undone = old.undone } in
    let loser : Loser = record { txn = c.args.txn; op = c.args.op; place = c.args.batch.now.place; done = c.in_ok-try_clone.field-0 } in
    let same : c.in_ok-try_clone.field-0 ≡ c.args.done.now = c.in_ok-try_clone.ensures in
    subst (λ (done : LoggedOp). PassesRecords c.args.batch.now (OpEnd c.args.txn c.args.op 0 done ∷ []) old new) same
    (passes_loser c.args.batch.now loser old new refl (subst (λ (done : LoggedOp). Contains c.args.batch.now.records.items (OpEnd c.args.txn c.args.op 0 done)) (sym same) c.requires.among) (subst IsOperation (sym same) c.requires.grammar) (sym c.is_over.ensures ∙ c.if-is_over.false) c.in_ok-push.ensures.items refl refl)
