use Rattle.std.proofs.Common.{cond, [], ap, ◌∙◌}
use Rattle.mt_model.specs.Locks.{Held, without_locks}
use Rattle.mt_model.specs.Model.{intents}
use Rattle.mt_slock.specs.Views.{held_of}
use Rattle.mt_slock.proofs.Asking.{lock_of, last_first, none_last}
use Rattle.mt_slock.proofs.table.LockTable.take_out.Goals as goal
use Rattle.mt_slock.proofs.table.LockTable.take_out.Goals.{then-fresh, else-fresh}

pub returns-clause-taken : goal.returns-clause-taken
returns-clause-taken c =
    let t = c.args.txn in
    let a = c.args.asks.now in
    let fi = c.args.fresh.intent in
    elim c.if-fresh.branch [
      | then-fresh w ↦
          c.take_out_intent.ensures.taken
          ∙ (ap (λ (h : Held). without_locks h t (cond fi (intents a.intent) [])) (ap held_of w.self-is ∙ w.take_out_one.ensures.taken)
          ∙ last_first (held_of c.args.self.now) t (cond fi (intents a.intent) []) (lock_of a.object a.mode) c.args.fresh.object w.if-fresh.true)
      | else-fresh w ↦
          c.take_out_intent.ensures.taken
          ∙ (ap (λ (h : Held). without_locks h t (cond fi (intents a.intent) [])) (ap held_of w.self-is)
          ∙ none_last (held_of c.args.self.now) t (cond fi (intents a.intent) []) (lock_of a.object a.mode) c.args.fresh.object w.if-fresh.false)
    ]
