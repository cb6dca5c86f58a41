use Rattle.std.proofs.Common.{◌≡◌, true, cond, [], ◌∷◌, sym, ap, ◌∙◌, subst}
use Rattle.mt_model.specs.Locks.{Held, IsFree, with_lock, without_locks}
use Rattle.mt_model.specs.Model.{intents}
use Rattle.mt_slock.specs.Views.{held_of}
use Rattle.mt_slock.proofs.Asking.{lock_of, free_intents, free_last, still_free, held_after, granted_last, intent_back}
use Rattle.mt_slock.proofs.table.LockTable.grant.Goals as goal

pub grant_intent-requires-clause-free : goal.grant_intent-requires-clause-free
grant_intent-requires-clause-free c = free_intents (held_of c.args.self.now) c.args.txn c.args.asks.intent (lock_of c.args.asks.object c.args.asks.mode ∷ []) c.requires.free

pub grant_one-requires-clause-free : goal.grant_one-requires-clause-free
grant_one-requires-clause-free c =
    subst (λ (h : Held). IsFree h c.args.txn c.args.asks.object c.args.asks.mode) (sym c.in_ok-grant_intent.ensures.granted)
    (still_free (held_of c.args.self.now) c.args.txn (intents c.args.asks.intent) c.args.asks.object c.args.asks.mode
    (free_last (held_of c.args.self.now) c.args.txn c.args.asks.intent (lock_of c.args.asks.object c.args.asks.mode) c.requires.free))

pub grant_one-requires-clause-fresh : goal.grant_one-requires-clause-fresh
grant_one-requires-clause-fresh c = λ old.
    let a = c.args.asks in
    subst (λ (h : Held). h c.args.txn a.object a.mode ≡ true) (sym c.in_ok-grant_intent.ensures.granted)
    (held_after (held_of c.args.self.now) c.args.txn (intents a.intent) a.object a.mode c.fresh-fresh.result.object
    (c.fresh-fresh.ensures c.args.self.now c.args.txn a c.requires.standings).object old)

pub returns-in-Ok-clause-asked : goal.returns-in-Ok-clause-asked
returns-in-Ok-clause-asked c =
    let a = c.args.asks in (
      c.requires.free,
      c.in-Ok.ensures.granted
          ∙ (ap (λ (h : Held). with_lock h c.args.txn a.object a.mode) c.in_ok-grant_intent.ensures.granted
          ∙ granted_last (held_of c.args.self.now) c.args.txn a.intent (lock_of a.object a.mode)),
      c.fresh-fresh.ensures c.args.self.now c.args.txn a c.requires.standings,
    )

pub returns-in-Err-clause-err : goal.returns-in-Err-clause-err
returns-in-Err-clause-err c =
    let a = c.args.asks in
    let fi = c.fresh-fresh.result.intent in
    c.take_out_intent.ensures.taken
    ∙ (ap (λ (h : Held). without_locks h c.args.txn (cond fi (intents a.intent) [])) (c.in-Err.ensures.err ∙ c.in_ok-grant_intent.ensures.granted)
    ∙ intent_back (held_of c.args.self.now) c.args.txn a.intent fi
    (c.fresh-fresh.ensures c.args.self.now c.args.txn a c.requires.standings).intent)
