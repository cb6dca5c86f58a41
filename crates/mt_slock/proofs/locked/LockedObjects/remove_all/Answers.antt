use Rattle.std.proofs.Common.{◌≡◌, ◌<◌, ◌+◌, ◌++◌, ◌∷◌, [], List, length, take, take-suc, add-one, sym, ◌∙◌, ap}
use Rattle.mt_model.specs.Locks.{Held, without_lock, without_locks}
use Rattle.mt_model.specs.declared.objects.Lock.{Lock}
use Rattle.mt_slock.specs.Views.{held_of}
use Rattle.mt_slock.proofs.Noting.{without_more}
use Rattle.mt_slock.proofs.locked.LockedObjects.remove_all.Goals as goal

pub loop-lock-preserved : goal.loop-lock-preserved
loop-lock-preserved c =
    let ls : List Lock = c.args.locks.now in
    let i = c.loop-lock.lock-index in
    let l : Lock = c.lock-item.result in
    let t = c.args.txn in
    let lt : i < length ls = c.loop-lock-test.true in
    let more : take (i + 1) ls ≡ take i ls ++ l ∷ [] = ap (λ n. take n ls) (add-one i) ∙ (take-suc ls i l lt ∙ ap (λ (k : Lock). take i ls ++ k ∷ []) (sym c.lock-item.is)) in
    let start : Held = held_of c.args.self.now in
    record {
      removed = c.remove.ensures.removed
          ∙ (ap (λ (h : Held). without_lock h t l.object l.mode) c.loop-lock.invariant.removed
          ∙ (without_more start t (take i ls) l ∙ ap (without_locks start t) (sym more)));
      idle = λ h. c.remove.ensures.idle (c.loop-lock.invariant.idle h);
    }
