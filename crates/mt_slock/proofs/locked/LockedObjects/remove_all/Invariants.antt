use Rattle.std.proofs.Common.{◌≡◌, take}
use Rattle.mt_slock.specs.Views.{held_of, HasNoIdle}
use Rattle.mt_model.specs.Locks.{without_locks}
use Rattle.mt_slock.proofs.locked.LockedObjects.remove_all.Given as goal

abbrev pub invariant-loop-lock : goal.invariant-loop-lock
invariant-loop-lock l = record {
  removed : held_of l.self ≡ without_locks (held_of l.initial.self) l.txn (take l.lock-index l.locks);
  idle : HasNoIdle l.initial.self → HasNoIdle l.self;
}
