use Rattle.std.proofs.Common.{◌≡◌, ap, ◌∙◌}
use Rattle.mt_model.specs.Locks.{without_holder, without_locks}
use Rattle.mt_slock.specs.Views.{held_of}
use Rattle.mt_slock.specs.Noted.{notes_of, IsKept}
use Rattle.mt_slock.proofs.Tables.{released, kept_released}
use Rattle.mt_slock.proofs.table.LockTable.release.Goals as goal
use Rattle.mt_slock.proofs.table.LockTable.release.Goals.{After-drop-locks-inside}

gone : (c : After-drop-locks-inside) → held_of c.remove_all.new.self ≡ without_holder (held_of c.self.inside.objects) c.args.txn
gone c =
    c.remove_all.ensures.removed
    ∙ (ap (without_locks (held_of c.self.inside.objects) c.args.txn) (c.as_slice.ensures ∙ c.take-locks.ensures.locks)
    ∙ released (held_of c.self.inside.objects) (notes_of c.self.inside.notes) c.args.txn c.self.invariant.kept.noted)

kept : (c : After-drop-locks-inside) → IsKept (held_of c.remove_all.new.self) (notes_of c.take-locks.new.self)
kept c =
    kept_released (held_of c.self.inside.objects) (held_of c.remove_all.new.self) (notes_of c.self.inside.notes) (notes_of c.take-locks.new.self) c.args.txn
    (gone c) c.take-locks.ensures.rest c.self.invariant.kept

pub invariant_of-self : goal.invariant_of-self
invariant_of-self c = record { kept = kept c; idle = c.remove_all.ensures.idle c.self.invariant.idle }

pub returns-clause-released : goal.returns-clause-released
returns-clause-released c = gone c ∙ ap (λ t. without_holder (held_of t) c.args.txn) c.self.view_is

pub returns-clause-together : goal.returns-clause-together
returns-clause-together c = (kept c).together
