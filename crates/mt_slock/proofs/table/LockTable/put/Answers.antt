use Rattle.std.proofs.Common.{◌≡◌, ap, sym, ◌∙◌, subst}
use Rattle.mt_model.specs.Locks.{IsFree}
use Rattle.mt_slock.specs.Views.{held_of}
use Rattle.mt_slock.specs.Noted.{notes_of, without_last, IsKept}
use Rattle.mt_slock.proofs.Tables.{kept_with, dropped_again}
use Rattle.mt_slock.proofs.table.LockTable.put.Goals as goal
use Rattle.mt_slock.proofs.table.LockTable.put.Goals.{After-drop_last, In-Ok}

failed : (c : After-drop_last) → IsKept (held_of c.put.new.self) (notes_of c.drop_last.new.self)
failed c =
    let notes : notes_of c.drop_last.new.self ≡ notes_of c.self.inside.notes =
    c.drop_last.ensures ∙ (ap (λ n. without_last n c.args.txn) c.in_ok-add.ensures.added ∙ dropped_again (notes_of c.self.inside.notes) c.args.txn c.args.object c.args.mode) in
    subst (λ h. IsKept h (notes_of c.drop_last.new.self)) (sym c.in-Err.ensures.err) (subst (λ n. IsKept (held_of c.self.inside.objects) n) (sym notes) c.self.invariant.kept)

kept : (c : In-Ok) → IsKept (held_of c.put.new.self) (notes_of c.add.new.self)
kept c =
    kept_with (held_of c.self.inside.objects) (held_of c.put.new.self) (notes_of c.self.inside.notes) (notes_of c.add.new.self) c.args.txn c.args.object c.args.mode
    (subst (λ t. IsFree (held_of t) c.args.txn c.args.object c.args.mode) (sym c.self.view_is) c.requires.free) c.in-Ok.ensures.added c.in_ok-add.ensures.added c.self.invariant.kept

pub invariant_of-self-in-Ok : goal.invariant_of-self-in-Ok
invariant_of-self-in-Ok c = record { kept = kept c; idle = c.in-Ok.ensures.idle c.self.invariant.idle }

pub invariant_of-self-in-Err : goal.invariant_of-self-in-Err
invariant_of-self-in-Err c = record { kept = failed c; idle = c.in-Err.ensures.idle c.self.invariant.idle }

pub returns-in-Ok-clause-together : goal.returns-in-Ok-clause-together
returns-in-Ok-clause-together c = (kept c).together

pub returns-in-Err-clause-together : goal.returns-in-Err-clause-together
returns-in-Err-clause-together c = (failed c).together
