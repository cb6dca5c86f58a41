use Rattle.mt_slock.specs.Views.{held_of}
use Rattle.mt_slock.specs.Noted.{notes_of}
use Rattle.mt_slock.proofs.Tables.{kept_without, kept_without_last}
use Rattle.mt_slock.proofs.table.LockTable.take_out_one.Goals as goal

pub invariant_of-self : goal.invariant_of-self
invariant_of-self c = record {
  kept = kept_without_last (held_of c.self.inside.objects) (held_of c.remove.new.self) (notes_of c.self.inside.notes) (notes_of c.drop_last.new.self) c.args.txn
      c.args.object.now c.args.mode c.remove.ensures.removed c.drop_last.ensures (c.ends_with.ensures.0 c.if-ends_with.true) c.self.invariant.kept;
  idle = c.remove.ensures.idle c.self.invariant.idle;
}

pub invariant_of-self-else-ends_with : goal.invariant_of-self-else-ends_with
invariant_of-self-else-ends_with c = record {
  kept = kept_without (held_of c.self.inside.objects) (held_of c.remove.new.self) (notes_of c.self.inside.notes) (notes_of c.self.inside.notes) c.args.txn
      c.args.object.now c.args.mode c.remove.ensures.removed c.self.invariant.kept;
  idle = c.remove.ensures.idle c.self.invariant.idle;
}

pub returns-then-ends_with-clause-together : goal.returns-then-ends_with-clause-together
returns-then-ends_with-clause-together c =
    (kept_without (held_of c.self.inside.objects) (held_of c.remove.new.self) (notes_of c.self.inside.notes) (notes_of c.self.inside.notes) c.args.txn
    c.args.object.now c.args.mode c.remove.ensures.removed c.self.invariant.kept).together

pub returns-else-ends_with-clause-together : goal.returns-else-ends_with-clause-together
returns-else-ends_with-clause-together c =
    (kept_without (held_of c.self.inside.objects) (held_of c.remove.new.self) (notes_of c.self.inside.notes) (notes_of c.self.inside.notes) c.args.txn
    c.args.object.now c.args.mode c.remove.ensures.removed c.self.invariant.kept).together
