use Rattle.mt_slock.specs.Views.{held_of}
use Rattle.mt_slock.specs.Noted.{notes_of, no_notes}
use Rattle.mt_slock.proofs.Tables.{kept_none}
use Rattle.mt_slock.proofs.table.LockTable.new.Goals as goal

pub invariant_of-result : goal.invariant_of-result
invariant_of-result c = record {
  kept = kept_none (held_of c.new.result) (held_of c.new.result) no_notes (notes_of c.new-2.result) 0 c.new.ensures.held;
  idle = c.new.ensures.idle;
}

pub returns-clause-together : goal.returns-clause-together
returns-clause-together c = (kept_none (held_of c.new.result) (held_of c.new.result) no_notes (notes_of c.new-2.result) 0 c.new.ensures.held).together
