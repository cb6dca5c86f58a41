use Rattle.mt_slock.specs.Views.{held_of}
use Rattle.mt_slock.proofs.Tables.{with_held}
use Rattle.mt_slock.proofs.table.LockTable.grant_one.Goals as goal

pub returns-else-fresh-clause-granted : goal.returns-else-fresh-clause-granted
returns-else-fresh-clause-granted c = with_held (held_of c.args.self.now) c.args.txn c.args.object c.args.mode (c.requires.fresh c.if-fresh.false)
