use Rattle.std.proofs.Common.{subst}
use Rattle.mt_slock.specs.Standings.{Stand}
use Rattle.mt_slock.proofs.table.LockTable.ask.Goals as goal

pub grant-requires-clause-standings : goal.grant-requires-clause-standings
grant-requires-clause-standings c =
    subst (λ es. Stand es c.args.txn c.args.asks c.standings-standings.result) c.self.view_is c.standings-standings.ensures
