use Rattle.mt_txn.proofs.Showing.{kept_of}
use Rattle.mt_txn.proofs.kernel.Kernel.shows_what_is_kept.Goals as goal

pub returns : goal.returns
returns g c = λ first s shows. kept_of g.D.Device c.args.self.now.relations c.args.self.now.counters c.args.self.now.core first s shows
