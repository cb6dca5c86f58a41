use Rattle.mt_txn.proofs.Living.{lives_of, busy_of, idle_of, no_commits}
use Rattle.mt_txn.proofs.kernel.Kernel.shows_who_lives.Goals as goal

pub returns-clause-lives : goal.returns-clause-lives
returns-clause-lives g c = lives_of g.D.Device c.args.self.now.relations c.args.self.now.counters c.args.self.now.core

pub returns-clause-runs : goal.returns-clause-runs
returns-clause-runs g c = busy_of g.D.Device c.args.self.now.relations c.args.self.now.counters c.args.self.now.core

pub returns-clause-idle : goal.returns-clause-idle
returns-clause-idle g c = idle_of g.D.Device c.args.self.now.relations c.args.self.now.counters c.args.self.now.core

pub returns-clause-commits : goal.returns-clause-commits
returns-clause-commits g c = no_commits g.D.Device c.args.self.now.relations c.args.self.now.counters c.args.self.now.core c.args.self.now.well
