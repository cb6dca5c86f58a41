use Rattle.std.proofs.Common.{ap, length}
use Rattle.mt_pool.proofs.Kept.{kept_restore, no_call}
use Rattle.mt_pool.proofs.Steady.{steady}
use Rattle.mt_pool.proofs.store.Store.restore.Goals as goal

pub returns-clause-keeps : goal.returns-clause-keeps
returns-clause-keeps g c = record {
  kept = λ opening k. let f = c.restore.ensures in let seen = g.D.Device.seen c.args.self.now.device in
      kept_restore g.D.Device opening c.args.self.now k c.restore.new.self f.puts.pool (f.puts.shows seen k.shows) f.waits f.puts.place (ap (λ v. length v.items) f.puts.there) (f.tied seen opening _ k.tied);
  moments = λ opening k. no_call g.D.Device opening c.args.self.now k g.met.D.Device.only_now;
}

pub restore-requires-clause-pool : goal.restore-requires-clause-pool
restore-requires-clause-pool g c = (steady g.D.Device c.args.self.now c.requires.open).frames
