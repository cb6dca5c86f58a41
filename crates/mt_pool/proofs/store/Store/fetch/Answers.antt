use Rattle.std.proofs.Common.{[], refl, sym, append-nil}
use Rattle.mt_log.specs.Words.{durable}
use Rattle.mt_pool.proofs.Kept.{each_moment, kept_read}
use Rattle.mt_pool.specs.Kept.{IsKept}
use Rattle.mt_pool.proofs.Steady.{steady}
use Rattle.mt_pool.proofs.store.Store.fetch.Goals as goal

pub returns-clause-keeps : goal.returns-clause-keeps
returns-clause-keeps g c =
    let kept : (opening : _) → IsKept g.D.Device opening c.args.self.now → IsKept g.D.Device opening _ = λ opening k. let f = c.fetch.ensures in
    kept_read g.D.Device opening c.args.self.now k c.fetch.new.self c.fetch.new.device f.pool f.shows f.moves.waits f.moves.place f.moves.pages f.views f.seen (λ c. (f.crash c).0) in
    record {
      kept = kept;
      moments = λ opening k. let f = c.fetch.ensures in
          each_moment g.D.Device g.met.D.Device.only_now opening c.args.self.now _ k (kept opening k) refl refl f.moves.place f.moves.pages refl
          [] (sym (append-nil (durable c.args.self.now.log))) f.time;
    }

pub fetch-requires-clause-pool : goal.fetch-requires-clause-pool
fetch-requires-clause-pool g c = (steady g.D.Device c.args.self.now c.requires.open).frames

pub fetch-requires-clause-shows : goal.fetch-requires-clause-shows
fetch-requires-clause-shows g c = (steady g.D.Device c.args.self.now c.requires.open).shows

pub returns-clause-reads : goal.returns-clause-reads
returns-clause-reads g c = let e = c.fetch.ensures in record { once = e.time.at_once; seen = e.seen; crash = e.crash }
