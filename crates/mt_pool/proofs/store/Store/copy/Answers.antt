use Rattle.std.proofs.Common.{ℕ, List, [], ap, refl, subst, sym, append-nil}
use Rattle.mt_log.specs.Words.{durable}
use Rattle.mt_pool.proofs.Kept.{each_moment, kept_read}
use Rattle.mt_pool.specs.Kept.{IsKept}
use Rattle.mt_pool.proofs.Steady.{steady}
use Rattle.mt_pool.specs.Views.{Shows, view}
use Rattle.mt_pool.proofs.store.Store.copy.Goals as goal

pub returns-clause-keeps : goal.returns-clause-keeps
returns-clause-keeps g c =
    let kept : (opening : _) → IsKept g.D.Device opening c.args.self.now → IsKept g.D.Device opening _ = λ opening k.
    let e = c.copy.ensures in let pool = c.args.self.now.pool in
    kept_read g.D.Device opening c.args.self.now k pool c.copy.new.device k.frames (subst (λ (l : List ℕ). Shows pool l) (sym e.seen) k.shows) refl refl refl
    (λ q. ap (λ (l : List ℕ). view pool l q) e.seen) e.seen (λ c. (e.crash c).0) in
    record {
      kept = kept;
      moments = λ opening k.
          each_moment g.D.Device g.met.D.Device.only_now opening c.args.self.now _ k (kept opening k) refl refl refl refl refl
          [] (sym (append-nil (durable c.args.self.now.log))) c.copy.ensures.time;
    }

pub copy-requires-clause-pool : goal.copy-requires-clause-pool
copy-requires-clause-pool g c = (steady g.D.Device c.args.self.now c.requires.open).frames

pub copy-requires-clause-shows : goal.copy-requires-clause-shows
copy-requires-clause-shows g c = (steady g.D.Device c.args.self.now c.requires.open).shows

pub returns-clause-reads : goal.returns-clause-reads
returns-clause-reads g c = let e = c.copy.ensures in record { once = e.time.at_once; seen = e.seen; crash = e.crash }
