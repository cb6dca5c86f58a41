use Rattle.mt_pool.proofs.Kept.{no_call}
use Rattle.mt_pool.proofs.Logged.{kept_append, one_more, any_page, sound_either}
use Rattle.mt_pool.proofs.store.Store.append.Goals as goal

pub returns-clause-keeps : goal.returns-clause-keeps
returns-clause-keeps g c = record {
  kept = λ opening k.
      let s = c.args.self.now in
      let f = c.append.ensures in
      let r = c.requires in
      let more = one_more c.append.result c.args.entry s.log c.append.new.self r.no_page f.log f.err in
      kept_append g.D.Device opening s k c.append.new.self more.0 more.1
      (sound_either c.append.result _ s.log c.append.new.self c.args.entry f.log f.err r.grammar (any_page _ c.args.entry r.no_page) r.rules) more.2 more.3;
  moments = λ opening k. no_call g.D.Device opening c.args.self.now k g.met.D.Device.only_now;
}
