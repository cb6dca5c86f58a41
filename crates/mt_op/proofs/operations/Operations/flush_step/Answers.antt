use Rattle.std.proofs.Common.{length, refl, ap}
use Rattle.mt_log.specs.Words.{durable}
use Rattle.mt_pool.proofs.Flushing.{flushed}
use Rattle.mt_op.proofs.Right.{right_rests, store_rests}
use Rattle.mt_op.proofs.operations.Operations.flush_step.Goals as goal

pub returns : goal.returns
returns g c = let f = c.flush_step.ensures in let o = c.args.self.now.store in
    let t = flushed (length (durable o.log)) o.pool c.flush_step.new.self.pool c.flush_step.result f.steps in let seen = g.D.Device.seen in
    record {
      right = λ opening relations counters k.
          right_rests g.D.Device opening relations counters c.args.self.now _ k (f.keeps.kept opening k.kept)
          (store_rests g.D.Device opening c.args.self.now c.flush_step.new.self f.log (ap (λ v. length v.items) t.there) (λ q lt. f.views q)) refl refl;
      rests = λ opening. store_rests g.D.Device opening c.args.self.now c.flush_step.new.self f.log (ap (λ v. length v.items) t.there) (λ q lt. f.views q);
      moments = f.keeps.moments;
      once = f.once.at_once;
      claimed = refl;
      log = f.log;
      steps = f.steps;
      forced = λ is. (f.forced is).1;
      exact = f.exact;
      cause = f.cause;
    }
