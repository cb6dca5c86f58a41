use Rattle.std.proofs.Common.{rules, ◌-◌, refl, ap}
use Rattle.mt_log.specs.Batch.{joined}
use Rattle.mt_log.specs.Seen.{LogSeen}
use Rattle.mt_pool.proofs.Logged.{longer_appended, longer_used}
use Rattle.mt_pool.specs.declared.store.Store.{Store}
use Rattle.mt_pool.specs.Views.{view, pages}
use Rattle.mt_pool.specs.declared.pool.Pool.{Pool}
use Rattle.mt_op.proofs.operations.Operations.append_record.Goals as goal

pub returns : goal.returns
returns g c = let f = c.append.ensures in let o = c.in_ok-append.ensures in let old = c.args.self.now.store.log in let new = c.append.new.self.log in record {
  kept = f.keeps.kept;
  notes = λ opening. record { area = record { opening = refl; total = ap (λ (p : Pool). pages p) (ap (λ (x : Store _). x.pool) f.only_log) }; pages = λ p lt. λ i. view (ap (λ (x : Store _). x.pool) f.only_log i) (g.D.Device.seen (ap (λ (x : Store _). x.device) f.only_log i)) p; records = longer_appended old new _ o.log; locks = refl };
  rests = search rules;
  device = ap (λ (x : Store _). x.device) f.only_log;
  pool = ap (λ (x : Store _). x.pool) f.only_log;
  map = refl;
  rooms = refl;
  locks = refl;
  used = longer_used old new c.args.entry o.log;
  err_used = tt;
  area = ap (λ (x : LogSeen). x.end - x.start) o.log;
  durable = ap (λ (x : LogSeen). joined x.batches) o.log;
  only_memory = tt;
}
