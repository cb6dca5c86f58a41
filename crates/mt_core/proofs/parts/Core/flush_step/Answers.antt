use Rattle.std.proofs.Common.{arith, ap}
use Rattle.mt_log.specs.Words.{durable, used, area_size}
use Rattle.mt_core.proofs.Resting.{rests_in}
use Rattle.mt_core.proofs.Sounds.{opening_of}
use Rattle.mt_core.proofs.Lasting.{lasts_same}
use Rattle.mt_core.proofs.Restarts.{rests_same}
use Rattle.std.proofs.Common.{refl}
use Rattle.mt_core.proofs.parts.Core.flush_step.Goals as goal

pub returns-clause-state : goal.returns-clause-state
returns-clause-state g c = λ origin base safe. let k = c.args.self.now in let e = c.flush_step.ensures in
    let same = ap (λ l. used l) e.log in
    rests_in g.D.Device origin base k (record k { operations = c.flush_step.new.self }) safe (e.right origin.pages origin.relations origin.counters safe.fit.right) (e.rests origin.pages) e.claimed (omega arith) (ap (λ l. area_size l) e.log)

pub flush_step-requires : goal.flush_step-requires
flush_step-requires g c = record { kept = opening_of g.D.Device c.args.self.now c.requires.safe }

pub returns-clause-restartable : goal.returns-clause-restartable
returns-clause-restartable g c = λ origin base later safe_k safe_n r. let k = c.args.self.now in
    rests_same g.D.Device origin k (record k { operations = c.flush_step.new.self }) base later safe_k safe_n (c.flush_step.ensures.rests origin.pages) (ap (λ l. area_size l) c.flush_step.ensures.log)
    (lasts_same k (record k { operations = c.flush_step.new.self }) (ap (λ l. durable l) c.flush_step.ensures.log)) (record { book = refl; commits = refl }) refl r
