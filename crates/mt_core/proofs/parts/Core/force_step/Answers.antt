use Rattle.mt_log.proofs.Stepped.{stepped}
use Rattle.mt_core.proofs.Resting.{rests_in}
use Rattle.mt_core.proofs.Sounds.{opening_of}
use Rattle.mt_core.proofs.Lasting.{lasts_moved}
use Rattle.mt_core.proofs.Restarts.{rests_same}
use Rattle.std.proofs.Common.{refl}
use Rattle.mt_core.proofs.parts.Core.force_step.Goals as goal

pub returns-clause-state : goal.returns-clause-state
returns-clause-state g c = λ origin base safe. let k = c.args.self.now in let e = c.force_step.ensures in
    let t = stepped k.operations.store.log c.force_step.new.self.store.log c.force_step.result e.steps in
    rests_in g.D.Device origin base k (record k { operations = c.force_step.new.self }) safe (e.right origin.pages origin.relations origin.counters safe.fit.right) (e.rests origin.pages) e.claimed t.bytes t.area

pub force_step-requires : goal.force_step-requires
force_step-requires g c = record { kept = opening_of g.D.Device c.args.self.now c.requires.safe }

pub returns-clause-restartable : goal.returns-clause-restartable
returns-clause-restartable g c = λ origin base later safe_k safe_n r. let k = c.args.self.now in
    let t = stepped k.operations.store.log c.force_step.new.self.store.log c.force_step.result c.force_step.ensures.steps in
    rests_same g.D.Device origin k (record k { operations = c.force_step.new.self }) base later safe_k safe_n (c.force_step.ensures.rests origin.pages) t.area
    (lasts_moved k (record k { operations = c.force_step.new.self }) t.moves) (record { book = refl; commits = refl }) refl r
