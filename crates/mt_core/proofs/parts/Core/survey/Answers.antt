use Rattle.std.proofs.Common.{ap, arith}
use mathlib.Core.Logic.{∥∥₁_map}
use Rattle.mt_core.proofs.Resting.{rests_in}
use Rattle.mt_core.proofs.Surveyed.{nobody_locks}
use Rattle.mt_log.specs.Words.{area_size, durable, used}
use Rattle.mt_op.proofs.Surveyed.{read_rests, read_right}
use Rattle.mt_space.specs.declared.space_map.SpaceMap.{SpaceMap}
use Rattle.mt_space.specs.Rooms.{reserved_of}
use Rattle.mt_core.proofs.Lasting.{lasts_same}
use Rattle.mt_core.proofs.Restarts.{rests_same}
use Rattle.std.proofs.Common.{refl}
use Rattle.mt_core.proofs.parts.Core.survey.Goals as goal

pub survey-requires : goal.survey-requires
survey-requires g c = record {
  idle = ∥∥₁_map c.requires.safe (λ (origin, base, safe).
      let k = c.args.self.now in
      (origin.relations, safe.fit.schema.few_relations, ∣ (origin.pages, origin.counters, safe.fit.right, nobody_locks k.live.members k.live.standing k.running.items k.operations.locks c.requires.nobody safe.fit.owned safe.fit.locked) ∣₁));
}

pub returns-clause-surveyed : goal.returns-clause-surveyed
returns-clause-surveyed g c = λ origin base safe. c.survey.ensures.surveyed origin.pages origin.relations origin.counters base safe.fit.right safe.holds

pub returns-clause-state : goal.returns-clause-state
returns-clause-state g c = λ origin base safe.
    let D = g.D.Device in let k = c.args.self.now in let read = c.survey.ensures.read in
    let same = ap (λ l. used l) read.log in
    rests_in D origin base k (record k { operations = c.survey.new.self }) safe (read_right D origin.pages origin.relations origin.counters k.operations c.survey.new.self read safe.fit.right)
    (read_rests D origin.pages k.operations c.survey.new.self read) (ap (λ (m : SpaceMap). reserved_of m.space) read.map) (omega arith) (ap (λ l. area_size l) read.log)

pub returns-clause-restartable : goal.returns-clause-restartable
returns-clause-restartable g c = λ origin base later safe_k safe_n r. let D = g.D.Device in let k = c.args.self.now in let read = c.survey.ensures.read in
    rests_same D origin k (record k { operations = c.survey.new.self }) base later safe_k safe_n (read_rests D origin.pages k.operations c.survey.new.self read) (ap (λ l. area_size l) read.log) (lasts_same k (record k { operations = c.survey.new.self }) (ap (λ l. durable l) read.log)) (record { book = refl; commits = refl }) refl r
