use Rattle.std.proofs.Common.{ℕ, subst}
use Rattle.mt_format.specs.Schemas.{relations_in, schema_base}
use Rattle.mt_world.specs.Schedules.{HasRunTo}
use Rattle.mt_world.proofs.BeginLemmas.{from_format}
use Rattle.mt_world.proofs.schedules.run_schedule.Goals as goal

pub returns-clause-ran : goal.returns-clause-ran
returns-clause-ran g c =
    let D = g.D.Device in let s = c.args.schema.now in let e = c.in_ok-kernel.ensures in
    let answers = c.make_all-standing.new.answers.items in let standing = c.make_all-standing.result in
    subst (λ (n : ℕ). ∥ HasRunTo (relations_in s) n (schema_base s) c.args.events.now answers standing ∥₁) e.schema.1
    (subst (λ (n : ℕ). ∥ HasRunTo n c.in_ok-kernel.kernel.counters (schema_base s) c.args.events.now answers standing ∥₁) e.schema.0
    (c.make_all-standing.ensures.ran (schema_base s) e.shows e.restarts))

pub returns-clause-moments : goal.returns-clause-moments
returns-clause-moments g c =
    let D = g.D.Device in let s = c.args.schema.now in let e = c.in_ok-kernel.ensures in
    from_format s c.args.device c.in_ok-kernel.kernel c.args.events.now c.make_all-standing.new.answers.items c.make_all-standing.result e.begun e.schema
    (λ since finds. c.make_all-standing.ensures.moments since (schema_base s) e.shows e.restarts finds)
