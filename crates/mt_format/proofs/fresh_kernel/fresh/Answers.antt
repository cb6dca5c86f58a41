use Rattle.std.proofs.Common.{◌∙◌, List, length, sym, ap, arith, subst}
use Rattle.mt_base.specs.Limits.{IsCounterCount, IsRelationCount}
use Rattle.mt_model.specs.declared.counters.Count.{Count}
use Rattle.mt_op.specs.Operations.{operation_frames}
use Rattle.mt_op.specs.declared.operations.Operations.{Operations}
use Rattle.mt_format.proofs.Assembled.{opens_of, fresh_of}
use Rattle.mt_format.specs.Schemas.{schema_base, counters_in}
use Rattle.mt_format.proofs.fresh_kernel.fresh.Goals as goal

pub overflow_cast-counters : goal.overflow_cast-counters
overflow_cast-counters g c = let few : IsCounterCount (length (counters_in c.args.schema.now)) = c.args.schema.now.counter_count in let same = ap (λ (cs : List Count). length cs) c.counters.ensures.counters in omega (arith, few, same)

pub assemble-requires-clause-fresh : goal.assemble-requires-clause-fresh
assemble-requires-clause-fresh g c = fresh_of g.D.Device c.args.schema.now c.in-Ok.operations c.in-Ok.escrow c.in-Ok.ensures.fresh

pub assemble-requires-clause-schema : goal.assemble-requires-clause-schema
assemble-requires-clause-schema g c = subst IsRelationCount (sym c.relations.ensures) c.args.schema.now.relation_count

pub assemble-requires-clause-opens : goal.assemble-requires-clause-opens
assemble-requires-clause-opens g c = ∣ (schema_base c.args.schema.now, opens_of g.D.Device c.args.schema.now c.in-Ok.operations c.in-Ok.escrow c.in-Ok.ensures.fresh c.relations.result (length c.counters.result.now) (sym c.relations.ensures) (ap (λ (cs : List Count). length cs) (sym c.counters.ensures.counters))) ∣₁

pub returns-in-Ok-clause-shows : goal.returns-in-Ok-clause-shows
returns-in-Ok-clause-shows g c = c.assemble.ensures.shows (schema_base c.args.schema.now) (opens_of g.D.Device c.args.schema.now c.in-Ok.operations c.in-Ok.escrow c.in-Ok.ensures.fresh c.relations.result (length c.counters.result.now) (sym c.relations.ensures) (ap (λ (cs : List Count). length cs) (sym c.counters.ensures.counters)))

pub returns-in-Ok-clause-restarts : goal.returns-in-Ok-clause-restarts
returns-in-Ok-clause-restarts g c = c.assemble.ensures.restarts (schema_base c.args.schema.now) (opens_of g.D.Device c.args.schema.now c.in-Ok.operations c.in-Ok.escrow c.in-Ok.ensures.fresh c.relations.result (length c.counters.result.now) (sym c.relations.ensures) (ap (λ (cs : List Count). length cs) (sym c.counters.ensures.counters)))

pub returns-in-Ok-clause-frames : goal.returns-in-Ok-clause-frames
returns-in-Ok-clause-frames g c = ap (λ (o : Operations g.row.D.Denot). operation_frames o) c.assemble.ensures.operations ∙ c.in-Ok.ensures.frames

pub returns-in-Ok-clause-short : goal.returns-in-Ok-clause-short
returns-in-Ok-clause-short g c = λ short. c.in-Ok.ensures.short short

pub returns-in-Ok-clause-schema : goal.returns-in-Ok-clause-schema
returns-in-Ok-clause-schema g c = (c.assemble.ensures.schema.0 ∙ c.relations.ensures, c.assemble.ensures.schema.1 ∙ ap (λ (cs : List Count). length cs) c.counters.ensures.counters)

pub returns-in-Ok-clause-well : goal.returns-in-Ok-clause-well
returns-in-Ok-clause-well g c = c.assemble.ensures.fails ∙ c.in-Ok.ensures.fresh.operations.well
