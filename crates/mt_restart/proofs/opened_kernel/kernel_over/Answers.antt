use Rattle.std.proofs.Common.{◌∙◌, length, sym, ap, subst}
use Rattle.mt_base.specs.Limits.{IsRelationCount}
use Rattle.mt_space.specs.PageLists.{bytes_of}
use Rattle.mt_op.specs.Operations.{operation_frames}
use Rattle.mt_op.specs.declared.operations.Operations.{Operations}
use Rattle.mt_restart.proofs.Based.{base_of_good}
use Rattle.mt_restart.proofs.opened_kernel.kernel_over.Goals as goal

pub assemble-requires-clause-schema : goal.assemble-requires-clause-schema
assemble-requires-clause-schema g c =
    let r = c.requires.recovered.1 in
    subst IsRelationCount (sym (r.beside.relations ∙ r.checked.good.counts.relations_reported)) r.checked.fits

pub assemble-requires-clause-opens : goal.assemble-requires-clause-opens
assemble-requires-clause-opens g c =
    let items = c.args.recovered.restored.pages.items in let checked = c.requires.recovered.1.checked in
    let based = base_of_good checked.relations checked.counters (length items) (bytes_of items) checked.good in
    ∣ (based.0, c.parts_over-operations.ensures.opens based.0 based.1 based.2) ∣₁

pub returns-clause-opened : goal.returns-clause-opened
returns-clause-opened g c = λ b holds bounds.
    let opens = c.parts_over-operations.ensures.opens b holds bounds in
    record {
      relations_are = c.assemble.ensures.schema.0;
      counters_are = c.assemble.ensures.schema.1;
      shows = c.assemble.ensures.shows b opens;
      restarts = c.assemble.ensures.restarts b opens;
    }

pub returns-clause-device : goal.returns-clause-device
returns-clause-device g c = ap (λ (o : Operations g.row.D.Denot). o.store.device) c.assemble.ensures.operations ∙ c.parts_over-operations.ensures.device

pub returns-clause-ruling : goal.returns-clause-ruling
returns-clause-ruling g c = ap (λ (o : Operations g.row.D.Denot). o.store.ruling) c.assemble.ensures.operations ∙ c.parts_over-operations.ensures.ruling

pub returns-clause-well : goal.returns-clause-well
returns-clause-well g c = c.assemble.ensures.fails ∙ c.parts_over-operations.ensures.well

pub returns-clause-frames : goal.returns-clause-frames
returns-clause-frames g c = λ n found. ap (λ (o : Operations g.row.D.Denot). operation_frames o) c.assemble.ensures.operations ∙ c.parts_over-operations.ensures.frames n found
