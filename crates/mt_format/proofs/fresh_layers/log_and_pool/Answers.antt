use Rattle.std.proofs.Common.{◌≡◌, ◌+◌, ◌∙◌, [], ◌∷◌, ap, refl, sym, arith}
use Rattle.mt_log.specs.Batch.{joined}
use Rattle.mt_log.specs.Seen.{LogSeen}
use Rattle.mt_log.proofs.Begun.{begun_empty, begun_facts}
use Rattle.mt_log.specs.declared.stage.Stage.TheVariants.{Idle}
use Rattle.mt_format.specs.Schemas.{pages_in, pages_end, area_end}
use Rattle.mt_format.proofs.fresh_layers.log_and_pool.Goals as goal

pub returns-clause-log : goal.returns-clause-log
returns-clause-log c =
    let is = c.in_ok-log.ensures.log in
    let s = c.args.schema.now in
    let area = c.of-area.result in
    let e = begun_facts area [] c.in_ok-log.log (is ∙ sym (begun_empty area)) in
    let size = c.of-area.ensures.size in
    let start : area.start ≡ pages_end s = c.of-area.ensures.first refl in
    let end : area.end ≡ area_end s = omega (arith, start, size) in
    record {
      stands = ap (λ (x : LogSeen). (x.start, x.end, x.gate, x.batches, x.flight, x.stage)) is ∙ (λ i. (start i, end i, start i + 5, [] ∷ [], [], Idle));
      start = e.start ∙ start;
      end = e.end ∙ end;
      size = e.size ∙ omega (arith, size);
      none = ap (λ (x : LogSeen). joined x.batches) is;
      flying = e.none_flies;
      waits = e.none_waits;
      head = e.bytes;
      well = e.well;
      sound = e.sound (pages_in s) (tt, tt) tt;
    }
