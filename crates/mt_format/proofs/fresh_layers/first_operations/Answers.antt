use Rattle.std.proofs.Common.{◌∙◌, ℕ, length, sym, ap, subst}
use Rattle.mt_log.specs.Words.{appended, used, area_size, has_failed}
use Rattle.mt_op.proofs.Opened.{no_images}
use Rattle.mt_op.specs.Begun.{FitsPages}
use Rattle.mt_pool.specs.Kept.{store_frames}
use Rattle.mt_pool.specs.Images.{slot}
use Rattle.mt_pool.specs.declared.store.Store.{Store}
use Rattle.mt_steps.proofs.Formatting.{formatted_good}
use Rattle.mt_steps.specs.Plans.{IsGood}
use Rattle.mt_format.proofs.Begun.{begun, begun_apart, begun_few, begun_names, begun_on, begun_rules, begun_shows, begun_sound}
use Rattle.mt_format.specs.Schemas.{relations_in, counters_in, pages_in}
use Rattle.mt_format.proofs.fresh_layers.first_operations.Goals as goal

pub over_images-store-requires-clause-on : goal.over_images-store-requires-clause-on
over_images-store-requires-clause-on g c = let r = c.requires in begun_on g.D.Device c.args.schema.now r.pool.0 c.args.device c.args.log c.args.pool _ r.log r.pool.1 c.first_slot_of.ensures r.formatted r.durable

pub over_images-store-requires-clause-sound : goal.over_images-store-requires-clause-sound
over_images-store-requires-clause-sound g c = let r = c.requires in begun_sound g.D.Device c.args.schema.now r.pool.0 c.args.device c.args.log c.args.pool _ r.log r.pool.1 c.first_slot_of.ensures r.formatted r.durable

pub over_images-store-requires-clause-apart : goal.over_images-store-requires-clause-apart
over_images-store-requires-clause-apart g c = let r = c.requires in begun_apart g.D.Device c.args.schema.now r.pool.0 c.args.device c.args.log c.args.pool _ r.log r.pool.1 c.first_slot_of.ensures r.formatted r.durable

pub over_images-store-requires-clause-few : goal.over_images-store-requires-clause-few
over_images-store-requires-clause-few g c = let r = c.requires in begun_few g.D.Device c.args.schema.now r.pool.0 c.args.device c.args.log c.args.pool _ r.log r.pool.1 c.first_slot_of.ensures r.formatted r.durable

pub over_images-store-requires-clause-names : goal.over_images-store-requires-clause-names
over_images-store-requires-clause-names g c = let r = c.requires in begun_names g.D.Device c.args.schema.now r.pool.0 c.args.device c.args.log c.args.pool _ r.log r.pool.1 c.first_slot_of.ensures r.formatted r.durable

pub over_images-store-requires-clause-rules : goal.over_images-store-requires-clause-rules
over_images-store-requires-clause-rules g c = let r = c.requires in begun_rules g.D.Device c.args.schema.now r.pool.0 c.args.device c.args.log c.args.pool _ r.log r.pool.1 c.first_slot_of.ensures r.formatted r.durable

pub over_images-store-requires-clause-durable : goal.over_images-store-requires-clause-durable
over_images-store-requires-clause-durable g c = let r = c.requires in (r.log.none, r.log.flying, r.log.waits)

pub over_images-store-requires-clause-pool : goal.over_images-store-requires-clause-pool
over_images-store-requires-clause-pool g c = let r = c.requires in (r.pool.1.sound, begun_shows g.D.Device c.args.schema.now r.pool.0 c.args.device c.args.log c.args.pool _ r.log r.pool.1 c.first_slot_of.ensures r.formatted r.durable, r.pool.1.waits)

pub returns-clause-operations : goal.returns-clause-operations
returns-clause-operations g c =
    let s = c.args.schema.now in let r = c.requires in
    let opening = slot 8192 (g.D.Device.seen c.args.device) in
    let over = c.over_images-store.ensures in
    let f = begun g.D.Device s r.pool.0 c.args.device c.args.log c.args.pool _ r.log r.pool.1 c.first_slot_of.ensures r.formatted r.durable c.over_images-store.result over.over over.kept in
    let e = c.join.ensures in
    let good = subst (λ (n : ℕ). IsGood (relations_in s) (length (counters_in s)) n opening) (sym f.page_count) (formatted_good (relations_in s) (length (counters_in s)) (pages_in s) opening r.formatted.pages) in
    let fits = subst (λ (n : ℕ). FitsPages n opening c.args.idle) (sym f.page_count) (r.idle.fits opening r.formatted.pages) in
    record {
      right = e.right opening (relations_in s) (length (counters_in s)) f.kept (no_images (appended c.over_images-store.result.log) f.empty) good f.shows fits;
      locks = e.locks ∙ fits.locks;
      unclaimed = e.claimed ∙ r.idle.unclaimed;
      empty = ap (λ (x : Store g.row.D.Denot). appended x.log) e.store ∙ f.empty;
      head = ap (λ (x : Store g.row.D.Denot). used x.log) e.store ∙ f.head;
      well = ap (λ (x : Store g.row.D.Denot). has_failed x.log) e.store ∙ f.well;
      size = ap (λ (x : Store g.row.D.Denot). area_size x.log) e.store ∙ f.size;
    }

pub returns-clause-frames : goal.returns-clause-frames
returns-clause-frames g c = λ frames pool. ap (λ (x : Store g.row.D.Denot). store_frames x) c.join.ensures.store ∙ c.over_images-store.ensures.over.frame_count ∙ pool.many

pub returns-clause-device : goal.returns-clause-device
returns-clause-device g c = ap (λ (x : Store g.row.D.Denot). x.device) c.join.ensures.store ∙ c.over_images-store.ensures.over.device
