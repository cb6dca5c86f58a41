use Rattle.std.proofs.Common.{◌≡◌, ◌∙◌, length, ap, sym, arith}
use Rattle.mt_space.specs.PageLists.{bytes_of}
use Rattle.mt_log.specs.Words.{has_failed}
use Rattle.mt_op.specs.Begun.{ShowsOpening}
use Rattle.mt_pool.specs.Kept.{IsKept, store_frames}
use Rattle.mt_pool.specs.Views.{pages, view}
use Rattle.mt_pool.specs.declared.store.Store.{Store}
use Rattle.mt_restart.proofs.Opened.{apart, few, fresh_again, images_of_pages, log_sound, long, names_next, opens_again, rules_next, safe, viewed}
use Rattle.mt_restart.proofs.opened_kernel.parts_over.Goals as goal

pub over_images-store-requires-clause-sound : goal.over_images-store-requires-clause-sound
over_images-store-requires-clause-sound g c = let r = c.requires.recovered in log_sound g.D.Device r.0 c.args.device c.args.recovered r.1 (pages c.args.recovered.beside.pool) r.1.beside.page_count

pub over_images-store-requires-clause-durable : goal.over_images-store-requires-clause-durable
over_images-store-requires-clause-durable g c = let n = c.requires.recovered.1.turned.next in (n.durable_is ∙ sym c.deref.ensures.value, n.flying, n.waits)

pub over_images-store-requires-clause-images : goal.over_images-store-requires-clause-images
over_images-store-requires-clause-images g c = let r = c.requires.recovered in images_of_pages g.D.Device r.0 c.args.device c.args.recovered r.1 (pages c.args.recovered.beside.pool) c.deref.result.now r.1.beside.page_count c.deref.ensures.value

pub over_images-store-requires-clause-apart : goal.over_images-store-requires-clause-apart
over_images-store-requires-clause-apart g c = let r = c.requires.recovered in let a = apart g.D.Device r.0 c.args.device c.args.recovered r.1 in let place = r.1.beside.place in let many = r.1.beside.page_count in omega (arith, a, place, many)

pub over_images-store-requires-clause-few : goal.over_images-store-requires-clause-few
over_images-store-requires-clause-few g c = let r = c.requires.recovered in let f = few g.D.Device r.0 c.args.device c.args.recovered r.1 in let many = r.1.beside.page_count in omega (arith, f, many)

pub over_images-store-requires-clause-pool : goal.over_images-store-requires-clause-pool
over_images-store-requires-clause-pool g c = let r = c.requires.recovered in (r.1.beside.pool, r.1.beside.shows (g.D.Device.seen c.args.device) (long g.D.Device r.0 c.args.device c.args.recovered r.1), r.1.beside.waits)

pub over_images-store-requires-clause-names : goal.over_images-store-requires-clause-names
over_images-store-requires-clause-names g c = let r = c.requires.recovered in names_next g.D.Device r.0 c.args.device c.args.recovered r.1

pub over_images-store-requires-clause-rules : goal.over_images-store-requires-clause-rules
over_images-store-requires-clause-rules g c = let r = c.requires.recovered in rules_next g.D.Device r.0 c.args.device c.args.recovered r.1

pub returns : goal.returns
returns g c =
    let seen = g.D.Device.seen in let may = g.D.Device.may_leave in let r = c.requires.recovered in let d = c.args.device in let v = c.args.recovered in let items = v.restored.pages.items in let s = c.over_images-store.result in let o = c.over_images-store.ensures in let j = c.join.ensures in
    let many : pages s.pool ≡ length items = o.over.page_count ∙ r.1.beside.page_count in
    let kept : IsKept g.D.Device (bytes_of items) s = o.kept (bytes_of items) (safe g.D.Device r.0 d v r.1 v.beside.pool.place (pages v.beside.pool) c.deref.result.now r.1.beside.place r.1.beside.page_count c.deref.ensures.value) (λ p lt. viewed g.D.Device r.0 d v r.1 p (pages v.beside.pool) r.1.beside.page_count lt) in
    let shows : ShowsOpening g.D.Device (bytes_of items) s = λ p lt. o.over.views (seen s.device) p ∙ ap (λ (x : g.row.D.Denot). view v.beside.pool (seen x) p) o.over.device ∙ viewed g.D.Device r.0 d v r.1 p (pages s.pool) many lt in
    record {
      fresh = fresh_again g.D.Device r.0 d v r.1 s o.over.log many kept shows c.join.result j.store j.locks j.claimed j.right;
      opens = λ b holds bounds. opens_again g.D.Device r.0 d v r.1 s o.over.log many kept shows c.join.result j.store j.locks j.claimed j.right b holds bounds;
      device = ap (λ (x : Store g.row.D.Denot). x.device) c.join.ensures.store ∙ o.over.device;
      ruling = ap (λ (x : Store g.row.D.Denot). x.ruling) c.join.ensures.store ∙ o.over.ruling;
      frames = λ n found. ap (λ (x : Store g.row.D.Denot). store_frames x) j.store ∙ o.over.frame_count ∙ found.beside.many;
      well = ap (λ (x : Store g.row.D.Denot). has_failed x.log) j.store ∙ ap has_failed o.over.log ∙ r.1.turned.next.well;
    }
