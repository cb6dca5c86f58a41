use Rattle.std.proofs.Common.{◌≡◌, ◌-◌, ◌∙◌, ◌∷◌, ℕ, Bool, List, [], length, ap, refl, subst, arith}
use Rattle.std.specs.List.{AllByRecursion}
use Rattle.mt_disk.specs.Disk.{Torn}
use Rattle.mt_log.specs.Batch.{Scans}
use Rattle.mt_log.specs.Holds.{HasItsPage}
use Rattle.mt_log.specs.Seen.{landed}
use Rattle.mt_log.proofs.Begun.{begun_facts}
use Rattle.mt_log.specs.NextSlot.{next_slot}
use Rattle.mt_log.specs.Masters.{area_end, area_size, area_start}
use Rattle.mt_restart.specs.Turned.{AreInPlace, OnlySlots}
use Rattle.mt_restart.proofs.NextArea.{pages_inside}
use Rattle.mt_restart.proofs.Renewed.{begun, next_log, when_begun, when_written}
use Rattle.mt_restart.proofs.area_renewal.begin_next.Goals as goal

pub returns-in_err-write_and_sync-clause-moments : goal.returns-in_err-write_and_sync-clause-moments
returns-in_err-write_and_sync-clause-moments g c = λ opening bs read.
    let D = g.D.Device in let d = c.args.device.now in let k = c.requires.marked in
    when_written D g.met.D.Device.only_now c.args.ruling.now c.args.pages.now c.args.marks.now d k.0 k.1 c.requires.only opening bs read c.write_and_sync.new.device c.deref.result.now c.deref.ensures.value c.write_and_sync.ensures.put.moments

pub begin_prepared-requires-clause-prepared : goal.begin_prepared-requires-clause-prepared
begin_prepared-requires-clause-prepared g c = (c.requires.prepared.place, c.args.marks.now.images.items, c.requires.prepared.first)

pub returns-in_err-log-clause-moments : goal.returns-in_err-log-clause-moments
returns-in_err-log-clause-moments g c = λ opening bs read.
    let D = g.D.Device in let d = c.args.device.now in let k = c.requires.marked in let area = c.requires.prepared.place in
    let start : area.start ≡ area_start (next_slot c.args.ruling.now) = c.requires.prepared.start in
    let end : area.end ≡ area_end (next_slot c.args.ruling.now) = c.requires.prepared.end in
    when_begun D g.met.D.Device.only_now c.args.ruling.now c.args.pages.now c.args.marks.now d k.0 k.1 c.requires.only opening bs read c.write_and_sync.new.device c.deref.result.now c.deref.ensures.value
    c.begin_prepared.new.device c.write_and_sync.ensures.put.moments c.write_and_sync.ensures.put.elsewhere area.start (area.end - area.start) start (omega (arith, start, end)) (c.begin_prepared.ensures.moments area c.args.marks.now.images.items c.requires.prepared.first)

pub returns-clause-moments : goal.returns-clause-moments
returns-clause-moments g c = λ opening bs read.
    let D = g.D.Device in let d = c.args.device.now in let k = c.requires.marked in let area = c.requires.prepared.place in
    let start : area.start ≡ area_start (next_slot c.args.ruling.now) = c.requires.prepared.start in
    let end : area.end ≡ area_end (next_slot c.args.ruling.now) = c.requires.prepared.end in
    when_begun D g.met.D.Device.only_now c.args.ruling.now c.args.pages.now c.args.marks.now d k.0 k.1 c.requires.only opening bs read c.write_and_sync.new.device c.deref.result.now c.deref.ensures.value
    c.begin_prepared.new.device c.write_and_sync.ensures.put.moments c.write_and_sync.ensures.put.elsewhere area.start (area.end - area.start) start (omega (arith, start, end)) (c.begin_prepared.ensures.moments area c.args.marks.now.images.items c.requires.prepared.first)

pub returns-clause-begun : goal.returns-clause-begun
returns-clause-begun g c =
    let D = g.D.Device in let o = c.args.device.now in let w = c.write_and_sync.new.device in let n = c.begin_prepared.new.device in
    let r = c.args.ruling.now in let items = c.args.pages.now in let m = c.args.marks.now in let k = c.requires.marked.1 in let p = c.requires.prepared in let area = p.place in let log = c.in_ok-log.log in
    let e = begun_facts area m.images.items log (c.in_ok-log.ensures.log ∙ ap landed p.first.seen) in
    let start : area.start ≡ area_start (next_slot r) = p.start in
    let end : area.end ≡ area_end (next_slot r) = p.end in
    let size : area.end - area.start ≡ area_size r = omega (arith, start, end) in
    let imaged : c.deref.result.now ≡ m.imaged.items = c.deref.ensures.value in
    let torn : Torn (area_start (next_slot r)) (area_size r) (D.seen w) (D.seen n) = subst (λ (x : ℕ). Torn (area_start (next_slot r)) x (D.seen w) (D.seen n)) size (subst (λ (x : ℕ). Torn x (area.end - area.start) (D.seen w) (D.seen n)) start (c.begin_prepared.ensures.rest area m.images.items p.first)) in
    let scans : Scans (D.seen n) (area_start (next_slot r)) (area_end (next_slot r)) (m.images.items ∷ []) =
    subst (λ (X : Type 0). X) (λ i. Scans (D.seen n) (start i) (end i) (m.images.items ∷ [])) (c.in_ok-log.ensures.begun area m.images.items p.first (D.seen n) (g.met.D.Device.present n)) in
    let next = next_log D r m.images.items n log c.in_ok-log.ensures.on (e.start ∙ start) (e.size ∙ size) e.batches e.none_flies e.none_waits e.bytes e.well
    (e.sound r.pages (k.images.grammar, subst (λ (x : ℕ). AllByRecursion (HasItsPage x) m.images.items) k.count (pages_inside (length items) m.images.items k.images.only)) k.images.first) in
    begun D r items m o w n n c.requires.marked.0 k
    (subst (λ (xs : List Bool). OnlySlots xs (D.seen o) (D.seen w)) imaged c.write_and_sync.ensures.put.slots)
    (subst (λ (xs : List Bool). AreInPlace xs items (D.seen w)) imaged c.in_ok-write_and_sync.ensures.put.written)
    torn refl log next c.in_ok-log.ensures.alone scans
