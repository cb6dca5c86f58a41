use Rattle.std.proofs.Common.{inl, Bool, List, subst}
use Rattle.mt_disk.proofs.Frame.{leaves_more}
use Rattle.mt_disk.specs.Disk.{Follows}
use Rattle.mt_restart.specs.Turned.{AreInPlace, OnlySlots}
use Rattle.mt_restart.proofs.Renewed.{turned, when_placed, when_turned}
use Rattle.mt_restart.proofs.area_renewal.turn.Goals as goal

pub returns-in_err-log-clause-moments : goal.returns-in_err-log-clause-moments
returns-in_err-log-clause-moments g c = λ opening bs read.
    let D = g.D.Device in
    leaves_more D.moment D.left_since c.args.device.now c.begin_next.new.device _ _ (c.begin_next.ensures.moments opening bs read) (λ x is. inl is)

pub returns-in_err-turn_slot-clause-moments : goal.returns-in_err-turn_slot-clause-moments
returns-in_err-turn_slot-clause-moments g c = λ opening bs read.
    let D = g.D.Device in let o = c.args.device.now in let s = c.begin_next.new.device in let k = c.requires.marked.1 in let still = c.begin_next.ensures.moments opening bs read in
    when_turned D c.args.ruling.now c.args.pages.now c.args.marks.now c.in_ok-log.log s c.in_ok-log.ensures.begun k.images k.lost.size k.count o opening bs still
    (λ x left. still.each x (g.met.D.Device.counts_now s (D.moment o) x still.later left)) c.turn_slot.new.device c.turn_slot.ensures.moments

pub returns-in_err-write_and_sync-clause-moments : goal.returns-in_err-write_and_sync-clause-moments
returns-in_err-write_and_sync-clause-moments g c = λ opening bs read.
    let D = g.D.Device in let o = c.args.device.now in let s = c.begin_next.new.device in let k = c.requires.marked.1 in let still = c.begin_next.ensures.moments opening bs read in
    when_placed D c.args.ruling.now c.args.pages.now c.args.marks.now c.in_ok-log.log s c.in_ok-log.ensures.begun k.images k.lost.size k.count o opening bs still
    (λ x left. still.each x (g.met.D.Device.counts_now s (D.moment o) x still.later left)) c.turn_slot.new.device c.write_and_sync.new.device c.turn_slot.ensures.moments c.in_ok-turn_slot.ensures.rules c.turn_slot.ensures.elsewhere
    c.deref.result.now c.deref.ensures.value c.write_and_sync.ensures.put.moments

pub returns-clause-moments : goal.returns-clause-moments
returns-clause-moments g c = λ opening bs read.
    let D = g.D.Device in let o = c.args.device.now in let s = c.begin_next.new.device in let k = c.requires.marked.1 in let still = c.begin_next.ensures.moments opening bs read in
    when_placed D c.args.ruling.now c.args.pages.now c.args.marks.now c.in_ok-log.log s c.in_ok-log.ensures.begun k.images k.lost.size k.count o opening bs still
    (λ x left. still.each x (g.met.D.Device.counts_now s (D.moment o) x still.later left)) c.turn_slot.new.device c.write_and_sync.new.device c.turn_slot.ensures.moments c.in_ok-turn_slot.ensures.rules c.turn_slot.ensures.elsewhere
    c.deref.result.now c.deref.ensures.value c.write_and_sync.ensures.put.moments

pub returns-clause-turned : goal.returns-clause-turned
returns-clause-turned g c =
    let D = g.D.Device in let s = c.begin_next.new.device in let t = c.turn_slot.new.device in let u = c.write_and_sync.new.device in let k = c.requires.marked.1 in let m = c.args.marks.now in
    turned D c.args.ruling.now c.args.pages.now m c.in_ok-log.log s c.in_ok-log.ensures.begun k.images k.lost.size k.count t u
    (c.in_ok-turn_slot.ensures.rules (D.seen t) (g.met.D.Device.present t)) c.turn_slot.ensures.rest c.turn_slot.ensures.elsewhere
    (subst (λ (xs : List Bool). OnlySlots xs (D.seen t) (D.seen u)) c.deref.ensures.value c.write_and_sync.ensures.put.slots)
    (subst (λ (xs : List Bool). Follows (OnlySlots xs) (D.may_leave t) (D.may_leave u)) c.deref.ensures.value c.write_and_sync.ensures.put.elsewhere)
    (subst (λ (xs : List Bool). AreInPlace xs c.args.pages.now (D.seen u)) c.deref.ensures.value c.in_ok-write_and_sync.ensures.put.written)
    (g.met.D.Device.present s) c.in_ok-write_and_sync.ensures.durable
