use Rattle.std.proofs.Common.{rules, ◌∙◌, ap, refl, subst, sym}
use Rattle.mt_core.specs.Seen.{core_device}
use Rattle.mt_live.specs.Machine.{start}
use Rattle.mt_model.specs.Views.{base_of}
use Rattle.mt_model.specs.declared.tables.Base.{Base}
use Rattle.mt_locked.proofs.Keeping.{began_so}
use Rattle.mt_shared.proofs.Openings.{first_book, just_opened, no_memory}
use Rattle.mt_disk.specs.Disk.{LeavesOnly}
use Rattle.mt_restart.specs.Recovered.{StandsStill}
use Rattle.mt_restart.specs.Resumed.{HasTurnedOver, IsRestoredBase}
use Rattle.mt_steps.specs.Listed.{IsSame}
use Rattle.mt_txn.specs.Seen.{KernelSeen, seen_of}
use Rattle.mt_shared.proofs.opened.Opened.open.Goals as goal

pub new-requires-clause-began : goal.new-requires-clause-began
new-requires-clause-began g c =
    let k = c.in-Ok.opened.0 in let base = c.in-Ok.opened.1.base in let opened = c.in-Ok.ensures.opened in
    began_so base k (base_of base) (start (base_of base)) refl opened.shows opened.restarts

pub returns-in-Ok-new-clause-base : goal.returns-in-Ok-new-clause-base
returns-in-Ok-new-clause-base g c = λ relations counters b can.
    subst (λ (x : Base). IsSame counters (base_of x) b) (sym c.in-Ok-new.ensures.ok.0) (c.in-Ok.ensures.base relations counters b can)

pub returns-in-Ok-new-clause-first : goal.returns-in-Ok-new-clause-first
returns-in-Ok-new-clause-first g c =
    c.in-Ok-new.ensures.ok.1 ∙ first_book (base_of c.in-Ok.opened.1.base) c.in-Ok.opened.0 c.in-Ok.ensures.opened.shows

pub returns-in-Ok-new-clause-frames : goal.returns-in-Ok-new-clause-frames
returns-in-Ok-new-clause-frames g c = c.in-Ok-new.ensures.frames ∙ c.in-Ok.ensures.frames

pub returns-in-Ok-new-clause-restored : goal.returns-in-Ok-new-clause-restored
returns-in-Ok-new-clause-restored g c =
    subst (λ (x : Base). IsRestoredBase (g.D.Device.seen c.args.device) (base_of x)) (sym c.in-Ok-new.ensures.ok.0) c.in-Ok.ensures.listed

pub returns-in-Err-clause-refused : goal.returns-in-Err-clause-refused
returns-in-Err-clause-refused g c = let e = c.in-Err.ensures.refused in
    record { cause = e.cause; rightly = record { unformatted = e.unformatted; other = e.other; left = e.left; formatted = e.formatted } }

pub returns-clause-refused : goal.returns-clause-refused
returns-clause-refused g c = let r = c.in-Ok.ensures.restored in no_memory c.slots_are_read_back.ensures _ _ r.0 r.1

pub returns-in-Err-clause-settled : goal.returns-in-Err-clause-settled
returns-in-Err-clause-settled g c = λ relations counters b can other x leaves. ∣ c.in-Err.ensures.refused.settled relations counters b can other x leaves ∣₁

pub returns-clause-settled : goal.returns-clause-settled
returns-clause-settled g c = λ relations counters b can other x leaves.
    let D = g.D.Device in
    let back = rw c.into_device.ensures.device at leaves in
    ∣ c.in-Ok.ensures.stands relations counters b can x (rw c.in-Err-new.ensures.same at back) ∣₁

pub returns-in-Ok-new-clause-quiet : goal.returns-in-Ok-new-clause-quiet
returns-in-Ok-new-clause-quiet g c = ap (λ (k : KernelSeen _). g.D.Device.faults (core_device k.core)) c.in-Ok-new.ensures.kernel ∙ c.in-Ok.ensures.quiet

pub returns-in-Ok-new-clause-once : goal.returns-in-Ok-new-clause-once
returns-in-Ok-new-clause-once g c =
    subst (λ (k : KernelSeen _). HasTurnedOver (g.D.Device.seen c.args.device) k.core) (sym c.in-Ok-new.ensures.kernel) c.in-Ok.ensures.once

pub returns-in-Ok-new-clause-moments : goal.returns-in-Ok-new-clause-moments
returns-in-Ok-new-clause-moments g c = λ relations counters b can.
    subst (λ (k : KernelSeen _). LeavesOnly g.D.Device.moment g.D.Device.left_since c.args.device (core_device k.core) (StandsStill g.D.Device relations counters b c.args.device))
    (sym c.in-Ok-new.ensures.kernel) (c.in-Ok.ensures.moments relations counters b can)

pub returns-clause-moments : goal.returns-clause-moments
returns-clause-moments g c = λ relations counters b can.
    let D = g.D.Device in
    rw (c.into_device.ensures.device, c.in-Err-new.ensures.same) (c.in-Ok.ensures.moments relations counters b can)

pub returns-in-Ok-new-clause-many : goal.returns-in-Ok-new-clause-many
returns-in-Ok-new-clause-many g c = search rules

pub returns-in-Ok-new-clause-opened : goal.returns-in-Ok-new-clause-opened
returns-in-Ok-new-clause-opened g c =
    let e = c.in-Ok-new.ensures in
    just_opened g.D.Device (base_of c.in-Ok.opened.1.base) _ (seen_of c.in-Ok.opened.0) _ (ap base_of e.ok.0) e.kernel
    c.in-Ok.ensures.opened.shows c.in-Ok.ensures.well
