use Rattle.std.proofs.Common.{◌≡◌, ◌⊎◌, ◌<◌, ℕ, List, inr, subst}
use Rattle.std.proofs.lemmas.Result.{err_from_is_err_and}
use Rattle.mt_base.specs.declared.refusal.Refusal.TheVariants.{BadFormat, DeviceFailed, NoMemory}
use Rattle.mt_log.specs.Holds.{BreaksAt}
use Rattle.mt_replay.specs.Refused.{BreaksLog}
use Rattle.mt_log.specs.Masters.{area_end, area_start}
use Rattle.mt_replay.proofs.Areas.{area_had}
use Rattle.mt_replay.proofs.Causes.{cause_area}
use Rattle.mt_replay.proofs.device_replay.read_log.Goals as goal

pub returns-in_err-ruling-clause-no_other_refusal : goal.returns-in_err-ruling-clause-no_other_refusal
returns-in_err-ruling-clause-no_other_refusal g c = λ format relations counters b can.
    let p = err_from_is_err_and c.from_residual.result c.from_residual.ensures.1 in
    rw (p.1, p.2) (inr (c.in_err-ruling.ensures.no_other_refusal can.stands.slot can.stands.read.rules))

pub returns-in_err-batches-clause-no_other_refusal : goal.returns-in_err-batches-clause-no_other_refusal
returns-in_err-batches-clause-no_other_refusal g c = λ format relations counters b can.
    let p = err_from_is_err_and c.from_residual-in_err-batches.result c.from_residual-in_err-batches.ensures.1 in
    let slot_is = c.in_ok-ruling.ensures.only can.stands.slot can.stands.read.rules in
    rw (p.1, p.2) (c.in_err-batches.ensures.no_other_refusal can.stands.batches
    (area_had format relations counters (g.D.Device.seen c.args.device.now) (g.D.Device.seen c.ruling_slot.new.device) b can c.ruling_slot.ensures.seen c.in_ok-ruling.ruling slot_is))

pub returns-in_err-batches-clause-cause : goal.returns-in_err-batches-clause-cause
returns-in_err-batches-clause-cause g c =
    let p = err_from_is_err_and c.from_residual-in_err-batches.result c.from_residual-in_err-batches.ensures.1 in
    let seen = g.D.Device.seen c.args.device.now in
    let first = g.D.Device.faults c.ruling_slot.new.device in
    let last = g.D.Device.faults c.read_area.new.device in
    let slot = c.in_ok-ruling.ruling in
    let why = c.in_err-batches.field-0.0 in
    let cause = subst (λ (x : List ℕ). (why ≡ NoMemory) ⊎ (((why ≡ DeviceFailed) × (first < last)) ⊎ ((at : ℕ) × (why ≡ BadFormat at) × BreaksAt slot.format x (area_start slot) (area_end slot) slot.pages at)))
    c.ruling_slot.ensures.seen c.in_err-batches.ensures.cause in
    rw (p.1, p.2) (cause_area BreaksLog seen (λ at breaks. breaks) (first < last) (g.D.Device.faults c.args.device.now < last) slot why c.in_ok-ruling.ensures.rules (λ lt. subst (λ (n : ℕ). n < last) (c.in_ok-ruling.ensures.quiet (λ e. cc)) lt) cause)
