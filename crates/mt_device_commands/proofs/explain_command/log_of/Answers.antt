use Rattle.std.proofs.Common.{◌≡◌, ◌⊎◌, ◌∙◌, ◌<◌, ℕ, List, subst}
use Rattle.std.proofs.lemmas.Result.{err_from_is_err_and}
use Rattle.mt_base.specs.declared.refusal.Refusal.TheVariants.{BadFormat, DeviceFailed, NoMemory}
use Rattle.mt_log.specs.Holds.{BreaksAt}
use Rattle.mt_log.specs.Masters.{area_end, area_start}
use Rattle.mt_replay.specs.Refused.{BreaksLog}
use Rattle.mt_replay.proofs.Causes.{cause_area}
use Rattle.mt_device_commands.proofs.ExplainLemmas.{log_cause, same_area}
use Rattle.mt_device_commands.proofs.explain_command.log_of.Goals as goal

pub returns-in_err-ruling-clause-cause : goal.returns-in_err-ruling-clause-cause
returns-in_err-ruling-clause-cause g c =
    let p = err_from_is_err_and c.from_residual.result c.from_residual.ensures.1 in
    rw (p.1, p.2) (log_cause _ _ c.in_err-ruling.field-0.0 c.in_err-ruling.ensures.cause)

pub returns-in_err-batches-clause-cause : goal.returns-in_err-batches-clause-cause
returns-in_err-batches-clause-cause g c =
    let p = err_from_is_err_and c.from_residual-in_err-batches.result c.from_residual-in_err-batches.ensures.1 in
    let seen = g.D.Device.seen c.args.device.now in
    let first = g.D.Device.faults c.ruling_slot.new.device in
    let last = g.D.Device.faults c.read_area.new.device in
    let slot = c.in_ok-ruling.ruling in
    let why = c.in_err-batches.field-0.0 in
    let cause = subst (λ (x : List ℕ). (why ≡ NoMemory) ⊎ (((why ≡ DeviceFailed) × (first < last)) ⊎ ((at : ℕ) × (why ≡ BadFormat at) × BreaksAt slot.format x (area_start slot) (area_end slot) slot.pages at)))
    c.ruling_slot.ensures.seen c.in_err-batches.ensures.cause in
    rw (p.1, p.2) (cause_area BreaksLog seen (λ at breaks. breaks) (first < last) (Unit {0}) slot why c.in_ok-ruling.ensures.rules (λ lt. tt) cause)

pub returns-in_err-batches-clause-seen : goal.returns-in_err-batches-clause-seen
returns-in_err-batches-clause-seen g c = c.read_area.ensures.reads.same ∙ c.ruling_slot.ensures.seen

pub returns-clause-log : goal.returns-clause-log
returns-clause-log g c = (c.in_ok-ruling.ruling, same_area _ _ c.in_ok-ruling.ruling c.in_ok-batches.batches.items c.ruling_slot.ensures.seen (record { area = c.in_ok-batches.ensures.found; places = c.in_ok-batches.ensures.places }))

pub returns-clause-seen : goal.returns-clause-seen
returns-clause-seen g c = c.read_area.ensures.reads.same ∙ c.ruling_slot.ensures.seen
