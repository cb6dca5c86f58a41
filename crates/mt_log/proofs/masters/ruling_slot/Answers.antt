use Rattle.std.proofs.Common.{◌<◌, ℕ, List, inl, inr, refl, sym, subst}
use Rattle.std.proofs.lemmas.Result.{err_from_is_err_and}
use Rattle.mt_log.specs.Masters.{IsFoundAt, IsRuling}
use Rattle.mt_log.proofs.Ruling.{first_alone, second_alone, newer_found, newer_fine, only_faults}
use Rattle.mt_log.proofs.masters.ruling_slot.Goals as goal

pub returns-in-None-Some-clause-only : goal.returns-in-None-Some-clause-only
returns-in-None-Some-clause-only g c = λ slot rules.
    let seen = g.D.Device.seen c.args.device.now in
    let same = c.read_slot.ensures.reads.same in
    second_alone c.slots_are_read_back.ensures seen slot c.in-None-Some.slot
    (subst (IsFoundAt 0 seen) c.in-None-Some.is-0 c.in_ok-first.ensures.found)
    (subst (IsFoundAt 4096 seen) c.in-None-Some.is-1 (subst (λ (x : List ℕ). IsFoundAt 4096 x c.in_ok-second.second) same c.in_ok-second.ensures.found))
    rules

pub returns-in-Some-None-clause-only : goal.returns-in-Some-None-clause-only
returns-in-Some-None-clause-only g c = λ slot rules.
    let seen = g.D.Device.seen c.args.device.now in
    let same = c.read_slot.ensures.reads.same in
    first_alone c.slots_are_read_back.ensures seen slot c.in-Some-None.slot
    (subst (IsFoundAt 0 seen) c.in-Some-None.is-0 c.in_ok-first.ensures.found)
    (subst (IsFoundAt 4096 seen) c.in-Some-None.is-1 (subst (λ (x : List ℕ). IsFoundAt 4096 x c.in_ok-second.second) same c.in_ok-second.ensures.found))
    rules

pub returns-in-Some-Some-clause-only : goal.returns-in-Some-Some-clause-only
returns-in-Some-Some-clause-only g c = λ slot rules.
    let seen = g.D.Device.seen c.args.device.now in
    let same = c.read_slot.ensures.reads.same in
    newer_found c.slots_are_read_back.ensures seen c.in-Some-Some.first c.in-Some-Some.second slot c.newer.result
    (subst (IsFoundAt 0 seen) c.in-Some-Some.is-0 c.in_ok-first.ensures.found)
    (subst (IsFoundAt 4096 seen) c.in-Some-Some.is-1 (subst (λ (x : List ℕ). IsFoundAt 4096 x c.in_ok-second.second) same c.in_ok-second.ensures.found))
    rules c.newer.ensures

pub returns-in-Some-Some-clause-no_other_refusal : goal.returns-in-Some-Some-clause-no_other_refusal
returns-in-Some-Some-clause-no_other_refusal g c = λ slot rules.
    let seen = g.D.Device.seen c.args.device.now in
    let same = c.read_slot.ensures.reads.same in
    newer_fine c.slots_are_read_back.ensures seen c.in-Some-Some.first c.in-Some-Some.second slot c.newer.result
    (subst (IsFoundAt 0 seen) c.in-Some-Some.is-0 c.in_ok-first.ensures.found)
    (subst (IsFoundAt 4096 seen) c.in-Some-Some.is-1 (subst (λ (x : List ℕ). IsFoundAt 4096 x c.in_ok-second.second) same c.in_ok-second.ensures.found))
    rules c.newer.ensures

pub returns-in_err-first-clause-no_other_refusal : goal.returns-in_err-first-clause-no_other_refusal
returns-in_err-first-clause-no_other_refusal g c = λ slot rules.
    let seen = g.D.Device.seen c.args.device.now in
    let p = err_from_is_err_and c.from_residual.result c.from_residual.ensures.1 in
    rw (p.1, p.2) (only_faults seen 0 slot c.in_err-first.field-0.0 (g.D.Device.faults c.args.device.now < g.D.Device.faults c.read_slot.new.device) (inl refl) rules c.in_err-first.ensures.cause)

pub returns-in_err-second-clause-no_other_refusal : goal.returns-in_err-second-clause-no_other_refusal
returns-in_err-second-clause-no_other_refusal g c = λ slot rules.
    let seen = g.D.Device.seen c.args.device.now in
    let after = g.D.Device.seen c.read_slot.new.device in
    let p = err_from_is_err_and c.from_residual-in_err-second.result c.from_residual-in_err-second.ensures.1 in
    rw (p.1, p.2) (only_faults after 4096 slot c.in_err-second.field-0.0 (g.D.Device.faults c.read_slot.new.device < g.D.Device.faults c.read_slot-2.new.device) (inr refl)
    (subst (λ (x : List ℕ). IsRuling x slot) (sym c.read_slot.ensures.reads.same) rules) c.in_err-second.ensures.cause)
