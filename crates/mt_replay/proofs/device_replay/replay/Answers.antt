use Rattle.std.proofs.Common.{List, ℕ, inr, sym, subst}
use Rattle.std.proofs.lemmas.Result.{err_from_is_err_and}
use Rattle.mt_log.specs.Masters.{IsRuling}
use Rattle.mt_replay.specs.Stands.{CanReplay}
use Rattle.mt_replay.proofs.device_replay.replay.Goals as goal

pub returns-in_err-ruling-clause-no_other_refusal : goal.returns-in_err-ruling-clause-no_other_refusal
returns-in_err-ruling-clause-no_other_refusal g c = λ format relations counters b can.
    let p = err_from_is_err_and c.from_residual.result c.from_residual.ensures.1 in
    rw (p.1, p.2) (inr (c.in_err-ruling.ensures.no_other_refusal can.stands.slot can.stands.read.rules))

pub replay_by-requires-clause-only : goal.replay_by-requires-clause-only
replay_by-requires-clause-only g c = λ slot rules. c.in_ok-ruling.ensures.only slot (subst (λ (x : List ℕ). IsRuling x slot) c.ruling_slot.ensures.seen rules)

pub returns-clause-found : goal.returns-clause-found
returns-clause-found g c = λ format relations counters b can.
    c.replay_by.ensures.found format relations counters b (subst (λ (x : List ℕ). CanReplay format relations counters x b) (sym c.ruling_slot.ensures.seen) can)

pub returns-clause-no_other_refusal : goal.returns-clause-no_other_refusal
returns-clause-no_other_refusal g c = λ format relations counters b can.
    c.replay_by.ensures.no_other_refusal format relations counters b (subst (λ (x : List ℕ). CanReplay format relations counters x b) (sym c.ruling_slot.ensures.seen) can)
