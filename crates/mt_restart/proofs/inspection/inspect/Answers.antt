use Rattle.std.proofs.lemmas.Result.{err_from_is_err_and}
use Rattle.mt_log.proofs.Ruling.{ruled}
use Rattle.mt_restart.proofs.Surveying.{inspected_of, surveys_shown}
use Rattle.mt_restart.proofs.inspection.inspect.Goals as goal

pub returns-in_err-replayed-clause-no_other_refusal : goal.returns-in_err-replayed-clause-no_other_refusal
returns-in_err-replayed-clause-no_other_refusal g c = λ format relations counters b can.
    let p = err_from_is_err_and c.from_residual.result c.from_residual.ensures.1 in
    rw (p.1, p.2) (c.in_err-replayed.ensures.no_other_refusal format relations counters b can)

pub returns-clause-surveyed : goal.returns-clause-surveyed
returns-clause-surveyed g c = λ format relations counters b can.
    let replayed = c.in_ok-replayed.replayed in
    let e = c.in_ok-replayed.ensures in
    surveys_shown c.only_own_pages_matter.ensures relations counters b (g.D.Device.seen c.args.device.now) replayed.ruling replayed.restored.pages.items c.in_ok-survey_of.field-0 e.replayed (e.found format relations counters b can)
    c.in_ok-survey_of.ensures.surveyed

pub returns-clause-inspected : goal.returns-clause-inspected
returns-clause-inspected g c =
    let replayed = c.in_ok-replayed.replayed in
    inspected_of (g.D.Device.seen c.args.device.now) replayed.ruling replayed.restored.pages.items c.in_ok-survey_of.field-0 c.in_ok-replayed.ensures.replayed c.in_ok-survey_of.ensures.surveyed

pub returns-in_err-survey_of-clause-unformatted : goal.returns-in_err-survey_of-clause-unformatted
returns-in_err-survey_of-clause-unformatted g c = λ none. absurd (ruled (g.D.Device.seen c.args.device.now) c.in_ok-replayed.replayed.ruling c.in_ok-replayed.ensures.log.area.rules none)
