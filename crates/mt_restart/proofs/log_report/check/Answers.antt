use Rattle.std.proofs.lemmas.Result.{err_from_is_err_and}
use Rattle.mt_log.proofs.Ruling.{ruled}
use Rattle.mt_restart.proofs.Surveying.{sound_of}
use Rattle.mt_restart.proofs.log_report.check.Goals as goal

pub returns-in_err-replayed-clause-no_other_refusal : goal.returns-in_err-replayed-clause-no_other_refusal
returns-in_err-replayed-clause-no_other_refusal g c = λ format relations counters b can.
    let p = err_from_is_err_and c.from_residual.result c.from_residual.ensures.1 in
    rw (p.1, p.2) (c.in_err-replayed.ensures.no_other_refusal format relations counters b can)

pub returns-clause-outcome : goal.returns-clause-outcome
returns-clause-outcome g c =
    let bytes = g.D.Device.seen c.args.device.now in
    let replayed = c.in_ok-replayed.replayed in
    record {
      log = c.report_of.ensures bytes c.in_ok-replayed.ensures.log;
      pages = sound_of bytes replayed.ruling replayed.restored.pages.items c.in_ok-replayed.ensures.replayed;
    }

pub returns-clause-unformatted : goal.returns-clause-unformatted
returns-clause-unformatted g c = λ none. absurd (ruled (g.D.Device.seen c.args.device.now) c.in_ok-replayed.replayed.ruling c.in_ok-replayed.ensures.log.area.rules none)
