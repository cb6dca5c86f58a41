use Rattle.std.proofs.Common.{◌∷◌, refl}
use Rattle.mt_script.specs.declared.lines.Line.TheVariants.{Begin}
use Rattle.mt_server.proofs.AttemptLemmas.{begin_failed, begin_refused}
use Rattle.mt_server.proofs.HearingLemmas.{lets_go_on}
use Rattle.mt_server.proofs.attempts.unbegun.Goals as goal

pub returns-in-DeviceFailed-clause-runs : goal.returns-in-DeviceFailed-clause-runs
returns-in-DeviceFailed-clause-runs c = λ b session booked pass lines. begin_failed b session booked pass pass (Begin ∷ lines) _ _ c.fail.result refl c.fail.ensures.lives c.fail.ensures.stops

pub returns-in_ok-refuse-in_default : goal.returns-in_ok-refuse-in_default
returns-in_ok-refuse-in_default c = record {
  runs = λ b session booked pass lines. begin_refused b session booked pass pass lines c.args.why _ _ (lets_go_on c.args.why c.in_default.not-DeviceFailed, c.requires) refl c.in_ok-refuse-in_default.ensures.ok;
  lives = tt;
  fails = tt;
}
