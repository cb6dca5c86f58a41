use Rattle.mt_device_commands.proofs.DumpLemmas.{dumped_of, left_of, ok_always, stands_on, unopened_of}
use Rattle.mt_device_commands.proofs.dump_command.survey_of_file.Goals as goal

pub returns-clause-outcome : goal.returns-clause-outcome
returns-clause-outcome g c = dumped_of _ c.args.name.now _ c.survey_of-surveyed.result.0 c.in_ok-device.ensures.held c.survey_of-surveyed.ensures.outcome

pub returns-clause-cause : goal.returns-clause-cause
returns-clause-cause g c = unopened_of _ c.args.name.now _ c.survey_of-surveyed.result.0 c.in_ok-device.ensures.held c.survey_of-surveyed.ensures.cause

pub returns-clause-stands : goal.returns-clause-stands
returns-clause-stands g c =
    ok_always c.survey_of-surveyed.result.0 (stands_on _ _ _ c.args.name.now _ _ c.in_ok-device.ensures.held c.in_ok-device.ensures.lent c.back.ensures c.survey_of-surveyed.ensures.stands)

pub returns-clause-left : goal.returns-clause-left
returns-clause-left g c =
    left_of _ _ _ c.args.name.now _ _ c.survey_of-surveyed.result.0 c.in_ok-device.ensures.held c.in_ok-device.ensures.lent c.back.ensures c.survey_of-surveyed.ensures.stands c.survey_of-surveyed.ensures.early
