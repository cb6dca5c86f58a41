use Rattle.mt_live.proofs.Schedule.{start_kept, goes, every_schedule}
use Rattle.mt_live.proofs.laws.every_schedule_is_right.Goals as goal

pub returns-clause-start : goal.returns-clause-start
returns-clause-start c = start_kept

pub returns-clause-event : goal.returns-clause-event
returns-clause-event c = goes

pub returns-clause-schedule : goal.returns-clause-schedule
returns-clause-schedule c = every_schedule
