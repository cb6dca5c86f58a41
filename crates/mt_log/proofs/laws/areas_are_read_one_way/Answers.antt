use Rattle.mt_log.proofs.OneWay.{holds_one, holds_or_breaks, breaks_one}
use Rattle.mt_log.proofs.laws.areas_are_read_one_way.Goals as goal

pub returns-clause-one_row : goal.returns-clause-one_row
returns-clause-one_row c = holds_one

pub returns-clause-not_both : goal.returns-clause-not_both
returns-clause-not_both c = holds_or_breaks

pub returns-clause-one_first_place : goal.returns-clause-one_first_place
returns-clause-one_first_place c = breaks_one
