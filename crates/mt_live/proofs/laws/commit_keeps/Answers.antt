use Rattle.mt_live.proofs.Keeping.{kept_booked, committed_count}
use Rattle.mt_live.proofs.laws.commit_keeps.Goals as goal

pub returns-clause-kept : goal.returns-clause-kept
returns-clause-kept c = kept_booked

pub returns-clause-counters : goal.returns-clause-counters
returns-clause-counters c = committed_count
