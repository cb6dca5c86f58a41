use Rattle.mt_live.proofs.Keeping.{kept_dropped, kept_given_back}
use Rattle.mt_live.proofs.laws.drop_keeps.Goals as goal

pub returns-clause-dropped : goal.returns-clause-dropped
returns-clause-dropped c = kept_dropped

pub returns-clause-given_back : goal.returns-clause-given_back
returns-clause-given_back c = kept_given_back
