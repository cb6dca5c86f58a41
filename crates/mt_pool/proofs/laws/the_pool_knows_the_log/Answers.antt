use Rattle.mt_pool.proofs.Tied.{tied_begin, tied_change, tied_append, tied_same, views_apart, shows_apart}
use Rattle.mt_pool.proofs.laws.the_pool_knows_the_log.Goals as goal

pub returns-clause-begin : goal.returns-clause-begin
returns-clause-begin c = tied_begin

pub returns-clause-change : goal.returns-clause-change
returns-clause-change c = tied_change

pub returns-clause-append : goal.returns-clause-append
returns-clause-append c = tied_append

pub returns-clause-same : goal.returns-clause-same
returns-clause-same c = tied_same

pub returns-clause-elsewhere : goal.returns-clause-elsewhere
returns-clause-elsewhere c = views_apart

pub returns-clause-shows : goal.returns-clause-shows
returns-clause-shows c = shows_apart
