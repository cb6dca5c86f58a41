use Rattle.mt_live.proofs.Alone.{begins_alone, alone_holds, alone_is_free, alone_acts, alone_returns, alone_settles, alone_commits, alone_leaves}
use Rattle.mt_live.proofs.laws.one_alone_acts_as_the_model.Goals as goal

pub returns-clause-begins : goal.returns-clause-begins
returns-clause-begins c = begins_alone

pub returns-clause-holds : goal.returns-clause-holds
returns-clause-holds c = alone_holds

pub returns-clause-free : goal.returns-clause-free
returns-clause-free c = alone_is_free

pub returns-clause-acts : goal.returns-clause-acts
returns-clause-acts c = alone_acts

pub returns-clause-returns : goal.returns-clause-returns
returns-clause-returns c = alone_returns

pub returns-clause-settles : goal.returns-clause-settles
returns-clause-settles c = alone_settles

pub returns-clause-commits : goal.returns-clause-commits
returns-clause-commits c = alone_commits

pub returns-clause-leaves : goal.returns-clause-leaves
returns-clause-leaves c = alone_leaves
