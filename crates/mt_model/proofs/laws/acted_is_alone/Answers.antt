use Rattle.mt_model.proofs.Appends.{alone_from_acted, acted_from_alone, run-alone}
use Rattle.mt_model.proofs.laws.acted_is_alone.Goals as goal

pub returns-clause-replies : goal.returns-clause-replies
returns-clause-replies c = λ b cs. (alone_from_acted b cs, acted_from_alone b cs)

pub returns-clause-base : goal.returns-clause-base
returns-clause-base c = run-alone
