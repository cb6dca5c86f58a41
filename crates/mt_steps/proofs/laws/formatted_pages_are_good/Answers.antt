use Rattle.mt_steps.proofs.Formatting.{formatted_good, formatted_holds}
use Rattle.mt_steps.proofs.laws.formatted_pages_are_good.Goals as goal

pub returns-clause-good : goal.returns-clause-good
returns-clause-good c = formatted_good

pub returns-clause-base : goal.returns-clause-base
returns-clause-base c = formatted_holds
