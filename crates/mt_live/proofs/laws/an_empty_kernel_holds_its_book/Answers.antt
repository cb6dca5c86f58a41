use Rattle.mt_live.proofs.Schedule.{empty_holds_book, nobody_leaves_nothing}
use Rattle.mt_live.proofs.laws.an_empty_kernel_holds_its_book.Goals as goal

pub returns-clause-base : goal.returns-clause-base
returns-clause-base c = empty_holds_book

pub returns-clause-nobody : goal.returns-clause-nobody
returns-clause-nobody c = nobody_leaves_nothing
