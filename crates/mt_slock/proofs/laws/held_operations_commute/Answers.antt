use Rattle.mt_model.specs.Model.{locks_of}
use Rattle.mt_model.proofs.Commuting.{free_commute}
use Rattle.mt_slock.proofs.Tables.{each_with_each}
use Rattle.mt_slock.proofs.laws.held_operations_commute.Goals as goal

pub returns : goal.returns
returns c = λ held t u f g b together apart hf hg there back. free_commute b f g (each_with_each held t u together apart (locks_of f) (locks_of g) hf hg) there back
