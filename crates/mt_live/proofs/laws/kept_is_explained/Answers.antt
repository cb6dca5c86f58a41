use Rattle.mt_live.proofs.Events.{explained}
use Rattle.mt_live.proofs.Keeping.{kept_explained}
use Rattle.mt_live.proofs.laws.kept_is_explained.Goals as goal

pub returns-clause-kept : goal.returns-clause-kept
returns-clause-kept c = kept_explained

pub returns-clause-sound : goal.returns-clause-sound
returns-clause-sound c = λ held b es locks sound. explained held locks b es sound
