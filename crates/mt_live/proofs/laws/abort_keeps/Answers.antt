use Rattle.std.proofs.Common.{refl, sym}
use Rattle.mt_live.proofs.Keeping.{kept_gone}
use Rattle.mt_live.proofs.laws.abort_keeps.Goals as goal

pub returns-clause-kept : goal.returns-clause-kept
returns-clause-kept c = kept_gone

pub returns-clause-trace : goal.returns-clause-trace
returns-clause-trace c = λ b s t kept idle none. (refl, refl, sym (kept_gone b s t kept idle none).base)
