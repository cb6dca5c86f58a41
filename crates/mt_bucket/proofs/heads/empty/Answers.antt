use Rattle.std.proofs.Common.{rules}
use Rattle.mt_bucket.proofs.heads.empty.Goals as goal

pub returns-clause-entries : goal.returns-clause-entries
returns-clause-entries c = search rules

pub returns-clause-bucket : goal.returns-clause-bucket
returns-clause-bucket c = search rules
