use Rattle.mt_index.proofs.Doubling.{just_its_pointers}
use Rattle.mt_index.proofs.laws.a_bucket_is_named_by_its_pattern.Goals as goal

pub returns : goal.returns
returns c = just_its_pointers
