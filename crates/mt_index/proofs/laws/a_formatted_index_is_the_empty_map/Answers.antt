use Rattle.mt_index.proofs.Witness.{formatted}
use Rattle.mt_index.proofs.laws.a_formatted_index_is_the_empty_map.Goals as goal

pub returns : goal.returns
returns c = formatted
