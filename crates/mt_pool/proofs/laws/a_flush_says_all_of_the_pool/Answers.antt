use Rattle.mt_pool.proofs.Flushing.{flushed}
use Rattle.mt_pool.proofs.laws.a_flush_says_all_of_the_pool.Goals as goal

pub returns : goal.returns
returns c = flushed
