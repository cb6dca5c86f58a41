use Rattle.mt_replay.proofs.Undone.{each_finds}
use Rattle.mt_replay.proofs.laws.each_inverse_finds.Goals as goal

pub returns : goal.returns
returns c = each_finds c.bounds_are_kept.ensures
