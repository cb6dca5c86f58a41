use Rattle.mt_replay.proofs.Restoring.{ends}
use Rattle.mt_replay.proofs.repeat.Repeating.finish.Goals as goal

pub returns : goal.returns
returns c = ends c.args.op c.taken.result.items c.args.self.now c.taken.new.self c.taken.ensures
