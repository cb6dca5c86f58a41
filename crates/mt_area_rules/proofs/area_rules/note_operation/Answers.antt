use Rattle.mt_area_rules.proofs.RuleLaws.{put_pair}
use Rattle.mt_area_rules.proofs.area_rules.note_operation.Goals as goal

pub returns-in-Ok-clause-ok : goal.returns-in-Ok-clause-ok
returns-in-Ok-clause-ok c = put_pair c.args.set.now c.insert.new.self (c.args.txn, c.args.op) c.in-Ok.ensures.updates
