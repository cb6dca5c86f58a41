use Rattle.std.proofs.Common.{◌≡◌, take}
use Rattle.mt_model.proofs.history.Calls.try_clone.Given as goal

abbrev pub invariant-loop-op : goal.invariant-loop-op
invariant-loop-op l = l.list.items ≡ take l.op-index l.op-items
