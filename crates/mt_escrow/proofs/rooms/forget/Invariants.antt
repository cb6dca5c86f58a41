use Rattle.mt_escrow.proofs.Settling.{AreForgotten}
use Rattle.mt_escrow.proofs.rooms.forget.Given as goal

abbrev pub invariant-loop-add : goal.invariant-loop-add
invariant-loop-add l = AreForgotten l.txn l.add-index l.adds l.initial.rooms l.rooms
