use Rattle.mt_escrow.proofs.Settling.{AreSettled}
use Rattle.mt_escrow.proofs.rooms.settle.Given as goal

abbrev pub invariant-loop-add : goal.invariant-loop-add
invariant-loop-add l = AreSettled l.txn l.add-index l.pending l.initial.rooms l.rooms
