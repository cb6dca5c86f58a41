use Rattle.std.specs.Prelude.{◌≡◌, ◌≤◌, drop, length}
use Rattle.mt_model.specs.Backwards.{calls_back}
use Rattle.mt_locked.proofs.txn_calls.TxnCalls.calls_back.Given as goal

abbrev pub invariant-calls : goal.invariant-calls
invariant-calls l = record {
  least : l.first ≤ l.left;
  most : l.left ≤ length l.self.standing;
  inverses : l.inverses.items ≡ calls_back (drop l.left l.self.standing);
}

abbrev pub decreases-calls : goal.decreases-calls
decreases-calls l = l.left
