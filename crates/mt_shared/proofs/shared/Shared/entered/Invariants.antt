use Rattle.std.proofs.Common.{◌≡◌}
use Rattle.mt_shared.proofs.shared.Shared.entered.Given as goal

abbrev pub invariant-turns : goal.invariant-turns
invariant-turns g l =
    (goal.iterator-turns g).can_next l.iterator' × (goal.iterator-turns g).is_finite l.iterator'
    × (l.pass ≡ l.initial.pass) × (l.kept ≡ l.initial.kept) × (l.kept.pass ≡ l.pass.number)
