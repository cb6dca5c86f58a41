use Rattle.std.proofs.Common.{◌≡◌}
use Rattle.mt_server.proofs.line_answers.take_back.Given as goal

abbrev pub invariant-turns : goal.invariant-turns
invariant-turns g l =
    (goal.iterator-turns g).can_next l.iterator' × (goal.iterator-turns g).is_finite l.iterator' × (l.pass ≡ l.initial.pass)
