use Rattle.std.proofs.Common.{◌≡◌}
use Rattle.mt_server.proofs.attempts.run_surely.Given as goal

abbrev pub invariant-loop-run : goal.invariant-loop-run
invariant-loop-run g l = record { pass : l.pass ≡ l.initial.pass; out : l.out.items ≡ l.initial.out.items }
