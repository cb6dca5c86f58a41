use Rattle.std.proofs.Common.{◌≡◌, ℕ, List, Some, take}
use Rattle.mt_model.specs.History.{Call}
use Rattle.mt_locked.specs.Tokens.{open_calls}
use Rattle.mt_server.specs.Hearing.{Reached, within}
use Rattle.mt_server.proofs.attempts.go_on.Given as goal

abbrev pub invariant-loop-line : goal.invariant-loop-line
invariant-loop-line g l = record {
  count : l.count ≡ l.line-index;
  pass : l.pass ≡ l.initial.pass;
  reached : (booked : List (ℕ × List Call)) → Reached g.J.Naming.base l.initial.kept.done.session (within booked (open_calls l.initial.kept) l.initial.pass) (take l.line-index l.lines) l.initial.out.items l.out.items (Some l.kept) l.pass;
}
