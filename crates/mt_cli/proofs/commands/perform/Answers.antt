use Rattle.std.proofs.Common.{rules}
use Rattle.mt_cli.proofs.Endings.{done_kept, given_up_of, is_reported}
use Rattle.mt_cli.proofs.commands.perform.Goals as goal

pub returns-clause-done : goal.returns-clause-done
returns-clause-done g c = λ zero.
    let ended = c.finish.ensures.done zero in
    (done_kept _ c.args.command.now _ _ _ _ (search (rules, ended, c.do_command-done.ensures.done)) c.finish.ensures.kept, ended.1)

pub returns-clause-given_up : goal.returns-clause-given_up
returns-clause-given_up g c = λ other.
    let outcome = rw c.reason.ensures at (c.finish.ensures.outcome other) in
    given_up_of _ c.args.command.now _ _ _ _ _ _ _ c.do_command-done.result c.do_command-done.ensures.done c.do_command-done.ensures.undone c.finish.ensures.kept outcome

pub returns-clause-outcome : goal.returns-clause-outcome
returns-clause-outcome g c = λ other. (c.finish.ensures.status other, is_reported c.args.command.now _ _ _ c.do_command-done.result (c.finish.ensures.outcome other))
