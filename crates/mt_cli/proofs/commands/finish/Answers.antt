use Rattle.std.proofs.Common.{◌≡◌, rules}
use Rattle.std.specs.Result.{MatchResult}
use Rattle.mt_cli.proofs.Endings.{reported_as}
use Rattle.mt_report.specs.declared.faults.Fault.TheVariants.{Output}
use Rattle.mt_cli.proofs.commands.finish.Goals as goal

pub returns-clause-outcome : goal.returns-clause-outcome
returns-clause-outcome g c = λ other.
    let is : MatchResult c.args.done (λ u. c.match-done.fault ≡ Output) (λ f. c.match-done.fault ≡ f) = search rules in
    reported_as c.args.command.now c.args.reason.now _ _ c.args.done c.match-done.fault is c.report_fault.ensures
