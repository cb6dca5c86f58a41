use Rattle.mt_script.specs.Scripts.{lines_in}
use Rattle.mt_server.proofs.SessionRuns.{Stands}
use Rattle.mt_server.proofs.session.run_session.Given as goal

abbrev pub invariant-lines : goal.invariant-lines
invariant-lines g l =
    (goal.iterator-lines g).can_next l.iterator' × (goal.iterator-lines g).is_finite l.iterator'
    × Stands g.J.Naming.base l.session l.initial.pass (lines_in l.script) l.at l.out.items l.pass
