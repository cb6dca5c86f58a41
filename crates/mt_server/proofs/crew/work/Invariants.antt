use Rattle.std.proofs.Common.{map}
use Rattle.mt_server.specs.Crews.{AreHeard}
use Rattle.mt_script.specs.Scripts.{lines_in}
use Rattle.mt_server.proofs.crew.work.Given as goal

abbrev pub invariant-turns : goal.invariant-turns
invariant-turns g l =
    (goal.iterator-turns g).can_next l.iterator' × (goal.iterator-turns g).is_finite l.iterator'
    × AreHeard (map lines_in l.scripts) l.pass l.outcome.items
