use Rattle.std.proofs.Common.{map}
use Rattle.mt_script.specs.Scripts.{lines_in}
use Rattle.mt_server.proofs.CrewLemmas.{none_heard}
use Rattle.mt_server.proofs.crew.work.Goals as goal

pub turns-init : goal.turns-init
turns-init g c = (tt, tt, none_heard (map lines_in c.args.scripts.now) c.args.pass _ c.requires.fresh.none c.new-outcome.ensures.items)
