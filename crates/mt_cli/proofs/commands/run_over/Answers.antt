use Rattle.std.proofs.Common.{refl}
use Rattle.std.proofs.KnownBytes.{Keeps-refl}
use Rattle.mt_cli.proofs.Trials.{short_of, stopped_end, tried_end, tried_of}
use Rattle.mt_cli.specs.Performs.{unmade, cut}
use Rattle.mt_cli.proofs.commands.run_over.Goals as goal

pub returns-in-Err-clause-cut : goal.returns-in-Err-clause-cut
returns-in-Err-clause-cut g c = unmade _ c.in-Err.ensures.unmade (Keeps-refl (g.O.Write.contents c.args.out.now))

pub returns-in-Ok-run_script-clause-tried : goal.returns-in-Ok-run_script-clause-tried
returns-in-Ok-run_script-clause-tried g c =
    let D = g.D.Device in
    let r = c.in-Ok-run_script in
    rw c.ended.ensures
    (tried_end D c.args.stop r.stopped c.args.script.now.lines.items _ _ (tried_of D c.args.stop r.stopped c.in-Ok.kernel r.kernel c.args.script.now.lines.items _ _ c.in-Ok.ensures.first r.ensures.at r.ensures.ran))

pub returns-in-Ok-run_script-clause-cut : goal.returns-in-Ok-run_script-clause-cut
returns-in-Ok-run_script-clause-cut g c =
    let D = g.D.Device in
    let r = c.in-Ok-run_script in
    rw c.ended.ensures
    (stopped_end D c.args.stop r.stopped c.args.script.now.lines.items _ _ (tried_of D c.args.stop r.stopped c.in-Ok.kernel r.kernel c.args.script.now.lines.items _ _ c.in-Ok.ensures.first r.ensures.at r.ensures.ran))

pub returns-in-Err-run_script-clause-cut : goal.returns-in-Err-run_script-clause-cut
returns-in-Err-run_script-clause-cut g c =
    let D = g.D.Device in
    let left = c.in-Err-run_script.left in
    rw (c.ended-in-Err-run_script.ensures, c.into_device-why.ensures.why)
    (cut left.why _ (short_of D c.in-Ok.kernel c.args.script.now.lines.items _ _ left c.in-Ok.ensures.first c.in-Err-run_script.ensures.cut) refl)

pub returns-in-Err-run_script-clause-tried : goal.returns-in-Err-run_script-clause-tried
returns-in-Err-run_script-clause-tried g c = rw c.ended-in-Err-run_script.ensures tt
