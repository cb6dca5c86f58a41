use Rattle.std.proofs.Common.{◌≡◌, None, take, map}
use Rattle.mt_txn.specs.Shown.{SameSchema, StaysRestarting}
use Rattle.mt_alone.specs.Sessions.{HaveServed, StandsEach}
use Rattle.mt_script.specs.Scripts.{lines_in}
use Rattle.mt_alone.proofs.sessions.run_sessions.Given as goal

abbrev pub invariant-loop-script : goal.invariant-loop-script
invariant-loop-script g l = record {
  count : l.session ≡ l.script-index;
  ran : StandsEach l.initial.kernel
      (λ p. HaveServed l.stop None p l.initial.kernel (map lines_in (take l.script-index l.scripts)) (g.W.Write.contents l.initial.writer) (g.W.Write.contents l.writer) l.kernel);
  schema : SameSchema l.initial.kernel l.kernel;
  restarts : StaysRestarting l.initial.kernel l.kernel;
}
