use Rattle.std.proofs.Common.{◌≡◌, false, take, None}
use Rattle.mt_txn.specs.Shown.{SameSchema, StaysRestarting}
use Rattle.mt_alone.specs.Driven.{IsBeside}
use Rattle.mt_alone.specs.Plays.{Play}
use Rattle.mt_alone.specs.Runs.{HasRunLines}
use Rattle.mt_alone.proofs.alone.run_lines.Given as goal

abbrev pub invariant-loop-line : goal.invariant-loop-line
invariant-loop-line g l = record {
  ran : (p : Play) → p.session ≡ l.session → IsBeside p None l.initial.kernel
      → HasRunLines false None p l.initial.kernel (take l.line-index l.lines) (g.W.Write.contents l.initial.writer) (g.W.Write.contents l.writer) l.live l.kernel;
  schema : SameSchema l.initial.kernel l.kernel;
  restarts : StaysRestarting l.initial.kernel l.kernel;
}
