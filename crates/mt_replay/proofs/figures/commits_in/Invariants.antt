use Rattle.std.proofs.Common.{◌≡◌, take}
use Rattle.std.specs.Prelude.{count_by}
use Rattle.mt_replay.specs.Figures.{is_commit}
use Rattle.mt_replay.proofs.figures.commits_in.Given as goal

abbrev pub invariant-loop-entry : goal.invariant-loop-entry
invariant-loop-entry l = l.commits ≡ count_by is_commit (take l.entry-index l.records)
