use Rattle.std.proofs.lemmas.Result.{on_err_weaker}
use Rattle.mt_folder.proofs.FolderLemmas.{kept_still, kept_then, why_before}
use Rattle.mt_device_commands.proofs.waits.Patience.make.Goals as goal

pub loop-init : goal.loop-init
loop-init g c = kept_still (g.F.Folder.files c.args.folder.now)

pub loop-preserved : goal.loop-preserved
loop-preserved g c = kept_then _ _ _ c.loop.invariant c.make.ensures.kept

pub returns-in-Ok-clause-kept : goal.returns-in-Ok-clause-kept
returns-in-Ok-clause-kept g c = kept_then _ _ _ c.loop.invariant c.in-Ok.ensures.kept

pub returns-then-not-is_open-clause-kept : goal.returns-then-not-is_open-clause-kept
returns-then-not-is_open-clause-kept g c = kept_then _ _ _ c.loop.invariant c.in-Err.ensures.kept

pub returns-then-not-is_open-clause-reason : goal.returns-then-not-is_open-clause-reason
returns-then-not-is_open-clause-reason g c = why_before _ _ _ c.loop.invariant c.in-Err.ensures.reason

pub returns-clause-kept : goal.returns-clause-kept
returns-clause-kept g c = kept_then _ _ _ c.loop.invariant c.make-2.ensures.kept

pub returns-clause-reason : goal.returns-clause-reason
returns-clause-reason g c = on_err_weaker c.make-2.result (λ knows. why_before _ _ _ c.loop.invariant knows) c.make-2.ensures.reason
