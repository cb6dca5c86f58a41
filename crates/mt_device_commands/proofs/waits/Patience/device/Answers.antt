use Rattle.std.proofs.lemmas.Result.{IfErr-weaker, IfOk-weaker, on_err_weaker, on_ok_weaker}
use Rattle.mt_folder.proofs.FolderLemmas.{kept_still, kept_then, lent_then, refused_before, why_before}
use Rattle.mt_device_commands.proofs.HeldLemmas.{held_before}
use Rattle.mt_device_commands.proofs.waits.Patience.device.Goals as goal

pub loop-init : goal.loop-init
loop-init g c = kept_still (g.F.Folder.files c.args.folder.now)

pub loop-preserved : goal.loop-preserved
loop-preserved g c = kept_then _ _ _ c.loop.invariant c.in-Err.ensures.err

pub returns-in-Ok-clause-held : goal.returns-in-Ok-clause-held
returns-in-Ok-clause-held g c = held_before _ _ c.args.name.now _ c.loop.invariant c.in-Ok.ensures.held

pub returns-in-Ok-clause-lent : goal.returns-in-Ok-clause-lent
returns-in-Ok-clause-lent g c = lent_then _ _ _ c.args.name.now c.loop.invariant c.in-Ok.ensures.lent

pub returns-then-not-is_open-clause-cause : goal.returns-then-not-is_open-clause-cause
returns-then-not-is_open-clause-cause g c = refused_before _ _ c.args.name.now c.in-Err.refusal c.loop.invariant c.in-Err.ensures.cause

pub returns-then-not-is_open-clause-err : goal.returns-then-not-is_open-clause-err
returns-then-not-is_open-clause-err g c = kept_then _ _ _ c.loop.invariant c.in-Err.ensures.err

pub returns-then-not-is_open-clause-reason : goal.returns-then-not-is_open-clause-reason
returns-then-not-is_open-clause-reason g c = why_before _ _ _ c.loop.invariant c.in-Err.ensures.reason

pub returns-clause-held : goal.returns-clause-held
returns-clause-held g c = IfOk-weaker c.device-2.result _ _ (λ device held. held_before _ _ c.args.name.now _ c.loop.invariant held) c.device-2.ensures.held

pub returns-clause-cause : goal.returns-clause-cause
returns-clause-cause g c = IfErr-weaker c.device-2.result _ _ (λ why cause. refused_before _ _ c.args.name.now why c.loop.invariant cause) c.device-2.ensures.cause

pub returns-clause-lent : goal.returns-clause-lent
returns-clause-lent g c = on_ok_weaker c.device-2.result (λ lent. lent_then _ _ _ c.args.name.now c.loop.invariant lent) c.device-2.ensures.lent

pub returns-clause-err : goal.returns-clause-err
returns-clause-err g c = on_err_weaker c.device-2.result (λ kept. kept_then _ _ _ c.loop.invariant kept) c.device-2.ensures.err

pub returns-clause-reason : goal.returns-clause-reason
returns-clause-reason g c = on_err_weaker c.device-2.result (λ knows. why_before _ _ _ c.loop.invariant knows) c.device-2.ensures.reason
