use Rattle.mt_steps.proofs.scan_progress.ScanProgress.new.Goals as goal

pub returns : goal.returns
returns c at_hand total = c.new-2.ensures at_hand total _
