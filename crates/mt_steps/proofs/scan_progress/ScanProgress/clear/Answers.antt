use Rattle.mt_steps.proofs.scan_progress.ScanProgress.clear.Goals as goal

pub returns : goal.returns
returns c at_hand total = c.clear.ensures at_hand total c.args.self.now.relation
