use Rattle.mt_steps.proofs.scan_progress.ScanProgress.turn_to.Goals as goal

pub returns-then-ne-clause-so_far : goal.returns-then-ne-clause-so_far
returns-then-ne-clause-so_far c at_hand total so_far = c.clear.ensures at_hand total c.args.relation
