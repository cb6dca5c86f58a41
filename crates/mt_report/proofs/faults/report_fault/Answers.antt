use Rattle.mt_report.proofs.AdviceLemmas.{all_or_front}
use Rattle.mt_report.proofs.faults.report_fault.Goals as goal

pub returns : goal.returns
returns g c = all_or_front _ _ _ c.write_reported.result c.write_reported.ensures.all c.write_reported.ensures.front
