use Rattle.mt_report.proofs.AdviceLemmas.{all_or_front}
use Rattle.mt_report.proofs.faults.report_unread.Goals as goal

pub returns : goal.returns
returns g c = all_or_front _ _ _ c.write_unread.result c.write_unread.ensures.all c.write_unread.ensures.front
