use Rattle.mt_script.proofs.LineLemmas.{differs}
use Rattle.mt_report.proofs.EventLemmas.{no_bare_event}
use Rattle.mt_report.proofs.schedules.bare_event_of.Goals as goal

pub returns-else-is_text_of-3 : goal.returns-else-is_text_of-3
returns-else-is_text_of-3 c =
    no_bare_event c.args.word.now c.requires
    (differs _ _ c.is_text_of.result c.is_text_of.ensures c.if-is_text_of.false)
    (differs _ _ c.is_text_of-else-is_text_of.result c.is_text_of-else-is_text_of.ensures c.if-is_text_of-2.false)
    (differs _ _ c.is_text_of-else-is_text_of-2.result c.is_text_of-else-is_text_of-2.ensures c.if-is_text_of-3.false)
