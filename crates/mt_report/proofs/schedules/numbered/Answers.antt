use Rattle.mt_script.proofs.LineLemmas.{differs}
use Rattle.mt_report.proofs.EventLemmas.{no_word}
use Rattle.mt_report.proofs.schedules.numbered.Goals as goal

pub returns-else-is_text_of-6 : goal.returns-else-is_text_of-6
returns-else-is_text_of-6 c =
    no_word c.args.word.now _ c.requires.unspaced
    (differs _ _ c.is_text_of.result c.is_text_of.ensures c.if-is_text_of.false)
    c.requires.call
    (differs _ _ c.is_text_of-else-is_text_of.result c.is_text_of-else-is_text_of.ensures c.if-is_text_of-2.false)
    (differs _ _ c.is_text_of-else-is_text_of-2.result c.is_text_of-else-is_text_of-2.ensures c.if-is_text_of-3.false)
    (differs _ _ c.is_text_of-else-is_text_of-3.result c.is_text_of-else-is_text_of-3.ensures c.if-is_text_of-4.false)
    (differs _ _ c.is_text_of-else-is_text_of-4.result c.is_text_of-else-is_text_of-4.ensures c.if-is_text_of-5.false)
    c.requires.back
    (differs _ _ c.is_text_of-else-is_text_of-5.result c.is_text_of-else-is_text_of-5.ensures c.if-is_text_of-6.false)
