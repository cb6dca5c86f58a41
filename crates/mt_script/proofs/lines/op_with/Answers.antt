use Rattle.mt_script.proofs.LineLemmas.{no_word, differs}
use Rattle.mt_script.proofs.lines.op_with.Goals as goal

pub returns-else-is_text_of-7 : goal.returns-else-is_text_of-7
returns-else-is_text_of-7 c =
    no_word c.args.word.now c.args.words.now c.requires
    (differs _ _ c.is_text_of.result c.is_text_of.ensures c.if-is_text_of.false)
    (differs _ _ c.is_text_of-else-is_text_of.result c.is_text_of-else-is_text_of.ensures c.if-is_text_of-2.false)
    (differs _ _ c.is_text_of-else-is_text_of-2.result c.is_text_of-else-is_text_of-2.ensures c.if-is_text_of-3.false)
    (differs _ _ c.is_text_of-else-is_text_of-3.result c.is_text_of-else-is_text_of-3.ensures c.if-is_text_of-4.false)
    (differs _ _ c.is_text_of-else-is_text_of-4.result c.is_text_of-else-is_text_of-4.ensures c.if-is_text_of-5.false)
    (differs _ _ c.is_text_of-else-is_text_of-5.result c.is_text_of-else-is_text_of-5.ensures c.if-is_text_of-6.false)
    (differs _ _ c.is_text_of-else-is_text_of-6.result c.is_text_of-else-is_text_of-6.ensures c.if-is_text_of-7.false)
