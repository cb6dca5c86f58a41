use Rattle.mt_script.proofs.LineLemmas.{no_bare_line, differs}
use Rattle.mt_script.proofs.lines.bare_line_of.Goals as goal

pub returns-else-is_text_of-4 : goal.returns-else-is_text_of-4
returns-else-is_text_of-4 c =
    no_bare_line c.args.word.now c.requires
    (differs _ _ c.is_text_of.result c.is_text_of.ensures c.if-is_text_of.false)
    (differs _ _ c.is_text_of-else-is_text_of.result c.is_text_of-else-is_text_of.ensures c.if-is_text_of-2.false)
    (differs _ _ c.is_text_of-else-is_text_of-2.result c.is_text_of-else-is_text_of-2.ensures c.if-is_text_of-3.false)
    (differs _ _ c.is_text_of-else-is_text_of-3.result c.is_text_of-else-is_text_of-3.ensures c.if-is_text_of-4.false)
