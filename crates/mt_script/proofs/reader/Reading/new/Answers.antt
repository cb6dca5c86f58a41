use Rattle.mt_script.proofs.ScriptLemmas.{gathered_nothing}
use Rattle.mt_script.proofs.reader.Reading.new.Goals as goal

pub returns : goal.returns
returns g c = rw (c.new.ensures.items, c.new-2.ensures.items) (gathered_nothing g.G.Grammar.text g.G.Grammar.IsIn)
