use Rattle.mt_frame.proofs.TextLengths.{length-record_text}
use Rattle.mt_frame.proofs.laws.lengths_are_of_texts.Goals as goal

pub returns : goal.returns
returns c = length-record_text
