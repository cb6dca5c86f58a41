use Rattle.std.proofs.Common.{◌∙◌, ap, sym}
use Rattle.mt_script.specs.LineFaults.{first_word}
use Rattle.mt_script.proofs.FaultLemmas.{first_of, first_alone}
use Rattle.mt_script.proofs.faults.first_word.Goals as goal

pub returns-in-Some : goal.returns-in-Some
returns-in-Some c =
    let found = c.in-Some.ensures.found in
    sym (ap first_word found.0 ∙ first_of c.in-Some.word.now c.in-Some.field-0-1.now found.1)

pub returns-in-None : goal.returns-in-None
returns-in-None c = sym (first_alone c.args.line.now c.in-None.ensures.none)
