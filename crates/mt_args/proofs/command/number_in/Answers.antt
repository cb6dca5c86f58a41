use Rattle.std.proofs.Common.{◌∙◌, subst}
use Rattle.mt_args.specs.Spelling.{IsNoCount, SpellsCount}
use Rattle.mt_args.proofs.CommandLemmas.{misread_for}
use Rattle.mt_args.proofs.command.number_in.Goals as goal

pub returns-in-Some-clause-number : goal.returns-in-Some-clause-number
returns-in-Some-clause-number c = subst (λ w. SpellsCount w c.in-Some.number) (c.as_bytes.ensures.value ∙ c.text_in.ensures) (rw c.in-Some.is at c.in_ok-number.ensures)

pub returns-in-None-clause-fault : goal.returns-in-None-clause-fault
returns-in-None-clause-fault c = misread_for c.misspelled.result (λ u. subst IsNoCount (c.as_bytes.ensures.value ∙ c.text_in.ensures) (rw c.in-None.is at c.in_ok-number.ensures)) c.misspelled.ensures
