use Rattle.std.proofs.Common.{◌∙◌, arith}
use Rattle.mt_file.proofs.Slots.{empty_takes}
use Rattle.mt_slots.proofs.Pages.{slot_past}
use Rattle.mt_file.proofs.insertion.page_of_one.Goals as goal

pub returns-in-Some-clause-alone : goal.returns-in-Some-clause-alone
returns-in-Some-clause-alone c = λ s ne.
    let none = c.empty.ensures.count in
    c.in-Some.ensures.done.sets.2.others s ne ∙ slot_past c.empty.new.page s (omega arith)

pub returns-in-None-clause-one : goal.returns-in-None-clause-one
returns-in-None-clause-one c =
    let key = c.requires.key_fits in
    let value = c.requires.value_fits in
    absurd (empty_takes c.empty.new.page _ c.empty.ensures.count (omega arith) c.in-None.ensures.full)

pub returns-in-None-clause-alone : goal.returns-in-None-clause-alone
returns-in-None-clause-alone c =
    let key = c.requires.key_fits in
    let value = c.requires.value_fits in
    absurd (empty_takes c.empty.new.page _ c.empty.ensures.count (omega arith) c.in-None.ensures.full)
