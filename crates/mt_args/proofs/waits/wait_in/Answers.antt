use Rattle.std.proofs.Common.{◌≡◌, ◌∙◌, Some, None, IfErr, IfOk, codes, refl, subst}
use Rattle.clap.specs.Words.{first_of, found_of, rows_of}
use Rattle.clap.proofs.WalkLemmas.{first_value-rows}
use Rattle.mt_args.specs.CommandLines.{AreSeconds, AreNoSeconds, IsMisread}
use Rattle.mt_args.proofs.waits.wait_in.Goals as goal

pub returns-in-Some-clause-seconds : goal.returns-in-Some-clause-seconds
returns-in-Some-clause-seconds c =
    let some : Some c.in-Some.word.now ≡ first_of (codes "wait") (rows_of (found_of c.args.found.now)) = c.in-Some.ensures ∙ first_value-rows (found_of c.args.found.now) (codes "wait") in
    subst (λ o. IfOk c.number_within.result (AreSeconds o)) some c.number_within.ensures.number

pub returns-in-Some-clause-fault : goal.returns-in-Some-clause-fault
returns-in-Some-clause-fault c =
    let some : Some c.in-Some.word.now ≡ first_of (codes "wait") (rows_of (found_of c.args.found.now)) = c.in-Some.ensures ∙ first_value-rows (found_of c.args.found.now) (codes "wait") in
    subst (λ o. IfErr c.number_within.result (IsMisread (AreNoSeconds o))) some c.number_within.ensures.fault

pub returns-in-None-clause-seconds : goal.returns-in-None-clause-seconds
returns-in-None-clause-seconds c =
    let none : None ≡ first_of (codes "wait") (rows_of (found_of c.args.found.now)) = c.in-None.ensures ∙ first_value-rows (found_of c.args.found.now) (codes "wait") in
    subst (λ o. AreSeconds o 0) none refl
