use Rattle.std.proofs.Common.{◌≡◌, ◌∙◌, Some, None, IfErr, IfOk, codes, refl, subst}
use Rattle.clap.specs.Words.{first_of, found_of, rows_of}
use Rattle.clap.proofs.WalkLemmas.{first_value-rows}
use Rattle.mt_args.specs.CommandLines.{AreFrames, AreNoFrames, IsMisread}
use Rattle.mt_args.proofs.run_words.frames_in.Goals as goal

pub returns-in-Some-clause-frames : goal.returns-in-Some-clause-frames
returns-in-Some-clause-frames c =
    let some : Some c.in-Some.word.now ≡ first_of (codes "frames") (rows_of (found_of c.args.found.now)) = c.in-Some.ensures ∙ first_value-rows (found_of c.args.found.now) (codes "frames") in
    subst (λ o. IfOk c.number_within.result (AreFrames o)) some c.number_within.ensures.number

pub returns-in-Some-clause-fault : goal.returns-in-Some-clause-fault
returns-in-Some-clause-fault c =
    let some : Some c.in-Some.word.now ≡ first_of (codes "frames") (rows_of (found_of c.args.found.now)) = c.in-Some.ensures ∙ first_value-rows (found_of c.args.found.now) (codes "frames") in
    subst (λ o. IfErr c.number_within.result (IsMisread (AreNoFrames o))) some c.number_within.ensures.fault

pub returns-in-None-clause-frames : goal.returns-in-None-clause-frames
returns-in-None-clause-frames c =
    let none : None ≡ first_of (codes "frames") (rows_of (found_of c.args.found.now)) = c.in-None.ensures ∙ first_value-rows (found_of c.args.found.now) (codes "frames") in
    subst (λ o. AreFrames o 256) none refl
