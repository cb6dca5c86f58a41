use Rattle.std.proofs.Common.{[], ◌∷◌, ◌++◌, append_assoc, codes, subst}
use Rattle.std.specs.Io.KnownBytes.{Appends}
use Rattle.std.proofs.lemmas.Result.{err_from_is_err_and, on_err_weaker, on_ok_weaker}
use Rattle.std.proofs.KnownBytes.{Appends-trans}
use Rattle.mt_script.specs.Answers.{AppendsFront}
use Rattle.mt_script.proofs.TextLemmas.{front_then, front_whole}
use Rattle.mt_report.specs.Advice.{about, advice_of}
use Rattle.mt_report.proofs.faults.write_advice_line.Goals as goal

pub returns-in_err-write_about-clause-front : goal.returns-in_err-write_about-clause-front
returns-in_err-write_about-clause-front g c =
    let p = err_from_is_err_and c.from_residual.result c.from_residual.ensures.1 in
    let named = about c.args.command.now c.args.fault.now ++ codes ": " in
    let advice = advice_of c.args.command.now c.args.reason.now c.args.fault.now in
    rw p.1 (front_whole _ _ named (advice ++ 10 ∷ []) c.in_err-write_about.ensures.front)

pub returns-in_err-write_advice-clause-front : goal.returns-in_err-write_advice-clause-front
returns-in_err-write_advice-clause-front g c =
    let p = err_from_is_err_and c.from_residual-in_err-write_advice.result c.from_residual-in_err-write_advice.ensures.1 in
    let named = about c.args.command.now c.args.fault.now ++ codes ": " in
    let advice = advice_of c.args.command.now c.args.reason.now c.args.fault.now in
    rw p.1 (front_then _ _ _ named advice (10 ∷ []) c.in_ok-write_about.ensures.all c.in_err-write_advice.ensures.front)

pub returns-clause-all : goal.returns-clause-all
returns-clause-all g c =
    let named = about c.args.command.now c.args.fault.now ++ codes ": " in
    let advice = advice_of c.args.command.now c.args.reason.now c.args.fault.now in
    let before = Appends-trans _ _ _ named advice c.in_ok-write_about.ensures.all c.in_ok-write_advice.ensures.all in
    on_ok_weaker c.put.result (λ all. subst (Appends _ _) (append_assoc named advice (10 ∷ [])) (Appends-trans _ _ _ (named ++ advice) (10 ∷ []) before all)) c.put.ensures.all

pub returns-clause-front : goal.returns-clause-front
returns-clause-front g c =
    let named = about c.args.command.now c.args.fault.now ++ codes ": " in
    let advice = advice_of c.args.command.now c.args.reason.now c.args.fault.now in
    let before = Appends-trans _ _ _ named advice c.in_ok-write_about.ensures.all c.in_ok-write_advice.ensures.all in
    on_err_weaker c.put.result (λ front. subst (AppendsFront _ _) (append_assoc named advice (10 ∷ [])) (front_then _ _ _ (named ++ advice) (10 ∷ []) [] before front)) c.put.ensures.front
