use Rattle.std.proofs.Common.{◌∙◌, subst}
use Rattle.std.specs.Io.KnownBytes.{Appends}
use Rattle.std.proofs.lemmas.Result.{on_err_weaker, on_ok_weaker}
use Rattle.mt_script.specs.Answers.{AppendsFront}
use Rattle.mt_report.proofs.ExcessLemmas.{outside_same}
use Rattle.mt_report.proofs.excess.write_outside.Goals as goal

pub returns-clause-all : goal.returns-clause-all
returns-clause-all g c =
    let same = outside_same _ _ _ c.args.name.now c.args.limits.now c.args.number c.as_bytes.ensures.value (c.as_bytes-2.ensures.value ∙ c.format-digits.ensures.text) c.as_bytes-3.ensures.value in
    on_ok_weaker c.put_all.result (subst (Appends _ _) same) c.put_all.ensures.all

pub returns-clause-front : goal.returns-clause-front
returns-clause-front g c =
    let same = outside_same _ _ _ c.args.name.now c.args.limits.now c.args.number c.as_bytes.ensures.value (c.as_bytes-2.ensures.value ∙ c.format-digits.ensures.text) c.as_bytes-3.ensures.value in
    on_err_weaker c.put_all.result (subst (AppendsFront _ _) same) c.put_all.ensures.front
