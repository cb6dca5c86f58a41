use Rattle.std.proofs.Common.{◌≡◌, ◌∙◌, ◌++◌, OnErr, codes, subst}
use Rattle.mt_script.specs.Answers.{AppendsFront}
use Rattle.mt_report.proofs.faults.write_stop.Goals as goal
use Rattle.std.specs.Fmt.{decimal}

pub returns-clause-front : goal.returns-clause-front
returns-clause-front g c =
    let e : c.as_bytes.result.now ≡ decimal c.args.line = c.as_bytes.ensures.value ∙ c.format-digits.ensures.text in
    subst (λ t.
    OnErr c.put_all.result (AppendsFront (g.W.Write.contents c.args.writer.now) (g.W.Write.contents c.put_all.new.writer)
    (codes "line " ++ (t ++ codes " was refused so, and nothing after it ran")))) e c.put_all.ensures.front
