use Rattle.std.proofs.Common.{◌≡◌, ◌∙◌, ◌++◌, OnErr, OnOk, codes, subst}
use Rattle.std.specs.Io.KnownBytes.{Appends}
use Rattle.mt_script.specs.Answers.{AppendsFront}
use Rattle.mt_report.proofs.faults.write_line_advice.Goals as goal

pub returns-in-UnknownWord-clause-all : goal.returns-in-UnknownWord-clause-all
returns-in-UnknownWord-clause-all g c =
    let e : c.as_bytes.result.now ≡ g.G.Grammar.all_words = c.as_bytes.ensures.value ∙ c.words.ensures in
    rw c.in-UnknownWord.is (subst (λ t.
    OnOk c.put_all.result (Appends (g.W.Write.contents c.args.writer.now) (g.W.Write.contents c.put_all.new.writer)
    (codes "that line begins with none of these words: " ++ (t ++ codes "; see docs/MANUAL.md")))) e c.put_all.ensures.all)

pub returns-in-UnknownWord-clause-front : goal.returns-in-UnknownWord-clause-front
returns-in-UnknownWord-clause-front g c =
    let e : c.as_bytes.result.now ≡ g.G.Grammar.all_words = c.as_bytes.ensures.value ∙ c.words.ensures in
    rw c.in-UnknownWord.is (subst (λ t.
    OnErr c.put_all.result (AppendsFront (g.W.Write.contents c.args.writer.now) (g.W.Write.contents c.put_all.new.writer)
    (codes "that line begins with none of these words: " ++ (t ++ codes "; see docs/MANUAL.md")))) e c.put_all.ensures.front)
