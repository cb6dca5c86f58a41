use Rattle.std.proofs.Common.{rules, ◌≡◌, ◌∷◌, ◌++◌, [], ap, sym, subst, ◌∙◌, append_assoc}
use Rattle.std.specs.Result.{OnErr}
use Rattle.std.specs.Fmt.{decimal}
use Rattle.mt_script.specs.Answers.{AppendsFront, count_text}
use Rattle.mt_script.proofs.answers.write_count.Goals as goal

pub returns-clause-front : goal.returns-clause-front
returns-clause-front g c =
    let word = c.args.word.now in
    let digits : c.as_bytes.result.now ≡ decimal c.args.count = search rules in
    let line : word ++ (32 ∷ (c.as_bytes.result.now ++ (10 ∷ []))) ≡ count_text word c.args.count ++ 10 ∷ [] =
    ap (λ d. word ++ (32 ∷ (d ++ (10 ∷ [])))) digits ∙ sym (append_assoc word (32 ∷ decimal c.args.count) (10 ∷ [])) in
    subst (λ t. OnErr c.put_all.result (AppendsFront (g.W.Write.contents c.args.writer.now) (g.W.Write.contents c.put_all.new.writer) t)) line c.put_all.ensures.front
