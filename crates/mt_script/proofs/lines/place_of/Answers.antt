use Rattle.std.proofs.Common.{rules, ◌≡◌, ◌∙◌, arith, sym}
use Rattle.std.specs.Fmt.{decimal}
use Rattle.std.proofs.lemmas.Fmt.{decimal_injective}
use Rattle.mt_script.proofs.lines.place_of.Goals as goal

pub returns-in_default : goal.returns-in_default
returns-in_default c = λ n h e.
    let own : c.args.word.now ≡ decimal c.in-Some.number = search rules in
    let same : c.in-Some.number ≡ n = decimal_injective _ _ (search rules) (omega arith) (sym own ∙ e) in
    absurd (omega arith)
