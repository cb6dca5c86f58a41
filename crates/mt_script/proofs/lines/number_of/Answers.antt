use Rattle.std.proofs.Common.{rules, ◌≡◌, ◌∙◌}
use Rattle.std.specs.Fmt.{decimal}
use Rattle.std.specs.Str.{IsUtf8}
use Rattle.std.proofs.lemmas.Fmt.{parse-decimal, IsAscii-decimal}
use Rattle.std.proofs.lemmas.Str.{IsUtf8-from_ascii}
use Rattle.mt_script.proofs.lines.number_of.Goals as goal

pub returns-in_default : goal.returns-in_default
returns-in_default c = λ n h e.
    let u : IsUtf8 (decimal n) = IsUtf8-from_ascii _ (IsAscii-decimal n h) in
    c.in_default.ensures.cases.0 (rw e u)

pub returns-in_default-parse : goal.returns-in_default-parse
returns-in_default-parse c = λ n h e.
    let t : c.in-Ok.text.now ≡ decimal n = c.in-Ok.ensures.cases.0 ∙ e in
    let r = parse-decimal 64 n _ _ h h t c.parse.ensures.value.0 in search (rules, r)

pub returns : goal.returns
returns c = λ n h e.
    let t : c.in-Ok.text.now ≡ decimal n = c.in-Ok.ensures.cases.0 ∙ e in
    let r = parse-decimal 64 n _ _ h h t c.parse.ensures.value.0 in search (rules, r, e)
