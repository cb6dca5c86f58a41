use Rattle.std.proofs.Common.{rules, arith, ◌≢◌, ◌≤◌, [], length, sym, subst}
use Rattle.std.proofs.lemmas.Grind.{common_steps}
use Rattle.mt_script.specs.Grammars.{AreRefusedFor}
use Rattle.mt_script.proofs.ScriptLemmas.{unended}
use Rattle.mt_script.proofs.reader.Reading.end.Goals as goal

pub returns-then-not-is_empty-clause-cause : goal.returns-then-not-is_empty-clause-cause
returns-then-not-is_empty-clause-cause g c = λ bytes h.
    let lines = c.args.self.lines.items in
    let line = c.args.self.line.items in
    let few : length lines ≤ 100000 = search rules in
    let some : line ≢ [] = grind (arith, common_steps) in
    subst (AreRefusedFor g.G.Grammar.text g.G.Grammar.IsIn bytes) (sym c.bad_line.ensures) (unended g.G.Grammar.text g.G.Grammar.IsIn bytes lines line few some h)
