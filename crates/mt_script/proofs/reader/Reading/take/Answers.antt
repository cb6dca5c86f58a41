use Rattle.std.proofs.Common.{rules, arith, ◌≡◌, ◌≢◌, ◌≤◌, ◌<◌, ◌+◌, [], ◌++◌, length, sym, subst}
use Rattle.std.proofs.lemmas.Grind.{common_steps}
use Rattle.mt_script.specs.Grammars.{AreRefusedFor}
use Rattle.mt_script.proofs.ScriptLemmas.{part_too_many, part_too_long}
use Rattle.mt_script.proofs.reader.Reading.take.Goals as goal

pub returns-then-len-ge-MAX_LINES-clause-cause : goal.returns-then-len-ge-MAX_LINES-clause-cause
returns-then-len-ge-MAX_LINES-clause-cause g c = λ front more h.
    let lines = c.args.self.now.lines.items in
    let line = c.args.self.now.line.items in
    let part = c.args.part.now in
    let full : length lines ≡ 100000 = search rules in
    let some : part ≢ [] = grind (arith, common_steps) in
    subst (AreRefusedFor g.G.Grammar.text g.G.Grammar.IsIn ((front ++ part) ++ more)) (sym c.bad_line.ensures) (part_too_many g.G.Grammar.text g.G.Grammar.IsIn front more lines line part full some h)

pub returns-then-part-len-clause-cause : goal.returns-then-part-len-clause-cause
returns-then-part-len-clause-cause g c = λ front more h.
    let lines = c.args.self.now.lines.items in
    let line = c.args.self.now.line.items in
    let part = c.args.part.now in
    let few : length lines ≤ 100000 = omega (arith, c.args.self.now.lines_fit, c.args.self.now.lines.ok.0) in
    let long : 4096 < length line + length part = omega (arith, c.if-part-len.true, c.len-2.ensures, c.args.self.now.line_fits, c.args.self.now.line.ok.0) in
    let some : part ≢ [] = grind (arith, common_steps) in
    subst (AreRefusedFor g.G.Grammar.text g.G.Grammar.IsIn ((front ++ part) ++ more)) (sym c.bad_line-then-part-len.ensures) (part_too_long g.G.Grammar.text g.G.Grammar.IsIn front more lines line part few long c.requires some h)
