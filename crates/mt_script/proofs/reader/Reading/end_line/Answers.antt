use Rattle.std.proofs.Common.{rules, arith, ◌≡◌, ◌≤◌, ◌∷◌, ◌++◌, length, sym, subst}
use Rattle.mt_script.specs.Grammars.{AreRefusedFor, SpellsIn}
use Rattle.mt_script.proofs.ScriptLemmas.{too_many, bad_line, gathered_line}
use Rattle.mt_script.proofs.reader.Reading.end_line.Goals as goal

pub returns-then-len-ge-MAX_LINES-clause-cause : goal.returns-then-len-ge-MAX_LINES-clause-cause
returns-then-len-ge-MAX_LINES-clause-cause g c = λ front more h.
    let lines = c.args.self.now.lines.items in
    let line = c.args.self.now.line.items in
    let full : length lines ≡ 100000 = search rules in
    subst (AreRefusedFor g.G.Grammar.text g.G.Grammar.IsIn (front ++ 10 ∷ more)) (sym c.bad_line.ensures) (too_many g.G.Grammar.text g.G.Grammar.IsIn front more lines line 10 full h)

pub returns-in_default-clause-cause : goal.returns-in_default-clause-cause
returns-in_default-clause-cause g c = λ front more h.
    let lines = c.args.self.now.lines.items in
    let line = c.args.self.now.line.items in
    let few : length lines ≤ 100000 = search rules in
    let none : (l : _) → SpellsIn g.G.Grammar.text g.G.Grammar.IsIn c.as_slice.result.now l → ⊥ = rw c.in_default.is at c.in_ok-line.ensures in
    subst (AreRefusedFor g.G.Grammar.text g.G.Grammar.IsIn (front ++ 10 ∷ more)) (sym c.bad_line-in_default.ensures) (bad_line g.G.Grammar.text g.G.Grammar.IsIn g.met.G.Grammar.is_whole front more lines line few h (λ l s. none l (subst (λ t. SpellsIn g.G.Grammar.text g.G.Grammar.IsIn t l) (sym c.as_slice.ensures.value) s)))

pub returns-clause-taken : goal.returns-clause-taken
returns-clause-taken g c = λ front h.
    let line = c.args.self.now.line.items in
    let read : SpellsIn g.G.Grammar.text g.G.Grammar.IsIn c.as_slice.result.now c.in-Some.line = rw c.in-Some.is at c.in_ok-line.ensures in
    let spells : SpellsIn g.G.Grammar.text g.G.Grammar.IsIn line c.in-Some.line = subst (λ t. SpellsIn g.G.Grammar.text g.G.Grammar.IsIn t c.in-Some.line) c.as_slice.ensures.value read in
    let fits : length line ≤ 4096 = omega (arith, c.args.self.now.line_fits, c.args.self.now.line.ok.0) in
    rw (c.in_ok-push.ensures.items, c.clear.ensures.items) (gathered_line g.G.Grammar.text g.G.Grammar.IsIn front c.args.self.now.lines.items line c.in-Some.line fits h spells)
