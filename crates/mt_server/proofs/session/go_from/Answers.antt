use Rattle.std.proofs.Common.{◌∷◌, List, suc, refl, subst, add-one}
use Rattle.mt_script.specs.declared.lines.Line.{Line}
use Rattle.mt_script.specs.declared.lines.Line.TheVariants.{Begin}
use Rattle.mt_server.specs.Hearing.{Running, between}
use Rattle.mt_server.proofs.AttemptLemmas.{from_begin, outside, rest_from}
use Rattle.mt_server.proofs.session.go_from.Goals as goal

pub returns-then-is_begin-clause-runs : goal.returns-then-is_begin-clause-runs
returns-then-is_begin-clause-runs g c = λ booked.
    from_begin g.J.Naming.base c.args.session booked c.args.pass.now c.args.lines.now c.args.at c.index-lines-at.result c.args.out.now.items c.run_surely.new.out.items c.run_surely.new.pass c.run_surely.result c.requires.at c.index-lines-at.is (c.if-is_begin.ensures.0 refl)
    (subst (λ (ls : List Line). Running g.J.Naming.base c.args.session (between booked c.args.pass.now) (Begin ∷ ls) c.args.out.now.items c.run_surely.new.out.items c.run_surely.new.pass c.run_surely.result) (rest_from c.args.lines.now (suc c.args.at))
    (rw add-one at (c.run_surely.ensures.runs booked)))

pub returns-clause-runs : goal.returns-clause-runs
returns-clause-runs g c = λ booked.
    outside g.J.Naming.base c.args.session booked c.args.pass.now c.args.lines.now c.args.at c.index-lines-at.result c.args.out.now.items c.refuse.new.out.items c.requires.at c.index-lines-at.is (λ begin. let wrong = c.if-is_begin.ensures.1 begin in absurd cc) c.in_ok-refuse.ensures.ok
