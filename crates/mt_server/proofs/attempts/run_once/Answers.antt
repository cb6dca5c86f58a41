use Rattle.std.proofs.Common.{◌∷◌, [], subst, sym}
use Rattle.mt_locked.specs.Tokens.{open_calls}
use Rattle.mt_server.specs.Hearing.{Running, between, within}
use Rattle.mt_server.proofs.AttemptLemmas.{few_ran, run_fresh}
use Rattle.mt_script.specs.declared.lines.Line.TheVariants.{Begin}
use Rattle.mt_locked.specs.Seen.{PassSeen}
use Rattle.mt_server.proofs.attempts.run_once.Goals as goal

pub returns-in-Ok-report_begun-clause-runs : goal.returns-in-Ok-report_begun-clause-runs
returns-in-Ok-report_begun-clause-runs g c = λ booked.
    rw c.and_begin.ensures (run_fresh g.J.Naming.base c.args.session booked c.args.pass.now c.begin.new.pass c.in-Ok.txn c.args.lines.now c.args.out.now.items c.report_begun.new.out.items c.go_on.new.out.items c.go_on.new.pass c.go_on.result c.in-Ok.ensures.pass c.in-Ok.ensures.token
    c.in-Ok-report_begun.ensures.ok (c.go_on.ensures.runs booked))

pub returns-in-Err-clause-runs : goal.returns-in-Err-clause-runs
returns-in-Err-clause-runs g c = λ booked.
    subst (λ (p : PassSeen). Running g.J.Naming.base c.args.session (between booked c.args.pass.now) (Begin ∷ c.args.lines.now) c.args.out.now.items c.unbegun.new.out.items p c.unbegun.result) (sym c.begin.ensures.pass)
    (c.unbegun.ensures.runs g.J.Naming.base c.args.session booked c.args.pass.now c.args.lines.now)

pub and_begin-requires : goal.and_begin-requires
and_begin-requires g c = record {
  few =
      few_ran g.J.Naming.base c.in-Ok.txn.done.session (within [] (open_calls c.in-Ok.txn) c.begin.new.pass) c.args.lines.now _ _ c.go_on.new.pass c.go_on.result c.requires.room (c.go_on.ensures.runs []);
}
