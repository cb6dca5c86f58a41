use Rattle.std.proofs.Common.{inl, ◌≡◌, ◌∙◌, List, ℕ, Option, Some, None, Result, Ok, Err, sym}
use Rattle.std.specs.Prelude.{IfOk}
use Rattle.std.proofs.lemmas.Result.{IfErr-weaker}
use Rattle.mt_server.proofs.HearingLemmas.{lets_live, reported_refused}
use Rattle.mt_script.specs.declared.lines.Line.TheVariants as line
use Rattle.mt_locked.specs.Seen.{PassSeen}
use Rattle.mt_locked.specs.Tokens.{TxnSeen}
use Rattle.mt_script.specs.declared.answers.Answer.{Answer}
use Rattle.mt_server.specs.Hearing.{Reporting}
use Rattle.mt_server.specs.declared.line_answers.Halt.{Halt}
use Rattle.mt_server.proofs.line_answers.stopped.Goals as goal

-- a line that is only answered leaves its transaction open
open_still : (P : Type 0) (txn : TxnSeen) (pass new : PassSeen) (was now : List ℕ) (answer : Answer) (r : Result (Option TxnSeen) Halt) → Reporting txn pass was now new answer r → IfOk r (λ token. token ≡ None → P)
open_still P txn pass new was now answer (Ok token) is = λ none. let wrong : ◌≡◌ {A = Option TxnSeen} None (Some txn) = sym none ∙ is.0 in absurd cc
open_still P txn pass new was now answer (Err stop) is = tt

pub returns-in-DeviceFailed-clause-turns : goal.returns-in-DeviceFailed-clause-turns
returns-in-DeviceFailed-clause-turns g c = λ op may. inl c.failed.ensures.stops

pub returns-in-Die-clause-turns : goal.returns-in-Die-clause-turns
returns-in-Die-clause-turns g c = λ op may. c.died.ensures.turns op

pub returns-in_default : goal.returns-in_default
returns-in_default g c = record {
  turns = λ op may. reported_refused g.J.Naming.base c.args.txn c.args.pass.now c.requires.own (line.Call op) c.args.why _ _ c.refused.new.pass c.refused.result (lets_live c.args.why c.in_default.not-Die c.in_default.not-DeviceFailed, may) c.refused.ensures.reports;
  lives = λ never. c.refused.ensures.lives;
  dies = IfErr-weaker c.refused.result _ _ (λ outcome alive died. absurd (alive died)) c.refused.ensures.lives;
  ends = open_still _ c.args.txn c.args.pass.now c.refused.new.pass _ _ _ c.refused.result c.refused.ensures.reports;
}
