use Rattle.std.proofs.Common.{◌≤◌, arith, length, subst}
use Rattle.std.proofs.lemmas.Result.{IfErr-weaker, IfOk-weaker}
use Rattle.mt_server.proofs.ServingLemmas.{served_on, unopened_by}
use Rattle.mt_server.specs.Serves.{cut_short, too_many, unopened}
use Rattle.mt_shared.specs.Opens.{HasBegunWith}
use Rattle.mt_server.proofs.service.serve.Goals as goal

pub returns-then-len-gt-MAX_SESSIONS-clause-refused : goal.returns-then-len-gt-MAX_SESSIONS-clause-refused
returns-then-len-gt-MAX_SESSIONS-clause-refused g c = too_many (omega arith)

pub returns-in-Err-clause-refused : goal.returns-in-Err-clause-refused
returns-in-Err-clause-refused g c = unopened c.in-Err.why (omega arith) (unopened_by _ _ _ c.in-Err.ensures.refused)

pub returns-clause-refused : goal.returns-clause-refused
returns-clause-refused g c =
    let few : length c.args.scripts.items ≤ 64 = omega arith in
    IfErr-weaker c.serve_named.result _ _ (λ why late. cut_short why few (c.in-Ok.ensures.restored.items, c.in-Ok.ensures.restored.restored) late) c.serve_named.ensures.late

pub returns-clause-frames : goal.returns-clause-frames
returns-clause-frames g c =
    let D = g.D.Device in let o = c.in-Ok.opened in
    IfOk-weaker c.serve_named.result _ _ (λ s opened. (o.base, c.in-Ok.ensures.base, subst (λ n. HasBegunWith D n o.base) c.in-Ok.ensures.frames opened)) c.serve_named.ensures.frames

pub returns-clause-began : goal.returns-clause-began
returns-clause-began g c =
    let D = g.D.Device in
    IfOk-weaker c.serve_named.result _ _ (λ s began. served_on (D.seen c.args.device) c.in-Ok.opened.base s.kernel c.in-Ok.ensures.base c.in-Ok.ensures.restored began) c.serve_named.ensures.began

pub returns-clause-few : goal.returns-clause-few
returns-clause-few g c =
    let few : length c.args.scripts.items ≤ 64 = omega arith in
    IfOk-weaker c.serve_named.result _ _ (λ s began. few) c.serve_named.ensures.began

pub returns-clause-outcome : goal.returns-clause-outcome
returns-clause-outcome g c = rw c.as_slice.ensures.value at c.serve_named.ensures.outcome
