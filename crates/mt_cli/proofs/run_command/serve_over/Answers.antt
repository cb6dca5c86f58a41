use Rattle.std.proofs.Common.{arith, refl}
use Rattle.std.proofs.lemmas.List.{length-map}
use Rattle.std.proofs.KnownBytes.{Keeps-refl}
use Rattle.mt_restart.specs.Resumed.{IsOpened}
use Rattle.mt_script.specs.Scripts.{lines_in}
use Rattle.mt_device_commands.proofs.DumpLemmas.{barred_by, stands_same}
use Rattle.mt_cli.proofs.ServeLemmas.{served_by, unserved_by}
use Rattle.mt_cli.specs.Serves.{not_begun, too_many}
use Rattle.mt_cli.proofs.run_command.serve_over.Goals as goal

pub returns-then-are_too_many-clause-unserved : goal.returns-then-are_too_many-clause-unserved
returns-then-are_too_many-clause-unserved g c =
    let many = rw c.if-are_too_many.true at c.are_too_many.ensures in
    too_many (omega (arith, length-map c.args.scripts.now lines_in, many)) refl (Keeps-refl (g.O.Write.contents c.args.out.now))

pub returns-in-Ok-clause-served : goal.returns-in-Ok-clause-served
returns-in-Ok-clause-served g c =
    let D = g.D.Device in
    let b = c.in-Ok.ensures.counted in
    rw c.ended.ensures
    (served_by c.args.stop _ _ _ _ _ (λ n m x. IsOpened n m x c.in-Ok.kernel) _ _ b.0 b.1.opened c.in-Ok.ensures.opened c.serve_opened-ran.result.0 c.serve_opened-ran.ensures.served)

pub returns-in-Ok-clause-unserved : goal.returns-in-Ok-clause-unserved
returns-in-Ok-clause-unserved g c =
    let D = g.D.Device in
    let b = c.in-Ok.ensures.counted in
    rw c.ended.ensures
    (unserved_by c.args.stop _ _ _ _ _ (λ n m x. IsOpened n m x c.in-Ok.kernel) _ _ b.0 b.1.opened c.in-Ok.ensures.opened c.serve_opened-ran.result.0 c.serve_opened-ran.ensures.served c.serve_opened-ran.ensures.short)

pub returns-in-Err-clause-unserved : goal.returns-in-Err-clause-unserved
returns-in-Err-clause-unserved g c =
    let D = g.D.Device in
    let new = c.in-Err.device in
    not_begun c.in-Err.refusal (barred_by _ _ c.in-Err.refusal c.in-Err.ensures.refused.cause)
    (stands_same D c.args.device new c.requires.settled c.in-Err.ensures.moments (λ t le. g.met.D.Device.counts_now new t (D.seen new) le (g.met.D.Device.present new)))
    (λ early. (c.in-Err.ensures.refused.reads early.1).same) (Keeps-refl (g.O.Write.contents c.args.out.now))
