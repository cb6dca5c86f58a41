use Rattle.std.proofs.Common.{sym, subst}
use Rattle.mt_device_commands.proofs.DumpLemmas.{barred_by, stands_same}
use Rattle.mt_device_commands.specs.Dumps.{StandAs}
use Rattle.mt_device_commands.proofs.dump_command.survey_of.Goals as goal

pub returns-in-Ok-clause-stands : goal.returns-in-Ok-clause-stands
returns-in-Ok-clause-stands g c =
    let D = g.D.Device in
    let new = c.in-Ok.kernel.core.operations.store.device in
    subst (λ (d : _). StandAs (D.seen c.args.device) (D.seen d)) (sym c.into_device.ensures.device)
    (stands_same D c.args.device new c.requires.settled c.in-Ok.ensures.moments (λ t le. g.met.D.Device.counts_now new t (D.seen new) le (g.met.D.Device.present new)))

pub returns-in-Err-clause-cause : goal.returns-in-Err-clause-cause
returns-in-Err-clause-cause g c = barred_by _ _ c.in-Err.refusal c.in-Err.ensures.refused.cause

pub returns-in-Err-clause-stands : goal.returns-in-Err-clause-stands
returns-in-Err-clause-stands g c =
    let D = g.D.Device in
    let new = c.in-Err.device in
    stands_same D c.args.device new c.requires.settled c.in-Err.ensures.moments (λ t le. g.met.D.Device.counts_now new t (D.seen new) le (g.met.D.Device.present new))

pub returns-in-Err-clause-early : goal.returns-in-Err-clause-early
returns-in-Err-clause-early g c = λ early. (c.in-Err.ensures.refused.reads early.1).same
