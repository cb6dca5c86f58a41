use Rattle.std.proofs.KnownBytes.{Keeps-refl}
use Rattle.mt_cli.specs.Performs.{unspelled, unbegun}
use Rattle.mt_cli.proofs.Endings.{unheard_at}
use Rattle.mt_cli.proofs.commands.perform_schedule.Goals as goal

pub returns-in-Err-clause-unscheduled : goal.returns-in-Err-clause-unscheduled
returns-in-Err-clause-unscheduled g c = unspelled c.in-Err.why c.in-Err.ensures.unread (Keeps-refl (g.O.Write.contents c.args.out.now))

pub returns-in-Ok-answers_of-clause-unscheduled : goal.returns-in-Ok-answers_of-clause-unscheduled
returns-in-Ok-answers_of-clause-unscheduled g c =
    unheard_at _ _ _ _ c.in-Ok.events.items c.as_slice.result.now c.in-Ok-answers_of.answers.items c.as_slice-in-Ok-answers_of.result.now c.in-Ok.ensures.lines
    c.as_slice.ensures.value c.in-Ok-answers_of.ensures.ran c.as_slice-in-Ok-answers_of.ensures.value c.in-Err-write_all_reported.ensures.front

pub returns-clause-unscheduled : goal.returns-clause-unscheduled
returns-clause-unscheduled g c = unbegun c.in-Err-answers_of.refusal c.in-Err-answers_of.ensures.unmade (Keeps-refl (g.O.Write.contents c.args.out.now))
