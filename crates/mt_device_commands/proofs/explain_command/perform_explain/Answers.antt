use Rattle.std.proofs.Common.{subst}
use Rattle.std.proofs.KnownBytes.{Keeps-refl}
use Rattle.std.specs.Io.KnownBytes.{Appends}
use Rattle.mt_script.specs.Answers.{AppendsFront}
use Rattle.mt_explain.proofs.HistoryLemmas.{text_is}
use Rattle.mt_device_commands.specs.Explains.{unheard_log, unreported_log}
use Rattle.mt_device_commands.proofs.explain_command.perform_explain.Goals as goal

pub write_history-requires : goal.write_history-requires
write_history-requires g c = c.in-Ok.ensures.outcome.2.operations

pub returns-in-Ok-write_history-clause-explained : goal.returns-in-Ok-write_history-clause-explained
returns-in-Ok-write_history-clause-explained g c =
    let outcome = c.in-Ok.ensures.outcome in record {
      batches = outcome.0;
      of = outcome.1;
      outcome = subst (Appends _ _) (text_is outcome.0 c.in-Ok.history outcome.2) c.in-Ok-write_history.ensures.all;
    }

pub returns-in-Ok-clause-unexplained : goal.returns-in-Ok-clause-unexplained
returns-in-Ok-clause-unexplained g c =
    let outcome = c.in-Ok.ensures.outcome in
    unheard_log outcome.0 outcome.1 (subst (AppendsFront _ _) (text_is outcome.0 c.in-Ok.history outcome.2) c.in-Err-write_history.ensures.front)

pub returns-clause-unexplained : goal.returns-clause-unexplained
returns-clause-unexplained g c = unreported_log c.in-Err.refusal c.in-Err.ensures.cause (Keeps-refl (g.O.Write.contents c.args.out.now))
