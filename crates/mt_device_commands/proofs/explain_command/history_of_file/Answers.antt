use Rattle.std.proofs.Common.{inl, inr}
use Rattle.std.proofs.lemmas.Result.{IfErr-weaker, IfOk-weaker}
use Rattle.mt_replay.proofs.Areas.{grammar_of}
use Rattle.mt_device_commands.proofs.explain_command.history_of_file.Goals as goal

pub history_of-requires : goal.history_of-requires
history_of-requires g c = let log = c.in_ok-batches.ensures.log in grammar_of log.2.0.pages c.in_ok-batches.batches.items log.2.1.area.held.each

pub returns-clause-outcome : goal.returns-clause-outcome
returns-clause-outcome g c = IfOk-weaker c.history_of.result _ _ (λ h outcome. (c.in_ok-batches.batches.items, c.in_ok-batches.ensures.log, outcome)) c.history_of.ensures.outcome

pub returns-clause-cause : goal.returns-clause-cause
returns-clause-cause g c = IfErr-weaker c.history_of.result _ _ (λ why memory. inl (inr memory)) c.history_of.ensures.only_memory
