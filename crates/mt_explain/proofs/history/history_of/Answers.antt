use Rattle.std.proofs.Common.{List, refl, ap, sym, subst, ◌∙◌}
use Rattle.mt_log.specs.Batch.{joined}
use Rattle.mt_log.specs.Found.{records_of}
use Rattle.mt_log.specs.declared.batch.Batch.{Batch}
use Rattle.mt_replay.proofs.Areas.{ended_grammar}
use Rattle.mt_replay.specs.Losers.{AreOfGrammar}
use Rattle.mt_replay.specs.Recorded.{losers}
use Rattle.mt_explain.specs.Explanations.{unfinished}
use Rattle.mt_explain.proofs.history.history_of.Goals as goal

pub losers_of-requires : goal.losers_of-requires
losers_of-requires c = subst AreOfGrammar (sym c.as_slice-2.ensures.value) c.requires

pub returns-clause-outcome : goal.returns-clause-outcome
returns-clause-outcome c = record {
  same = refl;
  unfinished_reported = c.in_ok-unfinished.ensures ∙ ap (λ (bs : List Batch). unfinished (joined (records_of bs))) c.as_slice.ensures.value;
  losers_reported = c.in_ok-losers.ensures.losers ∙ ap (λ (bs : List Batch). losers (joined (records_of bs))) c.as_slice-2.ensures.value;
  operations = ended_grammar _ _ c.in_ok-losers.ensures.ended;
}
