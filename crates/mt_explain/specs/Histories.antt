-- A log as a history.
use Rattle.std.specs.Prelude.{◌≡◌, ℕ, List, ◌++◌, map}
use Rattle.std.specs.List.{AllByRecursion, concat}
use Rattle.mt_frame.specs.Grammar.{IsOperation}
use Rattle.mt_log.specs.Batch.{joined}
use Rattle.mt_log.specs.Found.{records_of}
use Rattle.mt_log.specs.declared.batch.Batch.{Batch}
use Rattle.mt_replay.specs.Losers.{all_finished}
use Rattle.mt_replay.specs.Recorded.{losers}
use Rattle.mt_explain.specs.Explanations.{batch_lines, put_back_line, undo_lines, unfinished}
use Rattle.mt_explain.specs.Listings.{numbered}
use Rattle.mt_explain.specs.declared.history.History.{History}

-- it has these batches, and what they say of operations
pub record Recounts (batches : List Batch) (h : History) : Type 0 where
  pub same : h.batches.items ≡ batches
  pub unfinished_reported : h.unfinished.items ≡ unfinished (joined (records_of batches))
  pub losers_reported : all_finished h.losers.items ≡ losers (joined (records_of batches))
  pub operations : AllByRecursion (λ l. IsOperation l.done) h.losers.items

abbrev pub history_text : History → List ℕ
history_text h = (numbered batch_lines 1 h.batches.items ++ concat (map put_back_line h.unfinished.items))
    ++ undo_lines (all_finished h.losers.items)
