use Rattle.std.proofs.Common.{◌≡◌, take}
use Rattle.mt_explain.specs.Explanations.{note_all}
use Rattle.mt_explain.proofs.unfinished.note_batch.Given as goal

abbrev pub invariant-loop-entry : goal.invariant-loop-entry
invariant-loop-entry l = l.list.items ≡ note_all l.initial.list.items (take l.entry-index l.records)
