use Rattle.mt_space.specs.PageLists.{bytes_of}
use Rattle.mt_index.proofs.Marks.{IsMarking}
use Rattle.mt_index.proofs.bucket_marks.mark_chain.Given as goal

abbrev pub invariant-loop-step : goal.invariant-loop-step
invariant-loop-step l = IsMarking (bytes_of l.pages) l.fn.homes l.homes l.bucket l.at l._step
