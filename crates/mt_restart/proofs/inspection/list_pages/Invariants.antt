use Rattle.mt_space.specs.PageLists.{bytes_of}
use Rattle.mt_steps.specs.Listed.{HasListed}
use Rattle.mt_restart.proofs.inspection.list_pages.Given as goal

abbrev pub invariant-loop-number : goal.invariant-loop-number
invariant-loop-number l = HasListed (bytes_of l.pages) l.number l.rows.items
