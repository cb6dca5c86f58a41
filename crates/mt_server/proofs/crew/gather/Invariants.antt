use Rattle.std.proofs.Common.{ℕ, ◌+◌, List, All, map, vec_len}
use mathlib.Core.List.{IsPrefix}
use Rattle.mt_mark.specs.Rule.{dones}
use Rattle.mt_model.specs.declared.history.Committed.{Committed}
use Rattle.mt_server.specs.Crews.{HasDone, IsBoard}
use Rattle.mt_script.specs.Scripts.{lines_in}
use Rattle.mt_locked.specs.Seen.{PassSeen}
use Rattle.mt_locked.specs.Whole.{all_own}
use Rattle.mt_server.proofs.crew.gather.Given as goal

abbrev pub invariant-crew : goal.invariant-crew
invariant-crew g l = record {
  heard : All (λ d. HasDone (map lines_in l.scripts) d.0 d.1) l.done.items;
  placed : (book : List Committed) (count : ℕ) → All (λ (p : PassSeen). IsPrefix (dones p.seen) book) l.passes.items → IsBoard (map lines_in l.scripts) l.initial.board book count → IsBoard (map lines_in l.scripts) l.board book (count + all_own l.passes.items);
}

abbrev pub decreases-crew : goal.decreases-crew
decreases-crew g l = vec_len l.done
