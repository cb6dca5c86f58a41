use Rattle.std.proofs.Common.{◌≡◌, ◌++◌, List, All, vec_len}
use Rattle.mt_mark.specs.Rule.{Holds, IsConfirmed}
use Rattle.mt_locked.specs.Seen.{PassSeen}
use Rattle.mt_locked.proofs.returned_passes.meet_all.Given as goal

abbrev pub invariant-passes : goal.invariant-passes
invariant-passes g l =
    ((done : List PassSeen) × (l.passes.items ++ done ≡ l.initial.passes.items) × All (λ (p : PassSeen). Holds p.number p.seen l.initial.end.view.list) done)
    × (l.end.mark ≡ l.initial.end.mark) × (l.end.view.list ≡ l.initial.end.view.list) × IsConfirmed l.end.view

abbrev pub decreases-passes : goal.decreases-passes
decreases-passes g l = vec_len l.passes
