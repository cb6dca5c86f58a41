use Rattle.std.proofs.Common.{◌≡◌, ◌+◌, All, vec_len}
use Rattle.mt_locked.specs.Seen.{Beside}
use Rattle.mt_locked.specs.Whole.{IsNew}
use Rattle.mt_locked.proofs.passes.passes_of.Given as goal

abbrev pub invariant-seats : goal.invariant-seats
invariant-seats g l = All (Beside l.end) l.seats.items × All (IsNew g.J.Naming.book) l.passes.items × (vec_len l.seats + vec_len l.passes ≡ vec_len l.initial.seats)

abbrev pub decreases-seats : goal.decreases-seats
decreases-seats g l = vec_len l.seats
