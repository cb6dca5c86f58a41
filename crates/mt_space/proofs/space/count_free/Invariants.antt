use Rattle.std.proofs.Common.{◌≡◌, take}
use Rattle.mt_space.specs.Rooms.{free_in}
use Rattle.mt_space.proofs.space.count_free.Given as goal

abbrev pub invariant-loop-page : goal.invariant-loop-page
invariant-loop-page l = l.free ≡ free_in (take l.page-index l.pages)
