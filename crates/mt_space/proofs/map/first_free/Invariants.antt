use Rattle.std.proofs.Common.{◌≡◌, ◌<◌, ℕ, false, get_or}
use Rattle.mt_space.specs.Rooms.{mapped}
use Rattle.mt_space.proofs.map.first_free.Given as goal

abbrev pub invariant-loop-page : goal.invariant-loop-page
invariant-loop-page l = (p : ℕ) → p < l.page → get_or (mapped l.map l.pages) p false ≡ false
