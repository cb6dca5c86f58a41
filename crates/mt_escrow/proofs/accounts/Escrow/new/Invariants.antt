use Rattle.std.proofs.Common.{◌≡◌, map, take}
use Rattle.mt_escrow.specs.Rooms.{fresh}
use Rattle.mt_escrow.proofs.accounts.Escrow.new.Given as goal

abbrev pub invariant-loop-count : goal.invariant-loop-count
invariant-loop-count l = l.rooms.items ≡ map fresh (take l.count-index l.counters)
