use Rattle.std.proofs.Common.{ℕ, List, sym, subst, arith}
use Rattle.mt_file.specs.Rooms.{AreRooms}
use Rattle.mt_file.proofs.Trees.{none_yet, no_rooms}
use Rattle.mt_file.proofs.rooms.Rooms.of.Goals as goal

pub invariant_of-result : goal.invariant_of-result
invariant_of-result c = rw (c.in_ok-vec.ensures.items_if_clones_equal, c.in_ok-vec-2.ensures.items_if_clones_equal) (none_yet c.from-pages.result (let same = c.from-pages.ensures in let few = c.requires in omega arith))

pub returns-clause-rooms : goal.returns-clause-rooms
returns-clause-rooms c = λ all none. subst (λ (fits : List ℕ). AreRooms fits all) (sym (c.in_ok-vec.ensures.items_if_clones_equal (λ y same. same))) (no_rooms c.from-pages.result all none)
