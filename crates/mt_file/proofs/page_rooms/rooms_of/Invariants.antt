use Rattle.mt_file.proofs.Roomed.{AreNotedTo}
use Rattle.mt_file.proofs.page_rooms.rooms_of.Given as goal

abbrev pub invariant-loop-number : goal.invariant-loop-number
invariant-loop-number l = AreNotedTo l.pages l.rooms l.number
