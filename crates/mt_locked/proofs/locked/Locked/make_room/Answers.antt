use Rattle.mt_locked.proofs.Books.{more_front}
use Rattle.mt_locked.proofs.locked.Locked.make_room.Goals as goal

pub returns-clause-book : goal.returns-clause-book
returns-clause-book g c = more_front _ _ _ c.flush_step.ensures.book c.go_on.ensures.book
