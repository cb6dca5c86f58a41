-- What goes on if the log turns over to its other area.
use Rattle.std.specs.Prelude.{◌≡◌, []}
use Rattle.mt_disk.specs.declared.device.Device.{Ghosts}
use Rattle.mt_escrow.specs.Seen.{Escrowed}
use Rattle.mt_model.specs.Model.{Base, IsBase}
use Rattle.mt_op.specs.Operations.{IsRight}
use Rattle.mt_op.specs.declared.operations.Operations.{Operations}
use Rattle.mt_space.specs.Changes.{PageBytes}
use Rattle.mt_steps.specs.Held.{Holds}
use Rattle.mt_core.specs.Consistent.{Origin, IsConsistent, IsEscrowed, IsIn, state_of}
use Rattle.mt_core.specs.Restartable.{IsRestartable}
use Rattle.mt_core.specs.declared.next_area.Rest.{Rest}
use Rattle.mt_core.specs.declared.parts.Core.{Core}

-- all of them but the operations, the escrow and what is under way
pub record IsRestOf {D : Type 0} (k : Core D) (r : Rest) : Type 0 where
  pub live : r.live ≡ k.live
  pub locks : r.locks ≡ k.locks
  pub book : r.book ≡ k.book
  pub last : r.last ≡ k.last
  pub reserved : r.reserved ≡ k.reserved

-- the new area begins with the book, on these pages and the base that they hold
abbrev pub turned : {D : Type 0} → Origin → Base → PageBytes → Core D → Origin
turned origin base pages k = record origin { earlier = k.book.items; begun = base; pages = pages }

-- No transaction is active in parts that are consistent on a base. Other operations are right over pages that hold
-- it, and an escrow has its counters.
pub record TurnsOver {D : Type 0} (g : Ghosts D) (origin : Origin) (base : Base)
    (k : Core D) (pages : PageBytes) (operations : Operations D) (escrow : Escrowed) : Type 0 where
  pub nobody : k.live.members ≡ []
  pub consistent : IsConsistent g origin base k
  pub bounds : IsBase base
  pub holds : Holds pages base
  pub right : IsRight g pages origin.relations origin.counters operations
  pub escrowed : IsEscrowed origin.counters base escrow

-- Whatever parts this was the rest of, if they turn over to these operations and this escrow, the laws see nothing of
-- it, and a restart over the new area finds the base with which that begins.
abbrev pub Resumes : {D : Type 0} → Ghosts D → Rest → Operations D → Escrowed → Core D → Type 0
Resumes {D} g rest operations escrow n = (k : Core D) (origin : Origin) (base : Base) (pages : PageBytes)
    → IsRestOf k rest → TurnsOver g origin base k pages operations escrow
    → IsIn g (turned origin base pages k) base (state_of k base) n
    × IsRestartable (turned origin base pages k) n
