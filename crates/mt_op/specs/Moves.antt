-- What each step does to the world and to its operation.
use Rattle.std.specs.Prelude.{◌≡◌, ◌≢◌, ◌⊎◌, ◌<◌, ℕ, List, [], ◌∷◌, ◌++◌, All, Option, Some, false}
use Rattle.mt_base.specs.Edits.{patched}
use Rattle.mt_base.specs.declared.modes.Mode.TheVariants.{Write}
use Rattle.mt_frame.specs.declared.records.Record.{Record}
use Rattle.mt_frame.specs.declared.records.Record.TheVariants.{Commit, AbortEnd}
use Rattle.mt_plock.specs.declared.guards.PageLock.{PageLock}
use Rattle.mt_plock.specs.Holding.{is_in_way}
use Rattle.mt_plock.specs.Releasing.{locks_without}
use Rattle.mt_frame.specs.PageRecords.{change_records}
use Rattle.mt_space.specs.declared.changes.PageChange.{PageChange}
use Rattle.mt_space.specs.Kinds.{kind}
use Rattle.mt_steps.specs.Asks.{HasSearched}
use Rattle.mt_overlay.specs.declared.overlay.PageCopy.{PageCopy}
use Rattle.mt_op.specs.World.{World, held_in, looked, looked_bytes, changes_in}
use Rattle.mt_op.specs.declared.scope.OpScope.{OpScope}
use Rattle.mt_op.specs.declared.scope.Stage.TheVariants.{Planning}

-- the log's area and the device have as many pages, and began with the same; the present pages may differ where
-- nothing is said of them
pub record SameArea (w z : World) : Type 0 where
  pub opening : z.opening ≡ w.opening
  pub total : z.total ≡ w.total

-- each page is as it was
abbrev pub SamePages : World → World → Type 0
SamePages w z = (p : ℕ) → p < w.total → z.present p ≡ w.present p

-- each page but one is
abbrev pub SamePagesBut : ℕ → World → World → Type 0
SamePagesBut n w z = (p : ℕ) → p < w.total → p ≢ n → z.present p ≡ w.present p

-- a page lock more, that is in no other's way
pub record Locks (w z : World) (l : PageLock) : Type 0 where
  pub area : SameArea w z
  pub pages : SamePages w z
  pub records : z.records ≡ w.records
  pub free : All (λ held. is_in_way l held ≡ false) w.locks
  pub locks : z.locks ≡ w.locks ++ l ∷ []

-- nothing but what is in frames
pub record Rests (w z : World) : Type 0 where
  pub area : SameArea w z
  pub pages : SamePages w z
  pub records : z.records ≡ w.records
  pub locks : z.locks ≡ w.locks

-- a page is written, and its ranges are logged
pub record Writes (w z : World) (s : OpScope) (c : PageChange) : Type 0 where
  pub area : SameArea w z
  pub others : SamePagesBut c.page w z
  pub page : z.present c.page ≡ patched c.edits.items (w.present c.page)
  pub image : Option (List ℕ)
  pub records : z.records ≡ w.records ++ change_records s.txn s.number c.page image (w.present c.page)
      (patched c.edits.items (w.present c.page)) c.edits.items
  pub locks : z.locks ≡ w.locks

-- a record more that is of no page
pub record Notes (w z : World) (r : Record) : Type 0 where
  pub area : SameArea w z
  pub pages : SamePages w z
  pub records : z.records ≡ w.records ++ r ∷ []
  pub locks : z.locks ≡ w.locks

-- a page is put back, and these records are logged
pub record PutsBack (w z : World) (s : OpScope) (c : PageChange) (rs : List Record) : Type 0 where
  pub area : SameArea w z
  pub others : SamePagesBut c.page w z
  pub page : z.present c.page ≡ looked_bytes s c.page
  pub records : z.records ≡ w.records ++ rs
  pub locks : z.locks ≡ w.locks

-- an operation's locks go
pub record Leaves (w z : World) (s : OpScope) : Type 0 where
  pub area : SameArea w z
  pub pages : SamePages w z
  pub records : z.records ≡ w.records
  pub locks : z.locks ≡ locks_without s.number w.locks

-- ---- the operation's own

-- what never changes of it
pub record SameOp (s z : OpScope) : Type 0 where
  pub txn : z.txn ≡ s.txn
  pub number : z.number ≡ s.number
  pub op : z.op ≡ s.op
  pub undoes : z.undoes ≡ s.undoes
  pub split : z.split ≡ s.split
  pub total : z.seen.total ≡ s.seen.total

-- its plan and its locks stay too
pub record SamePlan (s z : OpScope) : Type 0 where
  pub op : SameOp s z
  pub room : z.room ≡ s.room
  pub guards : z.guards.items ≡ s.guards.items
  pub seen : z.seen.list.items ≡ s.seen.list.items
  pub changes : changes_in z ≡ changes_in s
  pub reply : z.reply ≡ s.reply

-- the page that it was led to stays, or is the one that it locks, which holds records
abbrev pub IsLed : World → PageLock → OpScope → OpScope → Type 0
IsLed w l s z = (z.room ≡ s.room) ⊎ ((z.room ≡ Some l.page) × (l.mode ≡ Write) × (kind (held_in w) l.page ≡ 3))

-- it has a lock more, and copies of so many pages more
pub record Gains (w : World) (s z : OpScope) (l : PageLock) (copies : List PageCopy) : Type 0 where
  pub op : SameOp s z
  pub planning : s.stage ≡ Planning
  pub stage : z.stage ≡ Planning
  pub own : l.op ≡ s.number
  pub room : IsLed w l s z
  pub guards : z.guards.items ≡ s.guards.items ++ l ∷ []
  pub seen : z.seen.list.items ≡ s.seen.list.items ++ copies
  pub searched : HasSearched (looked z) z.seen.total z.op z.search
  pub written : z.written ≡ s.written
  pub standing : z.standing ≡ s.standing

-- a record that ends this transaction
abbrev pub EndsTxn : ℕ → Record → Type 0
EndsTxn t r = (r ≡ Commit t) ⊎ (r ≡ AbortEnd t)
