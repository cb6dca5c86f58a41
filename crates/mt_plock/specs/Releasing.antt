-- Which locks go when some are given back.
use Rattle.std.specs.Prelude.{ℕ, ◌≡◌, ◌≢◌, ◌<◌, ◌==◌, not, List, [], ◌∷◌, ◌++◌, filter, length, slice_index_or, Contains}
use Rattle.mt_plock.specs.declared.guards.PageLock.{PageLock}

-- an operation's locks, and the others'
abbrev pub locks_of : ℕ → List PageLock → List PageLock
locks_of op locks = filter (λ (l : PageLock). l.op == op) locks

abbrev pub locks_without : ℕ → List PageLock → List PageLock
locks_without op locks = filter (λ (l : PageLock). not (l.op == op)) locks

-- the place of the last of the locks that is this one
pub record IsLastAt (locks : List PageLock) (lock : PageLock) (i : ℕ) : Type 0 where
  pub there : i < length locks
  pub is : slice_index_or locks i lock ≡ lock
  pub last : (k : ℕ) → i < k → k < length locks → slice_index_or locks k lock ≢ lock

-- the list without the last of its locks that is this one; if none is, the list itself. So the
-- locks of other operations stay, and of its own operation's, if it is the last, those before it
pub record GivesBack (lock : PageLock) (old new : List PageLock) : Type 0 where
  pub last : (front back : List PageLock) → old ≡ front ++ lock ∷ back → (Contains back lock → ⊥) → new ≡ front ++ back
  pub absent : (Contains old lock → ⊥) → new ≡ old
  pub own : (front : List PageLock) → locks_of lock.op old ≡ front ++ lock ∷ [] → locks_of lock.op new ≡ front
  pub others : locks_without lock.op new ≡ locks_without lock.op old

-- each of these is given back, the last first
abbrev pub GivesBackEach : List PageLock → List PageLock → List PageLock → Type 0
GivesBackEach [] old new = new ≡ old
GivesBackEach (lock ∷ locks) old new =
    (between : List PageLock) × GivesBackEach locks old between × GivesBack lock between new
