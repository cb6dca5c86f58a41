-- When a page lock is granted, and for whom its asker waits.
use Rattle.std.specs.Prelude.{ℕ, ◌≡◌, ◌≢◌, ◌<◌, ◌≤◌, ◌==◌, ◌&&◌, ◌++◌, ◌∷◌, [], Bool, true, false, not, min, List, Option, Some, None, All, Any, AllPairs}
use Rattle.mt_base.specs.Modes.{agree}
use Rattle.mt_base.specs.declared.modes.Mode.{Mode}
use Rattle.mt_plock.specs.declared.guards.PageLock.{PageLock}
use Rattle.mt_plock.specs.declared.guards.Asked.{Asked}
use Rattle.mt_plock.specs.declared.guards.Asked.TheVariants.{Granted, Wait, Again}

abbrev pub lock_of : ℕ → ℕ → Mode → PageLock
lock_of o p m = record { op = o; page = p; mode = m }

-- whether a lock that is held is another operation's, on the page that is asked for, in a mode that
-- does not agree
abbrev pub is_in_way : PageLock → PageLock → Bool
is_in_way asked held = not (held.op == asked.op) && ((held.page == asked.page) && not (agree held.mode asked.mode))

-- two locks on one page agree, if they are of different operations
abbrev pub DoAgree : PageLock → PageLock → Type 0
DoAgree l m = l.op ≢ m.op → l.page ≡ m.page → agree l.mode m.mode ≡ true

-- all the locks of a table do
abbrev pub AreTogether : List PageLock → Type 0
AreTogether locks = AllPairs DoAgree locks

-- the smallest operation that holds a lock in the way
pub record IsLeastHolder (asked : PageLock) (locks : List PageLock) (holder : ℕ) : Type 0 where
  pub holds : Any (λ held. (is_in_way asked held ≡ true) × (held.op ≡ holder)) locks
  pub least : All (λ held. is_in_way asked held ≡ true → holder ≤ held.op) locks

-- what an asker is answered, and the locks then: the lock is granted if none is in the way; it
-- waits for the smallest holder if that one, and so every holder, is larger than it; and begins
-- again if that one is smaller
abbrev pub IsAnswered : PageLock → List PageLock → Asked → List PageLock → Type 0
IsAnswered asked old (Granted guard) new =
    All (λ held. is_in_way asked held ≡ false) old × (guard ≡ asked) × (new ≡ old ++ asked ∷ [])
IsAnswered asked old (Wait holder) new =
    IsLeastHolder asked old holder × (asked.op < holder) × (new ≡ old)
IsAnswered asked old (Again holder) new =
    IsLeastHolder asked old holder × (holder < asked.op) × (new ≡ old)

-- the lesser of a number that may be there, and another
abbrev pub lesser_of : Option ℕ → ℕ → ℕ
lesser_of None n = n
lesser_of (Some m) n = min m n
