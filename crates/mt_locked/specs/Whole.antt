-- What is closed, why it is not, and what a pass begins with.
use Rattle.std.specs.Prelude.{◌≡◌, ◌≢◌, ◌⊎◌, ℕ, ◌+◌, ◌≤◌, false, IsSome, List, [], ◌∷◌, length, All, Option, None}
use Rattle.mt_base.specs.declared.refusal.Refusal.{Refusal}
use Rattle.mt_base.specs.declared.refusal.Refusal.TheVariants as refusal
use Rattle.mt_mark.specs.Rule.{dones, labelled, own, Holds, IsFrom}
use Rattle.mt_mark.specs.declared.view.Entry.{Entry}
use Rattle.mt_model.specs.declared.history.Committed.{Committed}
use Rattle.mt_locked.specs.Seen.{LockedSeen, PassSeen, is_failed_in}
use Rattle.mt_locked.specs.Turns.{IsBusyIn}
use Rattle.mt_txn.specs.Seen.{KernelSeen}

-- a transaction is active in a kernel that has not failed
abbrev pub IsInUse : {D : Type 0} → Option (KernelSeen D) → Type 0
IsInUse k = (is_failed_in k ≡ false) × IsBusyIn k

-- a kernel is there, which is not in use, and the history is its whole book
pub record IsWhole {D : Type 0} (l : LockedSeen D) : Type 0 where
  pub here : IsSome l.kernel
  pub all : dones l.list ≡ l.book
  pub ended : IsInUse l.kernel → ⊥

-- One list, passes aside the book, begins with what each pass has seen, and has no further entry of that pass.
abbrev pub HasAllOf : List Committed → List PassSeen → Type 0
HasAllOf book passes =
    (list : List Entry) × (dones list ≡ book) × All (λ (p : PassSeen). Holds p.number p.seen list) passes

-- how many each pass has of its own in what it has seen, together
abbrev pub all_own : List PassSeen → ℕ
all_own [] = 0
all_own (p ∷ ps) = own p.number p.seen + all_own ps

-- a pass that has seen the book at first, and nothing of its own in it
pub record IsNew (book : List Committed) (p : PassSeen) : Type 0 where
  pub seen : p.seen ≡ labelled book
  pub none : own p.number p.seen ≡ 0

-- there are so many passes, and each of them is new
pub record AreNew (book : List Committed) (count : ℕ) (passes : List PassSeen) : Type 0 where
  pub long : length passes ≡ count
  pub each : All (IsNew book) passes

-- one of the passes has this number
abbrev pub HasNumber : ℕ → List PassSeen → Type 0
HasNumber n [] = ⊥
HasNumber n (p ∷ ps) = (p.number ≡ n) ⊎ HasNumber n ps

-- there are so many passes, with each number from 1 to this one
pub record AreAll (count : ℕ) (passes : List PassSeen) : Type 0 where
  pub long : length passes ≡ count
  pub each : (n : ℕ) → 1 ≤ n → n ≤ count → HasNumber n passes

-- After the book at first, a list has entries of these passes alone, and they are all that there are.
abbrev pub IsOfAll : List Committed → List PassSeen → List Entry → Type 0
IsOfAll book passes list = (count : ℕ) × IsFrom book (count + 1) list × AreAll count passes

-- Why it is not closed with these passes. With 15 they are not all. With 2 they are, and no kernel stands. With 16 one
-- stands, and a durable transaction is not in the history, or the kernel is in use.
abbrev pub IsCloseCause : {D : Type 0} → LockedSeen D → List PassSeen → Refusal → Type 0
IsCloseCause l passes refusal.Stranger = AreAll l.pass_count passes → ⊥
IsCloseCause l passes refusal.DeviceFailed = AreAll l.pass_count passes × (l.kernel ≡ None)
IsCloseCause l passes refusal.Busy = AreAll l.pass_count passes × IsSome l.kernel
    × ((length l.book ≢ length l.list) ⊎ IsInUse l.kernel)
IsCloseCause l passes _ = ⊥
