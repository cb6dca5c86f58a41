-- What holds of locks that are held together, and of locks that are taken out again: the statements of the laws.
use Rattle.std.specs.Prelude.{ℕ, ◌≡◌, ◌≢◌, List}
use Rattle.mt_model.specs.declared.objects.Asks.{Asks}
use Rattle.mt_model.specs.declared.objects.Lock.{Lock}
use Rattle.mt_model.specs.declared.operations.Op.{Op}
use Rattle.mt_model.specs.Model.{Base, locks_in, locks_of}
use Rattle.mt_model.specs.Locks.{Held, with_locks, without_locks, HoldsEach, AreTogether}
use Rattle.mt_model.specs.Laws.{DoCommute, StaysIn}
use Rattle.mt_slock.specs.Answers.{MarksFresh, fresh_in}
use Rattle.mt_slock.specs.declared.table.Fresh.{Fresh}

abbrev pub HeldOperationsCommute : Type 0
HeldOperationsCommute =
    (held : Held) (t u : ℕ) (f g : Op) (b : Base) → AreTogether held → t ≢ u
    → HoldsEach held t (locks_of f) → HoldsEach held u (locks_of g)
    → StaysIn b f g → StaysIn b g f → DoCommute b f g

-- locks are granted, and those of them that were not held before are taken out: the locks are as they were
abbrev pub TakingOutGivesBack : Type 0
TakingOutGivesBack =
    (held : Held) (t : ℕ) (a : Asks) (fresh : Fresh) → MarksFresh held t a fresh
    → without_locks (with_locks held t (locks_in a)) t (fresh_in a fresh) ≡ held

-- and if all were held before, the grant changed nothing
abbrev pub GrantsOnce : Type 0
GrantsOnce = (held : Held) (t : ℕ) (ls : List Lock) → HoldsEach held t ls → with_locks held t ls ≡ held
