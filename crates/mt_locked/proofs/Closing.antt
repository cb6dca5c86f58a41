-- What is whole, and can be closed.
use Rattle.std.proofs.Common.{◌≡◌, ◌∙◌, ℕ, length, Option, Some, None, ap, refl, subst, sym, arith}
use Rattle.std.specs.Prelude.{IfNone}
use mathlib.Core.List.{IsPrefix}
use Rattle.mt_base.specs.declared.refusal.Refusal.{Refusal}
use Rattle.mt_disk.specs.declared.device.Device.{Ghosts}
use Rattle.mt_mark.specs.Rule.{dones}
use Rattle.mt_mark.specs.declared.view.View.{View}
use Rattle.mt_restart.specs.declared.standing.Standing.{Standing}
use Rattle.mt_restart.specs.declared.standing.Standing.TheVariants.{Stands}
use Rattle.mt_locked.proofs.Books.{dones-length, whole_front}
use Rattle.mt_locked.specs.Seen.{LockedSeen}
use Rattle.mt_locked.specs.declared.locked.Due.{Due}
use Rattle.mt_locked.specs.Standings.{seen_in}
use Rattle.mt_locked.specs.Whole.{IsInUse, IsWhole}
use Rattle.mt_txn.specs.Seen.{seen_of}
use Rattle.mt_txn.specs.declared.kernel.Kernel.{Kernel}

-- a kernel that is not in use, with no commit in its book that is not in the history, is whole
pub whole_of : {D : Type 0} {g : Ghosts D} {holding : ℕ} {due : Due} (s : Standing D g) (k : Kernel D g) (v : View) (l : LockedSeen D) (why : Option Refusal) (commits : ℕ) → s ≡ Stands k → seen_in s v holding due ≡ l → commits ≡ length v.list → IsPrefix (dones v.list) k.core.book.items
    → IfNone why (length k.core.book.items ≡ commits) → IfNone why (IsInUse (Some (seen_of k)) → ⊥) → IfNone why (IsWhole l)
whole_of s k v l (Some why) commits is seen at front all ended = tt
whole_of {D} {g} {holding} {due} s k v l None commits is seen at front all ended =
    let long = dones-length v.list in
    let whole = whole_front (dones v.list) k.core.book.items front (omega (arith, all, at, long)) in
    subst (λ (x : LockedSeen D). IsWhole x) (ap (λ (x : Standing D g). seen_in x v holding due) (sym is) ∙ seen) (record { here = refl; all = whole; ended = ended })
