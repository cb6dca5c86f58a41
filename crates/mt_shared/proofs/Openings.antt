-- A kernel that is opened to be shared.
use Rattle.std.proofs.Common.{◌≡◌, ◌∙◌, inl, ℕ, List, [], ap, false, refl, subst, sym}
use Rattle.std.proofs.Props.{props}
use mathlib.Core.Logic.{∥∥₁_elim}
use Rattle.mt_base.specs.declared.refusal.Refusal.TheVariants as refusal
use Rattle.mt_disk.specs.declared.device.Device.{Ghosts}
use Rattle.mt_frame.specs.Laws.{OneSlot}
use Rattle.mt_live.specs.Machine.{start}
use Rattle.mt_model.specs.Model as model
use Rattle.mt_restart.proofs.Ruled.{not_other, not_unformatted}
use Rattle.mt_restart.specs.Recovered.{AreRestored}
use Rattle.mt_locked.proofs.Sets.{Books-set}
use Rattle.mt_shared.specs.Opens.{IsJustOpened, IsUnshared}
use Rattle.mt_txn.proofs.Showing.{legal_of}
use Rattle.mt_txn.specs.Seen.{KernelSeen, ShowsSeen, has_failed_in}
use Rattle.mt_txn.specs.Shown.{Shows}
use Rattle.mt_txn.specs.declared.kernel.Kernel.{Kernel}

-- of a kernel in which nothing has happened yet the book is empty
pub first_book : {D : Type 0} {g : Ghosts D} (first : model.Base) (k : Kernel D g) → Shows first (start first) k → k.core.book.items ≡ []
first_book {D} {g} first k shows = ∥∥₁_elim (legal_of g k.relations k.counters k.core first (start first) shows) (hlevel (props, Books-set)) (λ (same, legal). sym same)

-- nothing has happened in a kernel that is as one that was opened
pub just_opened : {D : Type 0} (g : Ghosts D) (base mine : model.Base) (k now : KernelSeen D) → mine ≡ base → now ≡ k
    → ShowsSeen g base (start base) k → has_failed_in k ≡ false → IsJustOpened g mine now
just_opened g base mine k now on same shows well = record {
  shows = subst (ShowsSeen g mine (start mine)) (sym same) (subst (λ (b : model.Base). ShowsSeen g b (start b) k) (sym on) shows);
  well = ap has_failed_in same ∙ well;
}

-- ---- refusals

-- after an opening memory may be wanting
pub no_memory : OneSlot → (c : List ℕ) (failed : Type 0) (items : List (List ℕ)) → AreRestored c items → IsUnshared c failed refusal.NoMemory
no_memory one c failed items restored = record {
  cause = inl tt;
  rightly = record {
    unformatted = λ un. absurd (not_unformatted c items restored un);
    other = λ other. absurd (not_other one c items restored other);
    left = λ relations counters b can. inl refl;
    formatted = λ s is full. absurd cc;
  };
}
