-- What a device in memory might have left since a moment.
use Rattle.std.proofs.Common.{◌≡◌, inl, inr, ⊎_elim, ◌⊎◌, ℕ, zero, suc, ◌≤◌, List, [], ◌∷◌, ◌++◌, length, drop, refl, sym, subst, arith, length-append}
use Rattle.mt_disk.specs.Disk.{Elapses}
use Rattle.mt_disk.specs.Memory.{Leaves, HadLeft, LeftSince}
use Rattle.mt_disk.specs.declared.memory.State.{State}

keeps : (past : List State) (s : State) (c : List ℕ) → HadLeft past c → HadLeft (past ++ s ∷ []) c
keeps [] s c had = absurd had
keeps (p ∷ past) s c (inl here) = inl here
keeps (p ∷ past) s c (inr there) = inr (keeps past s c there)

adds : (past : List State) (s : State) (c : List ℕ) → HadLeft (past ++ s ∷ []) c → HadLeft past c ⊎ Leaves s c
adds [] s c (inl here) = inr here
adds [] s c (inr none) = absurd none
adds (p ∷ past) s c (inl here) = inl (inl here)
adds (p ∷ past) s c (inr there) = ⊎_elim (λ had. inl (inr had)) (λ new. inr new) (adds past s c there)

newest : (past : List State) (s : State) (c : List ℕ) → Leaves s c → HadLeft (past ++ s ∷ []) c
newest [] s c is = inl is
newest (p ∷ past) s c is = inr (newest past s c is)

drop_push : (t : ℕ) (past : List State) (s : State) → t ≤ length past → drop t (past ++ s ∷ []) ≡ drop t past ++ s ∷ []
drop_push zero past s le = refl
drop_push (suc t) [] s le = absurd (omega arith)
drop_push (suc t) (p ∷ past) s le = drop_push t past s (omega arith)

module _ (past : List State) (old : State) (may : List ℕ → Type 0) where
  later : List State
  later = past ++ old ∷ []

  split : (t : ℕ) (c : List ℕ) → t ≤ length past → HadLeft (drop t later) c → LeftSince old past t c
  unfolding later
  split t c le had =
      let parts : HadLeft (drop t past) c ⊎ Leaves old c = adds (drop t past) old c (subst (λ (l : List State). HadLeft l c) (drop_push t past old le) had) in
      ⊎_elim (λ was. inr was) (λ now. inl now) parts

  joined : (t : ℕ) (c : List ℕ) → t ≤ length past → LeftSince old past t c → HadLeft (drop t later) c
  unfolding later
  joined t c le left =
      subst (λ (l : List State). HadLeft l c) (sym (drop_push t past old le))
      (⊎_elim (λ now. newest (drop t past) old c now) (λ had. keeps (drop t past) old c had) left)

  elapses_later : Elapses (length past) (length (past ++ old ∷ [])) (LeftSince old past) (λ t c. may c ⊎ HadLeft (drop t (past ++ old ∷ [])) c) may
  unfolding later
  elapses_later = record {
    later = omega (arith, length-append past (old ∷ []));
    at_once = omega (arith, length-append past (old ∷ []));
    nothing_else = λ t c le left. ⊎_elim (λ now. inr now) (λ had. inl (split t c le had)) left;
    keeps = λ t c le left. inr (joined t c le left);
  }

-- the state that was has passed, and what a crash may leave now is whatever the new one says
pub elapses_to : (past gone : List State) (old : State) (may : List ℕ → Type 0) → gone ≡ past ++ old ∷ []
    → Elapses (length past) (length gone) (LeftSince old past) (λ t c. may c ⊎ HadLeft (drop t gone) c) may
elapses_to past gone old may same =
    subst (λ (l : List State). Elapses (length past) (length l) (LeftSince old past) (λ t c. may c ⊎ HadLeft (drop t l) c) may) (sym same) (elapses_later past old may)
