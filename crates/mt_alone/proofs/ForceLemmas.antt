-- What flushes and force steps leave, and why a step is given up.
use Rattle.std.proofs.Common.{◌≡◌, ◌≢◌, ◌⊎◌, ℕ, inl, inr, Bool, true, false, List, [], Option, Some, None, Result, Ok, Err, refl, sym, ap, ◌∙◌, subst, arith}
use Rattle.std.specs.Prelude.{IfOk, IfErr, if◌then◌else◌}
use Rattle.std.proofs.lemmas.Result.{IfErr-weaker}
use mathlib.Core.Logic.{∥∥₁_map}
use Rattle.mt_base.specs.declared.refusal.Refusal.{Refusal}
use Rattle.mt_base.specs.declared.refusal.Refusal.TheVariants as refusal
use Rattle.mt_disk.specs.declared.device.Device.{Ghosts}
use Rattle.mt_live.specs.Machine.{State}
use Rattle.mt_model.specs.Model.{Base}
use Rattle.mt_core.specs.Booked.{booked_each, durable_txns}
use Rattle.mt_core.specs.Consistent.{OnlyOperations}
use Rattle.mt_core.specs.Runs.{state_in}
use Rattle.mt_core.specs.Work.{LeavesUndo}
use Rattle.mt_core.specs.declared.parts.Commit.{Commit}
use Rattle.mt_core.specs.declared.parts.Core.{Core}
use Rattle.mt_txn.proofs.Living.{no_commits}
use Rattle.mt_txn.specs.Causes.{IsFailure, IsFault}
use Rattle.mt_txn.specs.Events.{HasForced, IsForcedBy}
use Rattle.mt_txn.specs.Shown.{Shows, Stays, is_failed}
use Rattle.mt_txn.specs.Well.{IsWell}
use Rattle.mt_txn.specs.declared.answers.KernelForced.{KernelForced}
use Rattle.mt_txn.specs.declared.answers.KernelForced.TheVariants as forced
use Rattle.mt_txn.specs.declared.kernel.Kernel.{Kernel}
use Rattle.mt_alone.specs.Driven.{Eases, Fails, HasBroken, IsForcing, NobodyCommits}

-- ---- why a step is given up

module _ {D : Type 0} {g : Ghosts D} where
  -- the device failed, in this call or before it
  pub fails_of : (k n : Kernel D g) (why : Refusal) → (is_failed k ≡ true → n ≡ k) → (why ≢ refusal.NoMemory → IsFailure g (is_failed k) k.core n.core why) → Fails n why
  fails_of k n why stands cause other = go (cause other)
    where
      go : IsFailure g (is_failed k) k.core n.core why → (why ≡ refusal.DeviceFailed) × HasBroken n
      go (inl before) = (before.1, inl (ap (λ (x : Kernel D g). is_failed x) (stands before.0) ∙ before.0))
      go (inr now) = (now.0, inr (let more = now.1 in omega (arith, more)))

  -- a cause that is none but that
  pub fails_for : (k n : Kernel D g) (why : Refusal) (c : Option Refusal) → c ≡ (if is_failed k then Some refusal.DeviceFailed else None) → ((y : Refusal) → c ≡ Some y → n ≡ k)
      → (why ≢ refusal.NoMemory → (c ≡ Some why) ⊎ IsFault g k.core n.core why) → Fails n why
  fails_for k n why c is stands cause = fails_of k n why (λ failed. stands refusal.DeviceFailed (is ∙ ap (λ (b : Bool). if b then Some refusal.DeviceFailed else None) failed)) (λ other. go (cause other))
    where
      outcome : (b : Bool) → is_failed k ≡ b → (if b then Some refusal.DeviceFailed else None) ≡ Some why → IsFailure g (is_failed k) k.core n.core why
      outcome true failed e = inl (failed, cc)
      outcome false failed e = absurd cc

      go : (c ≡ Some why) ⊎ IsFault g k.core n.core why → IsFailure g (is_failed k) k.core n.core why
      go (inl e) = outcome (is_failed k) refl (sym is ∙ e)
      go (inr fault) = inr fault

  pub failing : (k n : Kernel D g) {T : Type 0} (r : Result T Refusal) → (is_failed k ≡ true → n ≡ k) → IfErr r (λ why. why ≢ refusal.NoMemory → IsFailure g (is_failed k) k.core n.core why) → IfErr r (Fails n)
  failing k n r stands cause = IfErr-weaker r (λ why. why ≢ refusal.NoMemory → IsFailure g (is_failed k) k.core n.core why) (Fails n) (λ why this. fails_of k n why stands this) cause

-- ---- what eases

none_named : (cs : List Commit) (pos : ℕ) → cs ≡ [] → durable_txns cs pos ≡ []
none_named cs pos none = ap (λ (x : List Commit). durable_txns x pos) none

module _ {D : Type 0} {g : Ghosts D} where
  pub well_of : (k : Kernel D g) (first : Base) (s : State) → Shows first s k → IsWell g k.relations k.counters k.core
  well_of k first s shows = ∥∥₁_map shows (λ (origin, base, is, x). (origin, base, record { relations_are = is.relations_are; counters_are = is.counters_are; first_is = refl }, x.consistent))

  pub eases_none : (k : Kernel D g) → Eases k k
  eases_none k = record { state = λ first s shows. shows; states = λ u. refl; running = refl; undo = λ t. omega arith }

  pub eases_then : (k m n : Kernel D g) → Eases k m → Eases m n → Eases k n
  eases_then k m n a b = record {
    state = λ first s shows. b.state first s (a.state first s shows);
    states = λ u. b.states u ∙ a.states u;
    running = b.running ∙ a.running;
    undo = λ t. let x = a.undo t in let y = b.undo t in omega (arith, x, y);
  }

  pub nobody_after : (k n : Kernel D g) → NobodyCommits k → Eases k n → NobodyCommits n
  nobody_after k n nobody e t is = nobody t (sym (e.states t) ∙ is)

  pub eases_flush : (k n : Kernel D g) → Stays k n → OnlyOperations k.core n.core → LeavesUndo k.core n.core → Eases k n
  eases_flush k n stays only undo = record {
    state = stays;
    states = λ u. ap (λ (x : Core D). state_in x.live.members u) only;
    running = ap (λ (x : Core D). x.running.items) only;
    undo = undo;
  }

  module _ where
    forced_stays : (k n : Kernel D g) (r : Result KernelForced Refusal) → NobodyCommits k → IsForcing k r n → Stays k n
    forced_stays k n r nobody f first s shows = go r (f.forced first s shows) f.log
      where
        none : k.core.commits.items ≡ []
        none = no_commits g k.relations k.counters k.core (well_of k first s shows) nobody

        go : (x : Result KernelForced Refusal) → HasForced first s x n
            → IfOk x (λ y. IsForcedBy k.core.operations.store.log k.core.commits.items y n.core.operations.store.log n.core.commits.items) → Shows first s n
        go (Err why) did log = did
        go (Ok forced.More) did log = did
        go (Ok forced.Idle) did log = did
        go (Ok (forced.Durable names)) did log =
            let nobody_named : names.items ≡ [] = log.2 ∙ none_named k.core.commits.items log.0 none in
            subst (λ (ts : List ℕ). Shows first (booked_each s ts) n) nobody_named did

    pub eases_force : (k n : Kernel D g) (r : Result KernelForced Refusal) → NobodyCommits k → IsForcing k r n → Eases k n
    eases_force k n r nobody f = record {
      state = forced_stays k n r nobody f;
      states = λ u. f.states u (nobody u);
      running = f.running;
      undo = f.undo;
    }

    -- a flush, and a force after it
    pub eased_more : (k m x n : Kernel D g) (r : Result KernelForced Refusal) → (NobodyCommits k → Eases k m) → Stays m x → OnlyOperations m.core x.core → LeavesUndo m.core x.core
        → IsForcing x r n → NobodyCommits k → Eases k n
    eased_more k m x n r before stays only undo f nobody =
        let to_x = eases_then k m x (before nobody) (eases_flush m x stays only undo) in
        eases_then k x n to_x (eases_force x n r (nobody_after k x nobody to_x) f)

    pub eased_flush : (k m x : Kernel D g) → (NobodyCommits k → Eases k m) → Stays m x → OnlyOperations m.core x.core → LeavesUndo m.core x.core → NobodyCommits k → Eases k x
    eased_flush k m x before stays only undo nobody = eases_then k m x (before nobody) (eases_flush m x stays only undo)
