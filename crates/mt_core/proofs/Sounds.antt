-- What is known of parts that are sound, whatever the base.
use Rattle.std.proofs.Common.{◌≡◌, ◌<◌, ◌≤◌, ◌^◌, ◌==◌, ◌∷◌, ◌∙◌, ℕ, List, Bool, true, false, cond, is_some, None, Some, inl, inr, ⊎_elim, refl, ap, subst, arith}
use Rattle.std.proofs.Props.{props}
use Rattle.std.specs.Prelude.{◌≢◌, All, vec_len, length}
use Rattle.std.specs.Option.{option_map}
use Rattle.std.specs.Vec.{vec_capacity}
use Rattle.std.proofs.lemmas.Bool.{eqb-true}
use Rattle.std.proofs.lemmas.List.Elements.{All-head}
use mathlib.Core.Logic.{∥∥₁_elim, ∥∥₁_map}
use Rattle.mt_disk.specs.declared.device.Device.{Ghosts}
use Rattle.mt_frame.specs.Grammar.{IsTxn}
use Rattle.mt_area_rules.specs.History.{some_record, ends_txn}
use Rattle.mt_live.specs.Lives.{member_of}
use Rattle.mt_live.specs.Machine.{put}
use Rattle.mt_live.specs.Members.{Member}
use Rattle.mt_live.specs.declared.transactions.TxnState.TheVariants.{Committing}
use Rattle.mt_log.specs.Words.{appended}
use Rattle.mt_op.specs.declared.scope.Stage.{Stage}
use Rattle.mt_op.specs.declared.scope.Stage.TheVariants.{Planning, Writing, Ready, Taking, Cleared}
use Rattle.mt_pool.proofs.Steady.{IsSteady, steady}
use Rattle.mt_pool.specs.Kept.{HasOpening}
use Rattle.mt_core.specs.Runs.{IsMoving, is_working}
use Rattle.mt_core.specs.Consistent.{state_in, IsSound}
use Rattle.mt_core.specs.declared.parts.Commit.{Commit}
use Rattle.mt_core.specs.declared.parts.Core.{Core}
use Rattle.mt_core.proofs.Calling.{txn_named}
use Rattle.mt_core.proofs.Enough.{stated_some}

-- a stage that is one of three is known to be which
pub moving_of : (s : Stage) → ∥ IsMoving s ∥₁ → IsMoving s
moving_of Planning m = inl refl
moving_of Writing m = inr (inl refl)
moving_of Taking m = inr (inr refl)
moving_of Ready m = absurd (∥∥₁_elim m (hlevel props) (λ k. ⊎_elim (λ (a : Ready ≡ Planning). absurd cc) (λ b. ⊎_elim (λ (d : Ready ≡ Writing). absurd cc) (λ (e : Ready ≡ Taking). absurd cc) b) k))
moving_of Cleared m = absurd (∥∥₁_elim m (hlevel props) (λ k. ⊎_elim (λ (a : Cleared ≡ Planning). absurd cc) (λ b. ⊎_elim (λ (d : Cleared ≡ Writing). absurd cc) (λ (e : Cleared ≡ Taking). absurd cc) b) k))

module _ {D : Type 0} (g : Ghosts D) (k : Core D) (sound : IsSound g k) where
  pub opening_of : HasOpening g k.operations.store
  opening_of = ∥∥₁_map sound (λ (origin, base, safe). (origin.pages, safe.fit.right.kept))

  pub steady_of : IsSteady g k.operations.store
  steady_of = steady g k.operations.store opening_of

  -- a transaction at work has a number that a record may have, and has not ended
  pub named_of : (t : ℕ) → is_working (member_of k.live.members t) ≡ true → IsTxn t
  named_of t at_work = ∥∥₁_elim sound (hlevel props) (λ (origin, base, safe). txn_named g origin base k t safe.fit at_work)

  pub unended_of : (t : ℕ) → is_working (member_of k.live.members t) ≡ true → some_record (ends_txn t) (appended k.operations.store.log) ≡ false
  unended_of t at_work = ∥∥₁_elim sound (hlevel props) (λ (origin, base, safe). safe.fit.numbered.txns t at_work)

  pub few_of : k.last ≤ 2 ^ 41
  few_of = ∥∥₁_elim sound (hlevel props) (λ (origin, base, safe). safe.fit.numbered.few_operations)

  -- the first of the commits under way lives, and has its place in the book
  pub first_lives : (c : Commit) (cs : List Commit) → k.commits.items ≡ c ∷ cs → is_some (member_of k.live.members c.txn) ≡ true
  first_lives c cs queue = ∥∥₁_elim sound (hlevel props) (λ (origin, base, safe).
      stated_some (member_of k.live.members c.txn) (All-head (λ (x : Commit). state_in k.live.members x.txn ≡ Some Committing) c cs (subst (All (λ (x : Commit). state_in k.live.members x.txn ≡ Some Committing)) queue safe.fit.queued.each)))

  -- where the first of the commits leaves, each that does not commit is in the state in which it was
  pub first_leaves : (now : List Member) (c : Commit) (cs : List Commit) → k.commits.items ≡ c ∷ cs → ((u : ℕ) → member_of now u ≡ put (member_of k.live.members) c.txn None u) → (u : ℕ) → state_in k.live.members u ≢ Some Committing → state_in now u ≡ state_in k.live.members u
  first_leaves now c cs queue member u other = ap (option_map (λ (m : Member). m.state)) (member u) ∙ go (u == c.txn) refl
    where
      go : (b : Bool) → (u == c.txn) ≡ b → option_map (λ (m : Member). m.state) (put (member_of k.live.members) c.txn None u) ≡ state_in k.live.members u
      go true own = absurd (∥∥₁_elim sound (hlevel props) (λ (origin, base, safe).
          other (ap (state_in k.live.members) (eqb-true u c.txn own) ∙ All-head (λ (x : Commit). state_in k.live.members x.txn ≡ Some Committing) c cs (subst (All (λ (x : Commit). state_in k.live.members x.txn ≡ Some Committing)) queue safe.fit.queued.each))))
      go false apart = ap (λ (b : Bool). option_map (λ (m : Member). m.state) (cond b None (member_of k.live.members u))) apart

  pub first_booked : (c : Commit) (cs : List Commit) → k.commits.items ≡ c ∷ cs → vec_len k.book < vec_capacity k.book
  first_booked c cs queue = ∥∥₁_elim sound (hlevel props) (λ (origin, base, safe). let room = safe.fit.booked in let some = ap (λ (xs : List Commit). length xs) queue in omega arith)
