-- Who is waited for.
use Rattle.std.proofs.Common.{◌≡◌, ⊎_elim, ◌⊎◌, ◌<◌, ℕ, List, length, true, is_some, Option, Some, None, refl, subst}
use Rattle.std.proofs.Props.{props}
use Rattle.std.specs.Option.{option_map}
use mathlib.Core.Logic.{∥∥₁_elim, ∥∥₁_map}
use Rattle.mt_disk.specs.declared.device.Device.{Ghosts}
use Rattle.mt_live.specs.Lives.{member_of}
use Rattle.mt_live.specs.Members.{Member}
use Rattle.mt_model.specs.Model.{Base}
use Rattle.mt_core.proofs.Holders.{owners_same, owner_works}
use Rattle.mt_core.specs.Consistent.{Origin, SameStates, AtPlace, IsConsistent, IsOwnerOf}
use Rattle.mt_core.specs.Runs.{is_working}
use Rattle.mt_core.specs.Steps.{IsOfOther, AwaitsOther}
use Rattle.mt_core.specs.declared.parts.Core.{Core}
use Rattle.mt_op.specs.declared.scope.OpScope.{OpScope}
use Rattle.mt_core.specs.declared.steps.Going.{Going}
use Rattle.mt_core.specs.declared.steps.Going.TheVariants as going
use Rattle.mt_txn.proofs.Showing.{at_place}
use Rattle.mt_txn.specs.Well.{IsWell}
use Rattle.std.proofs.Common.{sym, ◌≢◌, Ok, inl}
use Rattle.std.proofs.lemmas.List.Elements.{All-get_or}
use Rattle.mt_core.specs.PageLocks.{KeepsPageLocks}
use Rattle.mt_core.specs.declared.steps.Stepping.TheVariants.{Going as GoingOn}
use Rattle.mt_txn.specs.PageLocks.{AbortsLocks, BeginsAnew, StepsLocks}
use Rattle.mt_txn.specs.Work.{IsReportedAs, IsAbortReportedAs, IsAnother, IsForOther, IsAbortForOther}
use Rattle.mt_txn.specs.declared.answers.AbortStepped.{AbortStepped}
use Rattle.mt_txn.specs.declared.answers.AbortStepped.TheVariants as abort
use Rattle.mt_txn.specs.declared.answers.Stepped.{Stepped}
use Rattle.mt_txn.specs.declared.answers.Stepped.TheVariants as step

-- one that is at work lived before, in the state in which it was
lived : (now was : Option Member) → option_map (λ (m : Member). m.state) now ≡ option_map (λ (m : Member). m.state) was → is_working now ≡ true → is_some was ≡ true
lived None was same is = absurd cc
lived (Some m) None same is = absurd cc
lived (Some m) (Some n) same is = refl

-- one that goes on has not ended
pub abort_goes : (rs : List OpScope) (way : Going) (x : AbortStepped) → IsAbortReportedAs rs way x → x ≡ abort.Ended → ⊥
abort_goes rs way abort.Ended outcome is = outcome
abort_goes rs way abort.More outcome is = absurd cc
abort_goes rs way (abort.Wait other) outcome is = absurd cc
abort_goes rs way abort.Again outcome is = absurd cc
abort_goes rs way abort.Flush outcome is = absurd cc

module _ {D : Type 0} (g : Ghosts D) (relations counters : ℕ) where
  -- what a step of the operation at a place says that goes on
  pub record GoesOn (k n : Core D) (place : ℕ) (way : Going) : Type 0 where
    pub within : place < length k.running.items
    pub states : SameStates k n
    pub consistent : (origin : Origin) (base : Base) → IsConsistent g origin base k → IsConsistent g origin base n
    pub names : (origin : Origin) (base : Base) → IsConsistent g origin base k → AtPlace k.running.items place (λ r. AwaitsOther n.running.items r.txn way)

  named_at : (k n : Core D) (t place : ℕ) (way : Going) (origin : Origin) (base : Base) → AtPlace k.running.items place (λ r. r.txn ≡ t) → GoesOn k n place way → IsConsistent g origin base k → AwaitsOther n.running.items t way
  named_at k n t place way origin base own goes safe = let at = at_place k.running.items place goes.within in subst (λ (u : ℕ). AwaitsOther n.running.items u way) (own at.0 at.1) (goes.names origin base safe at.0 at.1)

  -- who has that operation lived
  another : (k n : Core D) (t place holder : ℕ) (way : Going) (origin : Origin) (base : Base) → GoesOn k n place way → IsConsistent g origin base k → (o : IsOfOther n.running.items t holder) → IsAnother k.live.members t o.0
  another k n t place holder way origin base goes safe (u, apart, owner) =
      let now = goes.consistent origin base safe in
      (apart, lived (member_of n.live.members u) (member_of k.live.members u) (goes.states u) (owner_works n.live.members n.live.standing n.running.items holder u now.fit.owned owner))

  wait_other : (k n : Core D) (t place holder other : ℕ) (way : Going) → AtPlace k.running.items place (λ r. r.txn ≡ t) → GoesOn k n place way → IsWell g relations counters k → way ≡ going.Wait holder → IsOwnerOf n.running.items holder (Some other) → IsAnother k.live.members t other
  wait_other k n t place holder other way own goes well waits owner = ∥∥₁_elim well (hlevel props) (λ (origin, base, is, safe).
      let o : IsOfOther n.running.items t holder = subst (AwaitsOther n.running.items t) waits (named_at k n t place way origin base own goes safe) in
      let same : o.0 ≡ other = owners_same n.running.items holder o.0 other (goes.consistent origin base safe).fit.apart o.2 owner in
      subst (IsAnother k.live.members t) same (another k n t place holder way origin base goes safe o))

  again_other : (k n : Core D) (t place holder : ℕ) (way : Going) → AtPlace k.running.items place (λ r. r.txn ≡ t) → GoesOn k n place way → IsWell g relations counters k → ((way ≡ going.Wait holder) × IsOwnerOf n.running.items holder None) ⊎ (way ≡ going.Again holder)
      → ∥ ((u : ℕ) × IsAnother k.live.members t u) ∥₁
  again_other k n t place holder way own goes well outcome = ∥∥₁_map well (λ (origin, base, is, safe).
      let names = named_at k n t place way origin base own goes safe in
      let o : IsOfOther n.running.items t holder = ⊎_elim (λ (waits : (way ≡ going.Wait holder) × IsOwnerOf n.running.items holder None). subst (AwaitsOther n.running.items t) waits.0 names) (λ (again : way ≡ going.Again holder). subst (AwaitsOther n.running.items t) again names) outcome in
      (o.0, another k n t place holder way origin base goes safe o))

  pub step_other : (k n : Core D) (t place : ℕ) (way : Going) (x : Stepped) → AtPlace k.running.items place (λ r. r.txn ≡ t) → GoesOn k n place way → IsWell g relations counters k → IsReportedAs n.running.items way x → IsForOther k.live.members t x
  step_other k n t place way (step.Replied reply) own goes well outcome = tt
  step_other k n t place way step.Went own goes well outcome = tt
  step_other k n t place way (step.Wait other) own goes well outcome = wait_other k n t place outcome.0 other way own goes well outcome.1 outcome.2
  step_other k n t place way step.Again own goes well outcome = again_other k n t place outcome.0 way own goes well outcome.1
  step_other k n t place way step.Flush own goes well outcome = tt

  pub abort_other : (k n : Core D) (t place : ℕ) (way : Going) (x : AbortStepped) → AtPlace k.running.items place (λ r. r.txn ≡ t) → GoesOn k n place way → IsWell g relations counters k → IsAbortReportedAs n.running.items way x → IsAbortForOther k.live.members t x
  abort_other k n t place way abort.More own goes well outcome = tt
  abort_other k n t place way (abort.Wait other) own goes well outcome = wait_other k n t place outcome.0 other way own goes well outcome.1 outcome.2
  abort_other k n t place way abort.Again own goes well outcome = again_other k n t place outcome.0 way own goes well outcome.1
  abort_other k n t place way abort.Flush own goes well outcome = tt
  abort_other k n t place way abort.Ended own goes well outcome = tt

  -- no operation under way has that number, and one has
  unowned : (rs : List OpScope) (holder u : ℕ) → IsOwnerOf rs holder (Some u) → IsOwnerOf rs holder None → ⊥
  unowned rs holder u (place, within, owns) none =
      let at = at_place rs place within in
      subst (λ (x : OpScope). x.number ≢ holder) (sym at.1) (All-get_or (λ (x : OpScope). x.number ≢ holder) rs place at.0 within none) (owns at.0 at.1).0

  -- whose number is no operation's under way is not waited for
  awaits_some : (k n : Core D) (t place holder : ℕ) (way : Going) → AtPlace k.running.items place (λ r. r.txn ≡ t) → GoesOn k n place way → IsWell g relations counters k → way ≡ going.Wait holder → IsOwnerOf n.running.items holder None → ⊥
  awaits_some k n t place holder way own goes well waits none = ∥∥₁_elim well (hlevel props) (λ (origin, base, is, safe).
      let o : IsOfOther n.running.items t holder = subst (AwaitsOther n.running.items t) waits (named_at k n t place way origin base own goes safe) in
      unowned n.running.items holder o.0 o.2 none)

  again_locks : (k n : Core D) (t place holder : ℕ) (way : Going) (r : OpScope) → AtPlace k.running.items place (λ q. q.txn ≡ t) → GoesOn k n place way → IsWell g relations counters k → ((way ≡ going.Wait holder) × IsOwnerOf n.running.items holder None) ⊎ (way ≡ going.Again holder)
      → KeepsPageLocks k n r (Ok (GoingOn way)) → BeginsAnew k n r
  again_locks k n t place holder way r own goes well outcome keeps = ⊎_elim
      (λ (waits : (way ≡ going.Wait holder) × IsOwnerOf n.running.items holder None). absurd (awaits_some k n t place holder way own goes well waits.0 waits.1))
      (λ (again : way ≡ going.Again holder). (holder, subst (λ (x : Going). KeepsPageLocks k n r (Ok (GoingOn x))) again keeps)) outcome

  pub step_locks : (k n : Core D) (t place : ℕ) (way : Going) (x : Stepped) (r : OpScope) → AtPlace k.running.items place (λ q. q.txn ≡ t) → GoesOn k n place way → IsWell g relations counters k → IsReportedAs n.running.items way x
      → KeepsPageLocks k n r (Ok (GoingOn way)) → StepsLocks k n r (Ok x)
  step_locks k n t place way (step.Replied reply) r own goes well outcome keeps = absurd outcome
  step_locks k n t place way step.Went r own goes well outcome keeps = subst (λ (x : Going). KeepsPageLocks k n r (Ok (GoingOn x))) outcome keeps
  step_locks k n t place way (step.Wait other) r own goes well outcome keeps = (outcome.0, outcome.2, subst (λ (x : Going). KeepsPageLocks k n r (Ok (GoingOn x))) outcome.1 keeps)
  step_locks k n t place way step.Again r own goes well outcome keeps = again_locks k n t place outcome.0 way r own goes well outcome.1 keeps
  step_locks k n t place way step.Flush r own goes well outcome keeps = subst (λ (x : Going). KeepsPageLocks k n r (Ok (GoingOn x))) outcome keeps

  pub abort_locks : (k n : Core D) (t place : ℕ) (way : Going) (x : AbortStepped) (r : OpScope) → AtPlace k.running.items place (λ q. q.txn ≡ t) → GoesOn k n place way → IsWell g relations counters k → IsAbortReportedAs n.running.items way x
      → KeepsPageLocks k n r (Ok (GoingOn way)) → AbortsLocks k n r (Ok x)
  abort_locks k n t place way abort.More r own goes well outcome keeps = inl (subst (λ (x : Going). KeepsPageLocks k n r (Ok (GoingOn x))) outcome keeps)
  abort_locks k n t place way (abort.Wait other) r own goes well outcome keeps = (outcome.0, outcome.2, subst (λ (x : Going). KeepsPageLocks k n r (Ok (GoingOn x))) outcome.1 keeps)
  abort_locks k n t place way abort.Again r own goes well outcome keeps = again_locks k n t place outcome.0 way r own goes well outcome.1 keeps
  abort_locks k n t place way abort.Flush r own goes well outcome keeps = subst (λ (x : Going). KeepsPageLocks k n r (Ok (GoingOn x))) outcome keeps
  abort_locks k n t place way abort.Ended r own goes well outcome keeps = absurd outcome
