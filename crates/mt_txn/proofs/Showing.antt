-- What a kernel shows once its parts have met an event, and what it asks of them.
use Rattle.std.proofs.Common.{◌≡◌, ◌≢◌, ◌⊎◌, ◌<◌, ℕ, true, false, length, get_or, Option, Some, None, Result, Ok, Err, inl, inr, ⊎_elim, refl, sym, ap, ◌∙◌, subst}
use Rattle.std.proofs.Props.{props}
use Rattle.std.specs.Prelude.{OnOk, OnErr}
use Rattle.std.specs.Option.{option_map}
use Rattle.std.proofs.lemmas.Bool.{cases_eq}
use mathlib.Core.Logic.{∥∥₁_elim, ∥∥₁_map}
use Rattle.mt_base.specs.declared.refusal.Refusal.{Refusal}
use Rattle.mt_disk.specs.declared.device.Device.{Ghosts}
use Rattle.mt_live.specs.Machine.{State, IsKept, ended, dropped, undone, returned}
use Rattle.mt_live.specs.Members.{Member}
use Rattle.mt_live.specs.declared.transactions.TxnState.TheVariants.{Open, Committing, Returning, Aborting}
use Rattle.mt_live.specs.declared.transactions.TxnState.{TxnState}
use Rattle.mt_model.specs.History.{IsLegal}
use Rattle.mt_model.specs.Model.{Base, reply_of, base_after, IsWithin}
use Rattle.mt_model.specs.declared.operations.Op.{Op}
use Rattle.mt_model.specs.declared.operations.Op.TheVariants.{Get, Insert, Update, Delete, Add, Read, Scan}
use Rattle.mt_op.specs.declared.answers.TakenBack.{TakenBack}
use Rattle.mt_op.specs.declared.answers.TakenBack.TheVariants as taken
use Rattle.mt_op.specs.declared.scope.Stage.{Stage}
use Rattle.mt_op.specs.declared.scope.Stage.TheVariants.{Planning, Writing, Ready, Taking, Cleared}
pub use Rattle.mt_core.proofs.Restarts.{at_place, open_works}
use Rattle.mt_core.proofs.Restarts.{inverted_consistent}
use Rattle.mt_core.proofs.Underway.{running_at}
use Rattle.mt_core.specs.Consistent.{Origin, state_of, AtPlace, IsConsistent, IsSound, IsIn, BacksIn, DropsIn, InvertsIn, UndoesIn, StaysIn}
use Rattle.mt_core.specs.Runs.{running_in, state_in, is_at_work, is_returning, IsMoving, IsOwned, IsRunning, is_working, is_undoing}
use Rattle.mt_core.specs.Steps.{Steps, UndoSteps}
use Rattle.mt_core.specs.declared.parts.Core.{Core}
use Rattle.mt_op.specs.declared.scope.OpScope.{OpScope}
use Rattle.mt_core.specs.declared.steps.Stepping.{Stepping}
use Rattle.mt_core.specs.declared.steps.Stepping.TheVariants.{Going, Ended}
use Rattle.mt_op.specs.Operations.{world}
use Rattle.mt_txn.specs.Causes.{IsNamed, IsSized}
use Rattle.mt_txn.specs.Events.{InvertsTo, IsBack, IsReturn}
use Rattle.mt_txn.specs.declared.answers.AbortStepped.TheVariants as abort
use Rattle.mt_txn.specs.Events.IsBack.{stands, drops, undoes}
use Rattle.mt_txn.specs.Events.IsReturn.{returns}
use Rattle.mt_txn.specs.Shown.{SameSchema, Stays}
use Rattle.mt_txn.specs.Well.{IsOrigin, IsWell, ShowsIn}
use Rattle.mt_txn.specs.declared.kernel.Kernel.{Kernel}

-- ---- one of the operations under way

-- a stage that is one of two
going_of : (s : Stage) → ∥ (IsMoving s × (s ≡ Taking → ⊥)) ∥₁ → (s ≡ Planning) ⊎ (s ≡ Writing)
going_of Planning m = inl refl
going_of Writing m = inr refl
going_of Taking m = absurd (∥∥₁_elim m (hlevel props) (λ k. k.1 refl))
going_of Ready m = absurd (∥∥₁_elim m (hlevel props) (λ k. ⊎_elim (λ (a : Ready ≡ Planning). absurd cc) (λ b. ⊎_elim (λ (d : Ready ≡ Writing). absurd cc) (λ (e : Ready ≡ Taking). absurd cc) b) k.0))
going_of Cleared m = absurd (∥∥₁_elim m (hlevel props) (λ k. ⊎_elim (λ (a : Cleared ≡ Planning). absurd cc) (λ b. ⊎_elim (λ (d : Cleared ≡ Writing). absurd cc) (λ (e : Cleared ≡ Taking). absurd cc) b) k.0))

pub aborting_works : (o : Option Member) → option_map (λ (m : Member). m.state) o ≡ Some Aborting → is_working o ≡ true
aborting_works None is = absurd cc
aborting_works (Some m) is = let state : m.state ≡ Aborting = cc in ap is_at_work state

pub within_of : (relations counters : ℕ) (op : Op) → IsNamed relations counters op → IsSized op → IsWithin relations counters op
within_of relations counters (Get r k) named sized = (named, sized)
within_of relations counters (Insert r k v) named sized = (named, sized.0, sized.1)
within_of relations counters (Update r k v) named sized = (named, sized.0, sized.1)
within_of relations counters (Delete r k) named sized = (named, sized)
within_of relations counters (Add c d) named sized = (named, sized)
within_of relations counters (Read c) named sized = named
within_of relations counters (Scan r) named sized = named

module _ {D : Type 0} (g : Ghosts D) (relations counters : ℕ) where
  pub sound_of : (k : Core D) → IsWell g relations counters k → IsSound g k
  sound_of k well = ∥∥₁_map well (λ (origin, base, is, safe). (origin, base, safe))

  own_of : (k : Core D) (place : ℕ) (r : OpScope) → place < length k.running.items → r ≡ get_or k.running.items place r → (origin : Origin) (base : Base) → IsConsistent g origin base k → IsOwned k.live.members k.live.standing r × IsMoving r.stage
  own_of k place r within there origin base safe = (
    subst (IsOwned k.live.members k.live.standing) (sym there) (safe.fit.owned place r within),
    (subst (IsRunning origin.relations origin.counters (world g origin.pages k.operations) k.last) (sym there) (safe.runs place r within)).moving,
  )

  -- an operation of an open transaction is no inverse, and is not taken back
  pub forward_of : (k : Core D) (t place : ℕ) → IsWell g relations counters k → place < length k.running.items → AtPlace k.running.items place (λ r. r.txn ≡ t) → state_in k.live.members t ≡ Some Open → AtPlace k.running.items place (λ r. r.undoes ≡ 0)
  forward_of k t place well within own opened r there = ⊎_elim (λ (fore : r.undoes ≡ 0). fore) (λ (back : r.undoes ≡ 0 → ⊥).
      absurd (∥∥₁_elim well (hlevel props) (λ (origin, base, is, safe).
      let backwards = (own_of k place r within there origin base safe).0.backwards back in
      let not : is_undoing (state_in k.live.members r.txn) ≡ false = ap is_undoing (ap (state_in k.live.members) (own r there) ∙ opened) in absurd cc))) (cases_eq r.undoes 0)

  pub stage_of : (k : Core D) (t place : ℕ) → IsWell g relations counters k → place < length k.running.items → AtPlace k.running.items place (λ r. r.txn ≡ t) → state_in k.live.members t ≡ Some Open → AtPlace k.running.items place (λ r. (r.stage ≡ Planning) ⊎ (r.stage ≡ Writing))
  stage_of k t place well within own opened r there = going_of r.stage (∥∥₁_map well (λ (origin, base, is, safe). let mine = own_of k place r within there origin base safe in (
    mine.1,
    λ taking.
        let aborting = (mine.0.taken taking).1 in
        let now : state_in k.live.members t ≡ Some Aborting = ap (state_in k.live.members) (sym (own r there)) ∙ aborting in absurd cc,
  )))

  -- of one that goes back and then on there are inverses alone
  pub inverse_of : (k : Core D) (t place first : ℕ) → IsWell g relations counters k → place < length k.running.items → AtPlace k.running.items place (λ r. r.txn ≡ t) → state_in k.live.members t ≡ Some (Returning first) → AtPlace k.running.items place (λ r. r.undoes ≢ 0)
  inverse_of k t place first well within own returning r there fore = ∥∥₁_elim well (hlevel props) (λ (origin, base, is, safe).
      let forwards = (own_of k place r within there origin base safe).0.forwards fore in
      let now : is_returning (state_in k.live.members r.txn) ≡ true = ap is_returning (ap (state_in k.live.members) (own r there) ∙ returning) in absurd cc)

  -- an inverse is not taken back
  pub inverse_stage : (k : Core D) (place : ℕ) → IsWell g relations counters k → place < length k.running.items → AtPlace k.running.items place (λ r. r.undoes ≢ 0) → AtPlace k.running.items place (λ r. (r.stage ≡ Planning) ⊎ (r.stage ≡ Writing))
  inverse_stage k place well within back r there = going_of r.stage (∥∥₁_map well (λ (origin, base, is, safe). let mine = own_of k place r within there origin base safe in (mine.1, λ taking. back r there (mine.0.taken taking).0)))

  -- ---- what is kept

  pub kept_of : (k : Core D) (first : Base) (s : State) → ShowsIn g relations counters first s k → ∥ IsKept first s ∥₁
  kept_of k first s shows = ∥∥₁_map shows (λ (origin, base, is, x). subst (λ (X : Type 0). X) (λ i. IsKept (is.first_is i) (sym x.state i)) x.consistent.fit.kept)

  pub legal_of : (k : Core D) (first : Base) (s : State) → ShowsIn g relations counters first s k → ∥ ((s.book ≡ k.book.items) × IsLegal first k.book.items) ∥₁
  legal_of k first s shows = ∥∥₁_map shows (λ (origin, base, is, x). (ap (λ (z : State). z.book) x.state, subst (λ (b : Base). IsLegal b k.book.items) is.first_is x.consistent.fit.kept.legal))

  -- ---- events

  -- the parts are led from each state to another, on some base
  abbrev pub Leads : Core D → Core D → (State → State) → Type 0
  Leads k n f = (origin : Origin) (base : Base) → IsConsistent g origin base k → (now : Base) × IsIn g origin now (f (state_of k base)) n

  pub led : (k n : Core D) (f : State → State) (first : Base) (s : State) → Leads k n f → ShowsIn g relations counters first s k → ShowsIn g relations counters first (f s) n
  led k n f first s go shows = ∥∥₁_map shows (λ (origin, base, is, x). let y = go origin base x.consistent in (origin, y.0, is, subst (λ (z : State). IsIn g origin y.0 z n) (ap f (sym x.state)) y.1))

  pub well_led : (k n : Core D) (f : State → State) → Leads k n f → IsWell g relations counters k → IsWell g relations counters n
  well_led k n f go well = ∥∥₁_map well (λ (origin, base, is, safe). let y = go origin base safe in (origin, y.0, is, y.1.consistent))

  pub stays_led : (k n : Core D) → StaysIn g k n → Leads k n (λ s. s)
  stays_led k n stays origin base safe = (base, stays origin base safe)

  -- where it is not refused; else nothing has changed
  pub on_ok : {T : Type 0} (k n : Core D) (f : State → State) (first : Base) (s : State) (r : Result T Refusal) → ((origin : Origin) (base : Base) → IsConsistent g origin base k → OnOk r (IsIn g origin base (f (state_of k base)) n))
      → ShowsIn g relations counters first s k → OnOk r (ShowsIn g relations counters first (f s) n)
  on_ok k n f first s (Ok x) go shows = led k n f first s (λ origin base safe. (base, go origin base safe)) shows
  on_ok k n f first s (Err y) go shows = tt

  pub well_or : {T : Type 0} (k n : Core D) (f : State → State) (r : Result T Refusal) → ((origin : Origin) (base : Base) → IsConsistent g origin base k → OnOk r (IsIn g origin base (f (state_of k base)) n))
      → OnErr r (n ≡ k) → IsWell g relations counters k → IsWell g relations counters n
  well_or k n f (Ok x) go err well = well_led k n f (λ origin base safe. (base, go origin base safe)) well
  well_or k n f (Err y) go err well = subst (IsWell g relations counters) (sym err) well

  pub well_either : {T : Type 0} (k n : Core D) (f : State → State) (r : Result T Refusal) → ((origin : Origin) (base : Base) → IsConsistent g origin base k → OnOk r (IsIn g origin base (f (state_of k base)) n))
      → ((origin : Origin) (base : Base) → IsConsistent g origin base k → OnErr r (IsIn g origin base (state_of k base) n)) → IsWell g relations counters k → IsWell g relations counters n
  well_either k n f (Ok x) go err well = well_led k n f (λ origin base safe. (base, go origin base safe)) well
  well_either k n f (Err y) go err well = well_led k n (λ z. z) (λ origin base safe. (base, err origin base safe)) well

  -- ---- a step of an operation

  abbrev pub StepShown : Core D → Base → State → ℕ → Result Stepping Refusal → Type 0
  StepShown n first s t (Ok (Ended reply)) = (op : Op) → s.running t ≡ Some op → ShowsIn g relations counters first (ended s t op) n × ∥ reply_of s.base op ≡ reply ∥₁
  StepShown n first s t (Ok (Going going)) = ShowsIn g relations counters first s n
  StepShown n first s t (Err why) = ShowsIn g relations counters first s n

  pub step_shown : (k n : Core D) (first : Base) (s : State) (t place : ℕ) (res : Result Stepping Refusal) → place < length k.running.items → AtPlace k.running.items place (λ r. r.txn ≡ t) → AtPlace k.running.items place (λ r. r.undoes ≡ 0)
      → ((origin : Origin) (base : Base) → IsConsistent g origin base k → Steps g origin base k n place res) → ShowsIn g relations counters first s k → StepShown n first s t res
  step_shown k n first s t place (Ok (Going going)) within own fore go shows = led k n (λ z. z) first s (λ origin base safe. (base, go origin base safe)) shows
  step_shown k n first s t place (Err why) within own fore go shows = led k n (λ z. z) first s (λ origin base safe. (base, go origin base safe)) shows
  step_shown k n first s t place (Ok (Ended reply)) within own fore go shows = λ op runs.
      let at = at_place k.running.items place within in let r = at.0 in (
        ∥∥₁_map shows (λ (origin, base, is, x).
            let this = same_op origin base x r at.1 op runs in
            let here = go origin base x.consistent r at.1 in
            (origin, base_after base r.op, is, subst (λ (X : Type 0). X) (λ i. IsIn g origin (base_after base r.op) (ended (sym x.state i) (own r at.1 i) (this i)) n) here.1)),
        ∥∥₁_map shows (λ (origin, base, is, x).
            let this = same_op origin base x r at.1 op runs in
            let here = go origin base x.consistent r at.1 in
            (λ i. reply_of ((ap (λ (z : State). z.base) x.state) i) (sym this i)) ∙ here.0),
      )
    where
      same_op : (origin : Origin) (base : Base) → IsIn g origin base s k → (r : OpScope) → r ≡ get_or k.running.items place r → (op : Op) → s.running t ≡ Some op → r.op ≡ op
      same_op origin base x r there op runs =
          let mine : running_in k.running.items r.txn ≡ Some r.op = running_at k.running.items place r within there (fore r there) x.consistent.fit.apart in
          let now : running_in k.running.items t ≡ Some op = ap (λ (z : State). z.running t) (sym x.state) ∙ runs in
          let same : ◌≡◌ {A = Option Op} (Some r.op) (Some op) = sym mine ∙ ap (running_in k.running.items) (own r there) ∙ now in cc

  pub step_well : (k n : Core D) (place : ℕ) (res : Result Stepping Refusal) → place < length k.running.items
      → ((origin : Origin) (base : Base) → IsConsistent g origin base k → Steps g origin base k n place res) → IsWell g relations counters k → IsWell g relations counters n
  step_well k n place (Ok (Going going)) within go well = well_led k n (λ z. z) (λ origin base safe. (base, go origin base safe)) well
  step_well k n place (Err why) within go well = well_led k n (λ z. z) (λ origin base safe. (base, go origin base safe)) well
  step_well k n place (Ok (Ended reply)) within go well = let at = at_place k.running.items place within in
      ∥∥₁_map well (λ (origin, base, is, safe). (origin, base_after base at.0.op, is, (go origin base safe at.0 at.1).1.consistent))

  -- ---- a step of an abort

  abbrev pub ShowsBack : Core D → Base → State → ℕ → Type 0
  ShowsBack n first s t = ∥ ((z : State) × IsBack s t z × ShowsIn g relations counters first z n) ∥₁

  pub back_stands : (n : Core D) (first : Base) (s : State) (t : ℕ) → ShowsIn g relations counters first s n → ShowsBack n first s t
  back_stands n first s t shows = ∣ (s, stands, shows) ∣₁

  abbrev pub ShowsReturn : Core D → Base → State → ℕ → ℕ → Type 0
  ShowsReturn n first s t many = ∥ ((z : State) × IsReturn s t many z × ShowsIn g relations counters first z n) ∥₁

  -- an inverse has ended, as its transaction is to be undone or goes on
  abbrev pub InvertedTo : Core D → Base → State → ℕ → Option TxnState → Type 0
  InvertedTo n first s t None = ShowsBack n first s t
  InvertedTo n first s t (Some Open) = ShowsBack n first s t
  InvertedTo n first s t (Some Committing) = ShowsBack n first s t
  InvertedTo n first s t (Some (Returning many)) = ShowsReturn n first s t many
  InvertedTo n first s t (Some Aborting) = ShowsBack n first s t

  abbrev pub UndoShown : Core D → Base → State → ℕ → Option TxnState → Result Stepping Refusal → Type 0
  UndoShown n first s t state (Ok (Ended reply)) = InvertedTo n first s t state
  UndoShown n first s t state (Ok (Going going)) = ShowsIn g relations counters first s n
  UndoShown n first s t state (Err why) = ShowsIn g relations counters first s n

  inverted_shown : (n : Core D) (first : Base) (s : State) (t : ℕ) (i : Op) (state : Option TxnState) → ∥ ((origin : Origin) × (base : Base) × IsOrigin relations counters first origin × InvertsIn g origin base s n t i state) ∥₁ → InvertedTo n first s t state
  inverted_shown n first s t i state outcome = go state outcome
    where
      back : ∥ ((origin : Origin) × (base : Base) × IsOrigin relations counters first origin × UndoesIn g origin base s n t i) ∥₁ → ShowsBack n first s t
      back outcome = ∥∥₁_map outcome (λ (origin, base, is, u). (undone s t i n.escrow.pending, undoes u.last i n.escrow.pending u.idle u.effect u.inverts u.given, ∣ (origin, base_after base i, is, u.leads) ∣₁))

      go : (x : Option TxnState) → ∥ ((origin : Origin) × (base : Base) × IsOrigin relations counters first origin × InvertsIn g origin base s n t i x) ∥₁ → InvertedTo n first s t x
      go None h = back h
      go (Some Open) h = back h
      go (Some Committing) h = back h
      go (Some Aborting) h = back h
      go (Some (Returning many)) h = ∥∥₁_map h (λ (origin, base, is, u). (returned s t u.last i n.escrow.pending, returns u.last i n.escrow.pending u.idle u.effect u.after u.inverts u.given, ∣ (origin, base_after base i, is, u.leads) ∣₁))

  pub undo_shown : (k n : Core D) (first : Base) (s : State) (t place : ℕ) (res : Result Stepping Refusal) → place < length k.running.items → AtPlace k.running.items place (λ r. r.txn ≡ t)
      → ((origin : Origin) (base : Base) → IsConsistent g origin base k → UndoSteps g origin base k n place res) → ShowsIn g relations counters first s k → UndoShown n first s t (state_in k.live.members t) res
  undo_shown k n first s t place (Ok (Going going)) within own go shows = led k n (λ z. z) first s (λ origin base safe. (base, go origin base safe)) shows
  undo_shown k n first s t place (Err why) within own go shows = led k n (λ z. z) first s (λ origin base safe. (base, go origin base safe)) shows
  undo_shown k n first s t place (Ok (Ended reply)) within own go shows = let at = at_place k.running.items place within in let r = at.0 in
      inverted_shown n first s t r.op (state_in k.live.members t)
      (∥∥₁_map shows (λ (origin, base, is, x). (origin, base, is, subst (λ (X : Type 0). X) (λ i. InvertsIn g origin base (sym x.state i) n (own r at.1 i) r.op (state_in k.live.members (own r at.1 i))) (go origin base x.consistent r at.1).1)))

  pub ended_inverted : (n : Core D) (first : Base) (s : State) (t : ℕ) (state : Option TxnState) → InvertedTo n first s t state → InvertsTo (λ z. ShowsIn g relations counters first z n) s t state (Ok abort.More)
  ended_inverted n first s t None h = h
  ended_inverted n first s t (Some Open) h = h
  ended_inverted n first s t (Some Committing) h = h
  ended_inverted n first s t (Some (Returning many)) h = h
  ended_inverted n first s t (Some Aborting) h = h

  pub undo_well : (k n : Core D) (place : ℕ) (res : Result Stepping Refusal) → place < length k.running.items
      → ((origin : Origin) (base : Base) → IsConsistent g origin base k → UndoSteps g origin base k n place res) → IsWell g relations counters k → IsWell g relations counters n
  undo_well k n place (Ok (Going going)) within go well = well_led k n (λ z. z) (λ origin base safe. (base, go origin base safe)) well
  undo_well k n place (Err why) within go well = well_led k n (λ z. z) (λ origin base safe. (base, go origin base safe)) well
  undo_well k n place (Ok (Ended reply)) within go well = let at = at_place k.running.items place within in
      ∥∥₁_map well (λ (origin, base, is, safe). (origin, base_after base at.0.op, is, inverted_consistent g origin base (state_of k base) n at.0.txn at.0.op (state_in k.live.members at.0.txn) (go origin base safe at.0 at.1).1))

  abbrev pub BackShown : Core D → Base → State → ℕ → Result TakenBack Refusal → Type 0
  BackShown n first s t (Ok taken.Clear) = ShowsBack n first s t
  BackShown n first s t (Ok taken.More) = ShowsIn g relations counters first s n
  BackShown n first s t (Ok taken.Flush) = ShowsIn g relations counters first s n
  BackShown n first s t (Err why) = ShowsIn g relations counters first s n

  pub back_shown : (k n : Core D) (first : Base) (s : State) (t place : ℕ) (res : Result TakenBack Refusal) → place < length k.running.items → AtPlace k.running.items place (λ r. r.txn ≡ t)
      → ((origin : Origin) (base : Base) → IsConsistent g origin base k → BacksIn g origin base k n place res) → ShowsIn g relations counters first s k → BackShown n first s t res
  back_shown k n first s t place (Ok taken.More) within own go shows = led k n (λ z. z) first s (λ origin base safe. (base, go origin base safe)) shows
  back_shown k n first s t place (Ok taken.Flush) within own go shows = led k n (λ z. z) first s (λ origin base safe. (base, go origin base safe)) shows
  back_shown k n first s t place (Err why) within own go shows = led k n (λ z. z) first s (λ origin base safe. (base, go origin base safe)) shows
  back_shown k n first s t place (Ok taken.Clear) within own go shows = let at = at_place k.running.items place within in
      ∥∥₁_map shows (λ (origin, base, is, x).
      let d = subst (λ (X : Type 0). X) (λ i. DropsIn g origin base (sym x.state i) n (own at.0 at.1 i)) (go origin base x.consistent at.0 at.1) in (
        dropped s t n.escrow.pending,
        drops d.op n.escrow.pending d.runs d.given,
        ∣ (origin, base, is, d.leads) ∣₁,
      ))

  pub back_well : (k n : Core D) (place : ℕ) (res : Result TakenBack Refusal) → place < length k.running.items
      → ((origin : Origin) (base : Base) → IsConsistent g origin base k → BacksIn g origin base k n place res) → IsWell g relations counters k → IsWell g relations counters n
  back_well k n place (Ok taken.More) within go well = well_led k n (λ z. z) (λ origin base safe. (base, go origin base safe)) well
  back_well k n place (Ok taken.Flush) within go well = well_led k n (λ z. z) (λ origin base safe. (base, go origin base safe)) well
  back_well k n place (Err why) within go well = well_led k n (λ z. z) (λ origin base safe. (base, go origin base safe)) well
  back_well k n place (Ok taken.Clear) within go well = let at = at_place k.running.items place within in
      ∥∥₁_map well (λ (origin, base, is, safe). (origin, base, is, (go origin base safe at.0 at.1).leads.consistent))

-- ---- a kernel whose parts are as before shows what it showed

pub parts_stay : {D : Type 0} → {g : Ghosts D} → (k n : Kernel D g) → n.core ≡ k.core → SameSchema k n → Stays k n
parts_stay {D} {g = g} k n same schema first s shows =
    subst (λ (X : Type 0). X) (λ i. At (sym schema.0 i) (sym schema.1 i) (sym same i)) shows
  where
    At : ℕ → ℕ → Core D → Type 0
    At relations counters parts = ShowsIn g relations counters first s parts
