-- What a rotation does to a kernel in which nobody lives.
use Rattle.std.proofs.Common.{◌≡◌, ⊎_elim, inl, inr, ℕ, true, false, List, [], length, Option, Some, None, is_some, Ok, Err, subst, refl, ap, sym, ◌∙◌}
use Rattle.std.proofs.lemmas.Bool.{cases_Bool}
use Rattle.std.proofs.Props.{props}
use mathlib.Core.Logic.{∥∥₁_elim}
use Rattle.mt_base.specs.declared.refusal.Refusal.{Refusal}
use Rattle.mt_base.specs.declared.refusal.Refusal.TheVariants as refusal
use Rattle.mt_disk.specs.declared.device.Device.{Ghosts}
use Rattle.mt_core.proofs.First.{none_of_none}
use Rattle.mt_core.specs.Consistent.{state_of}
use Rattle.mt_core.specs.Runs.{state_in}
use Rattle.mt_core.specs.declared.parts.Commit.{Commit}
use Rattle.mt_live.specs.Machine.{State, is_live}
use Rattle.mt_live.specs.Members.{Member}
use Rattle.mt_live.specs.declared.transactions.TxnState.{TxnState}
use Rattle.mt_model.specs.Model.{Base}
use Rattle.mt_restart.proofs.EarlyCauses.{early_busy, early_failed, may_nobody, may_well, not_early}
use Rattle.mt_restart.specs.Rotated.{IsKeptCause, IsLeft, IsRotated, Rotates, early_cause}
use Rattle.mt_restart.specs.Standings.{device_at}
use Rattle.mt_txn.proofs.GoingOn.{nobody_commits, nobody_still}
use Rattle.mt_txn.proofs.Living.{lives_of}
use Rattle.mt_txn.specs.Restarted.{FindsMeanwhile}
use Rattle.mt_txn.specs.Shown.{Restarts, Shows, is_failed}
use Rattle.mt_txn.specs.Turned.{HasNobody}
use Rattle.mt_txn.specs.Well.{IsWell}
use Rattle.mt_txn.specs.declared.kernel.Kernel.{Kernel}
use Rattle.mt_world.proofs.CrashLemmas.{found_itself}
use Rattle.mt_world.proofs.EventLemmas.{still}
use Rattle.mt_world.specs.Due.{SamePhases}
use Rattle.mt_world.specs.Moves.IsStill.{is_refused, rotated}
use Rattle.mt_world.specs.Schedules.{HasBecome, HasMade}
use Rattle.mt_world.specs.declared.events.Answer.{Answer}
use Rattle.mt_world.specs.declared.events.Answer.TheVariants.{Refused, Rotated}
use Rattle.mt_world.specs.declared.events.Event.TheVariants.{Rotate}
use Rattle.mt_restart.specs.declared.standing.Standing.{Standing}
use Rattle.mt_restart.specs.declared.standing.Standing.TheVariants.{Stands, Ended}

-- ---- nobody lives

is_none : (o : Option TxnState) → is_some o ≡ false → o ≡ None
is_none None is = refl
is_none (Some x) is = absurd cc

module _ {D : Type 0} {g : Ghosts D} where
  -- it can be restarted, and its parts are tied
  abbrev pub Starts : Kernel D g → Type 0
  Starts k = ∥ ((first : Base) × Restarts first k) ∥₁

  abbrev pub Well : Kernel D g → Type 0
  Well k = IsWell g k.relations k.counters k.core

  -- nobody does where the state goes on
  nobody_after : (k n : Kernel D g) → HasNobody k → Starts k → ((first : Base) (s : State) → Restarts first k → Shows first s k → Shows first s n) → HasNobody n
  nobody_after k n nobody begun goes = ∥∥₁_elim begun (hlevel props) (λ (first, starts). ∥∥₁_elim starts (hlevel props) (λ (origin, base, x).
      let s : State = state_of k.core base in
      let shows : Shows first s k = ∣ (origin, base, x.is, record { consistent = x.consistent; state = refl }) ∣₁ in
      let later = goes first s starts shows in
      let gone : (u : ℕ) → state_in k.core.live.members u ≡ None = λ u. ap (λ (ms : List Member). state_in ms u) (none_of_none k.core.live.members nobody) in
      let dead : (u : ℕ) → is_live s u ≡ false = λ u. lives_of g k.relations k.counters k.core first s shows u ∙ ap (λ (o : Option TxnState). is_some o) (gone u) in
      nobody_still k.core n.core nobody (λ u other. is_none (state_in n.core.live.members u) (sym (lives_of g n.relations n.counters n.core first s later u) ∙ dead u) ∙ sym (gone u))))

  no_commits : (k : Kernel D g) → Well k → HasNobody k → k.core.commits.items ≡ []
  no_commits k well nobody = none_of_none k.core.commits.items (∥∥₁_elim (nobody_commits k nobody well) (hlevel props) (λ none. ap (λ (cs : List Commit). length cs) none))

  nobody_phases : (k n : Kernel D g) → Well k → Well n → HasNobody k → HasNobody n → SamePhases k n
  nobody_phases k n well still nobody later = (
    λ u. ap (λ (ms : List Member). state_in ms u) (none_of_none n.core.live.members later ∙ sym (none_of_none k.core.live.members nobody)),
    no_commits n still later ∙ sym (no_commits k well nobody),
  )

  -- ---- what was made of it

  module _ (only_now : (d : D) (c : List ℕ) → g.left_since d (g.moment d) c → g.may_leave d c) where
    abbrev Turns : Kernel D g → Answer → Kernel D g → Type 0
    Turns k answer n = HasMade k Rotate answer n

    -- nothing was done, for this cause
    early_turn : (k : Kernel D g) (why : Refusal) → early_cause k ≡ Some why → (is_failed k ≡ true → why ≡ refusal.DeviceFailed) → (why ≡ refusal.DeviceFailed → is_failed k ≡ true) → Turns k (Refused why) k
    early_turn k why early failed broken = record {
      leads = λ first s starts shows. still k k Rotate (Refused why) first s (is_refused _ _) shows;
      due = inl (early, refl);
      device = tt;
      phases = (λ u. refl, refl);
      fails = ((λ before. (ap (λ (w : Refusal). Refused w) (failed before), refl)), λ is. broken (let w : why ≡ refusal.DeviceFailed = cc in w));
      restarts = λ first r. r;
      found = found_itself only_now k;
      schema = (refl, refl);
    }

    same_why : (k : Kernel D g) (why other : Refusal) → early_cause k ≡ Some why → early_cause k ≡ Some other → why ≡ other
    same_why k why other is are = let both : Some why ≡ Some other = sym is ∙ are in cc

    -- that is, its device has failed, or a transaction lives
    early_turned : (k : Kernel D g) (why : Refusal) → early_cause k ≡ Some why → Turns k (Refused why) k
    early_turned k why early = elim (cases_Bool (is_failed k)) [
      | inl failed ↦ early_turn k why early (λ _. same_why k why refusal.DeviceFailed early (early_failed k failed)) (λ _. failed)
      | inr well ↦ early_turn k why early (λ failed. absurd (let wrong : true ≡ false = sym failed ∙ well in cc))
          (λ is. let busy = same_why k why refusal.Busy early (early_busy k well (λ nobody. not_early k why well nobody early)) in let wrong : refusal.DeviceFailed ≡ refusal.Busy = sym is ∙ busy in absurd cc)
    ]

    turned : (k n : Kernel D g) → Starts k → Well k → Well n → IsRotated k n → ((first : Base) → Restarts first k → FindsMeanwhile g k.relations k.counters first k.core n.core.operations.store.device) → Turns k Rotated n
    turned k n begun tied tied_still x found =
        let well = may_well k x.may in let nobody = may_nobody k x.may in
        record {
          leads = λ first s starts was. still k n Rotate Rotated first s rotated (x.over.state first s starts was);
          due = record { may = x.may; fresh = x.begun };
          device = tt;
          phases = nobody_phases k n tied tied_still nobody (nobody_after k n nobody begun x.over.state);
          fails = ((λ failed. let wrong : true ≡ false = sym failed ∙ well in absurd cc), λ broken. absurd cc);
          restarts = x.over.restarts;
          found = λ first starts count. found first starts;
          schema = x.over.schema;
        }

    -- the kernel is left after its force
    late_turn : (k n : Kernel D g) (why : Refusal) → Starts k → Well k → Well n → IsLeft k why n → early_cause k ≡ None → IsKeptCause n why → Turns k (Refused why) n
    late_turn k n why begun tied still_tied x may cause =
        let well = may_well k may in let nobody = may_nobody k may in
        record {
          leads = λ first s starts shows. still k n Rotate (Refused why) first s (is_refused _ _) (x.keeps.state first s shows);
          due = inr (may, cause);
          device = tt;
          phases = nobody_phases k n tied still_tied nobody (nobody_after k n nobody begun (λ first s starts shows. x.keeps.state first s shows));
          fails = ((λ failed. let wrong : true ≡ false = sym failed ∙ well in absurd cc), λ broken. let is : why ≡ refusal.DeviceFailed = cc in subst (IsKeptCause n) is cause);
          restarts = x.keeps.restarts;
          found = x.keeps.found;
          schema = x.keeps.schema;
        }

    pub turned_as : (k : Kernel D g) (standing : Standing D g) (u : Unit {0}) → Starts k → Well k → ((n : Kernel D g) → Well n) → Rotates k standing (Ok u)
        → ((first : Base) → Restarts first k → FindsMeanwhile g k.relations k.counters first k.core (device_at standing)) → HasBecome k Rotate Rotated standing
    turned_as k (Stands n) u begun tied each x found = turned k n begun tied (each n) x found
    turned_as k (Ended device) u begun tied each x found = absurd x

    pub refused_as : (k : Kernel D g) (standing : Standing D g) (why : Refusal) → Starts k → Well k → ((n : Kernel D g) → Well n) → Rotates k standing (Err why)
        → ((first : Base) → Restarts first k → FindsMeanwhile g k.relations k.counters first k.core (device_at standing)) → HasBecome k Rotate (Refused why) standing
    refused_as k (Stands n) why begun tied each x found = ⊎_elim
        (λ (early, same). subst (λ (m : Kernel D g). Turns k (Refused why) m) (sym same) (early_turned k why early))
        (λ (may, cause). late_turn k n why begun tied (each n) x may cause)
        x.cause
    refused_as k (Ended device) why begun tied each x found = record { rotation = refl; refused = ap (λ (w : Refusal). Refused w) x.0; ended = x.1; found = found }
