-- A kernel whose log is turned over.
use Rattle.std.proofs.Common.{◌≡◌, ◌⊎◌, ◌<◌, true, ◌≤◌, ◌++◌, inl, inr, ⊎_elim, ℕ, List, [], length, suc, Result, Ok, Err, refl, sym, ap, ◌∙◌, subst, arith, append-nil, append_assoc}
use Rattle.std.proofs.lemmas.Bool.{cases_lt}
use Rattle.std.proofs.lemmas.List.{length-append}
use Rattle.std.proofs.Props.{props}
use Rattle.std.specs.Prelude.{◌≢◌, ◌||◌, false, IfOk, None}
use mathlib.Core.Logic.{∥∥₁_elim, ∥∥₁_map, ∥∥₁_prop}
use Rattle.mt_base.specs.Limits.{IsRelationCount}
use Rattle.mt_base.specs.declared.refusal.Refusal.{Refusal}
use Rattle.mt_base.specs.declared.refusal.Refusal.TheVariants as refusal
use Rattle.mt_disk.specs.Disk.{LeavesOnly}
use Rattle.mt_disk.specs.declared.device.Device.{Ghosts}
use Rattle.mt_frame.specs.declared.records.Record.{Record}
use Rattle.mt_core.specs.Turned as parts
use Rattle.mt_core.proofs.First.{none_of_none}
use Rattle.mt_core.specs.Booked.{booked_each, durable_txns}
use Rattle.mt_core.specs.declared.parts.Commit.{Commit}
use Rattle.mt_core.specs.declared.parts.Core.{Core}
use Rattle.mt_live.specs.Machine.{State}
use Rattle.mt_log.specs.NextSlot.{next_slot}
use Rattle.mt_log.specs.Quiet.{OnlyReadsOrSyncs}
use Rattle.mt_log.specs.Words.{appended, durable, has_failed, in_flight, waiting, IsStep}
use Rattle.mt_log.specs.declared.log.Forced.TheVariants as log
use Rattle.mt_log.specs.declared.log.Log.{Log}
use Rattle.mt_model.specs.History.{after}
use Rattle.mt_model.specs.Model.{Base, IsBase}
use Rattle.mt_space.specs.PageLists.{bytes_of}
use Rattle.mt_escrow.specs.Seen.{Escrowed}
use Rattle.mt_op.specs.declared.operations.Operations.{Operations}
use Rattle.mt_steps.specs.Held.{Holds}
use Rattle.mt_replay.specs.Laws.{OnlyOwnPagesMatter}
use Rattle.mt_replay.specs.Stands.{CanRestart, ShowsBase}
use Rattle.mt_txn.proofs.Due.{all_of, due_more, due_none, due_settled, due_start}
use Rattle.mt_txn.proofs.GoingOn.{all_booked, nobody_commits, same_commits}
use Rattle.mt_txn.proofs.Restarting.{finds_all, finds_back, finds_commits, no_call, then_finds}
use Rattle.mt_txn.specs.Detached.{Attaches, CanAttach, IsDetached, IsRestBeside}
use Rattle.mt_txn.specs.Due.{IsDueIn}
use Rattle.mt_txn.specs.Events.{HasForced, IsForcedBy}
use Rattle.mt_txn.specs.Restarted.{FindsCommits, FindsMeanwhile}
use Rattle.mt_txn.specs.Causes.{IsFailure}
use Rattle.mt_txn.specs.Effects.{KeepsAtForce}
use Rattle.mt_txn.specs.Seen.{KernelSeen, seen_of}
use Rattle.mt_txn.specs.Shown.{LeavesFound, Restarts, SameSchema, Shows, StaysRestarting, is_failed}
use Rattle.mt_txn.specs.Turned.{GoesOn, HasNobody, IsForced, Resumes}
use Rattle.mt_txn.specs.Well.{IsWell, Opens, RestartsFrom, ShowsIn}
use Rattle.mt_txn.specs.declared.detached_kernel.DetachedKernel.{DetachedKernel}
use Rattle.mt_txn.specs.declared.kernel_rest.KernelRest.{KernelRest}
use Rattle.mt_txn.specs.declared.answers.KernelForced.{KernelForced}
use Rattle.mt_txn.specs.declared.answers.KernelForced.TheVariants as forced
use Rattle.mt_txn.specs.declared.kernel.Kernel.{Kernel}
use Rattle.mt_restart.specs.Beside.{IsBeside}
use Rattle.mt_restart.specs.declared.beside.Beside.{Beside}
use Rattle.mt_restart.specs.Recovered.{CannotTurn, IsCauseToStop, StandsStill}
use Rattle.mt_restart.specs.declared.standing.Standing.{Standing}
use Rattle.mt_restart.specs.declared.standing.Standing.TheVariants.{Stands, Ended}
use Rattle.mt_restart.proofs.EarlyCauses.{not_early}
use Rattle.mt_restart.specs.Rotated.{GoesOver, Grows, IsForcedOut, IsKeptCause, Keeps, Rotates, SameParts, early_cause}

-- ---- the log

-- records of which all are durable are all that were appended
all_durable : (front back : List Record) → length (front ++ back) ≤ length front → front ≡ front ++ back
all_durable front back short = let sum = length-append front back in let none : back ≡ [] = none_of_none back (omega (arith, short, sum)) in sym (ap (λ (rs : List Record). front ++ rs) none ∙ append-nil front)

-- all that was appended is durable; or it will be, in so many steps at most
abbrev pub IsNear : ℕ → Log → Type 0
IsNear steps l = (durable l ≡ appended l) ⊎ IsDueIn steps (length (appended l)) l

pub near_start : (l : Log) → IsNear 8 l
near_start l = inr (due_start (length (appended l)) l (omega arith))

pub near_none : (l : Log) → IsNear 0 l → durable l ≡ appended l
near_none l near = ⊎_elim
    (λ is. is)
    (λ due. ⊎_elim
    (λ less. absurd (due_none (length (appended l)) l less due))
    (λ all. all_durable (durable l) (in_flight l ++ waiting l) all)
    (cases_lt (length (durable l)) (length (appended l))))
    near

-- where all was durable, it is so still, whatever the step
stays_durable : (k l : Log) (more : List Record) → durable l ≡ durable k ++ more → appended l ≡ appended k → durable k ≡ appended k → durable l ≡ appended l
stays_durable k l more grown same is = all_durable (durable l) (in_flight l ++ waiting l) (
    let a : length (appended l) ≡ length (durable k) = ap (λ (rs : List Record). length rs) (same ∙ sym is) in
    let b : length (durable l) ≡ length (durable k ++ more) = ap (λ (rs : List Record). length rs) grown in let c = length-append (durable k) more in omega (arith, a, b, c))

grown_by : (k l : Log) → durable l ≡ durable k → durable l ≡ durable k ++ []
grown_by k l same = same ∙ sym (append-nil (durable k))

near_more : (n : ℕ) (k l : Log) → IsStep k log.More l → appended l ≡ appended k → IsNear (suc n) k → IsNear n l
near_more n k l step same near = ⊎_elim
    (λ is. inl (stays_durable k l [] (grown_by k l step.0) same is))
    (λ due. inr (subst (λ (m : ℕ). IsDueIn n m l) (ap (λ (rs : List Record). length rs) (sym same)) (due_more (length (appended k)) n k l due step same)))
    near

near_settled : (n pos : ℕ) (k l : Log) → IsStep k (log.Durable pos) l → appended l ≡ appended k → IsNear (suc n) k → IsNear n l
near_settled n pos k l step same near = ⊎_elim
    (λ is. inl (stays_durable k l (in_flight k) step.2 same is))
    (λ due. ⊎_elim
    (λ less. inr (subst (λ (m : ℕ). IsDueIn n m l) (ap (λ (rs : List Record). length rs) (sym same)) (due_settled (length (appended k)) n pos k l due step same less)))
    (λ all. inl (all_durable (durable l) (in_flight l ++ waiting l) (let at = step.6 in let a : length (appended l) ≡ length (appended k) = ap (λ (rs : List Record). length rs) same in omega (arith, all, at, a))))
    (cases_lt pos (length (appended k))))
    near

pub idle_durable : (k l : Log) → IsStep k log.Idle l → durable l ≡ appended l
idle_durable k l step = all_durable (durable l) (in_flight l ++ waiting l) (
    let none : length (in_flight l) ≡ 0 = ap (λ (rs : List Record). length rs) step.3 in
    let nothing : length (waiting l) ≡ 0 = ap (λ (rs : List Record). length rs) step.4 in
    let all = all_of l in omega (arith, none, nothing, all))

-- ---- the kernel

-- why a step of a force was refused
pub force_cause : {D : Type 0} {g : Ghosts D} (m n : Kernel D g) (why : Refusal) → (why ≢ refusal.NoMemory → IsFailure g (is_failed m) m.core n.core why)
    → (◌≡◌ {A = Result KernelForced Refusal} (Err why) (Err refusal.DeviceFailed) → is_failed n ≡ true) → (◌≡◌ {A = Result KernelForced Refusal} (Err why) (Err refusal.NoMemory) → n ≡ m) → is_failed m ≡ false → IsKeptCause n why
force_cause m n refusal.NoMemory cause fails memory well = ap (λ (k : Kernel _ _). is_failed k) (memory refl) ∙ well
force_cause m n refusal.DeviceFailed cause fails memory well = fails refl
force_cause m n _ cause fails memory well = ⊎_elim (λ x. absurd (let no = x.1 in cc)) (λ y. absurd (let no = y.0 in cc)) (cause (λ e. absurd cc))

-- what keeps the parts twice keeps them
parts_both : {D : Type 0} (k m n : KernelSeen D) → SameParts k m → SameParts m n → SameParts k n
parts_both k m n one two = record { pool = two.pool ∙ one.pool; ruling = two.ruling ∙ one.ruling; appended = two.appended ∙ one.appended; numbers = two.numbers ∙ one.numbers }

module _ {D : Type 0} {g : Ghosts D} where
  -- a step of a force keeps the parts
  parts_forced : (m n : Kernel D g) (r : Result KernelForced Refusal) → KeepsAtForce (seen_of m) r (seen_of n) → SameParts (seen_of m) (seen_of n)
  parts_forced m n r keeps = record { pool = keeps.pool; ruling = keeps.ruling; appended = keeps.appended; numbers = keeps.numbers }

  -- a step of a force names nobody where nobody commits
  shows_forced : (m n : Kernel D g) (r : Result KernelForced Refusal) (first : Base) (s : State) → m.core.commits.items ≡ [] → HasForced first s r n
      → IfOk r (λ f. IsForcedBy m.core.operations.store.log m.core.commits.items f n.core.operations.store.log n.core.commits.items) → Shows first s n
  shows_forced m n (Ok forced.More) first s none shows by = shows
  shows_forced m n (Ok forced.Idle) first s none shows by = shows
  shows_forced m n (Err why) first s none shows by = shows
  shows_forced m n (Ok (forced.Durable names)) first s none shows by =
      let nobody : names.items ≡ [] = by.2 ∙ ap (λ (cs : List Commit). durable_txns cs by.0) none in
      subst (λ (ts : List ℕ). Shows first (booked_each s ts) n) nobody shows

  -- what it leaves durable
  pub grows_forced : (k m n : Kernel D g) (f : KernelForced) → Grows k m → IsForcedBy m.core.operations.store.log m.core.commits.items f n.core.operations.store.log n.core.commits.items → Grows k n
  grows_forced k m n forced.More (more, grown) by = (more, by.0.0 ∙ grown)
  grows_forced k m n forced.Idle (more, grown) by = (more, by.0.2 ∙ grown)
  grows_forced k m n (forced.Durable names) (more, grown) by =
      (more ++ in_flight m.core.operations.store.log, by.1.2 ∙ ap (λ (rs : List Record). rs ++ in_flight m.core.operations.store.log) grown ∙ append_assoc (durable k.core.operations.store.log) more (in_flight m.core.operations.store.log))

  -- and how near that is to all
  pub near_forced : (steps : ℕ) (m n : Kernel D g) (f : KernelForced) → IsForcedBy m.core.operations.store.log m.core.commits.items f n.core.operations.store.log n.core.commits.items → appended n.core.operations.store.log ≡ appended m.core.operations.store.log → IsNear (suc steps) m.core.operations.store.log → IsNear steps n.core.operations.store.log
  near_forced steps m n forced.More by same near = near_more steps m.core.operations.store.log n.core.operations.store.log by.0 same near
  near_forced steps m n forced.Idle by same near = inl (idle_durable m.core.operations.store.log n.core.operations.store.log by.0)
  near_forced steps m n (forced.Durable names) by same near = near_settled steps by.0 m.core.operations.store.log n.core.operations.store.log by.1 same near

  module _ (only_now : (d : D) (c : List ℕ) → g.left_since d (g.moment d) c → g.may_leave d c) where
    -- it is as it was
    pub keeps_itself : (k : Kernel D g) → Keeps k k
    keeps_itself k = record {
      state = λ first s shows. shows;
      parts = record { pool = refl; ruling = refl; appended = refl; numbers = refl };
      restarts = λ first r. r;
      schema = (refl, refl);
      found = λ first r schema. no_call g k.relations k.counters first only_now k.core k.core.operations.store.device refl r schema;
    }

    pub keeps_forced : (k m n : Kernel D g) (r : Result KernelForced Refusal) → HasNobody k → HasNobody m → IsWell g m.relations m.counters m.core → Keeps k m → Grows k m
        → ((first : Base) (s : State) → Shows first s m → HasForced first s r n) → IfOk r (λ f. IsForcedBy m.core.operations.store.log m.core.commits.items f n.core.operations.store.log n.core.commits.items)
        → StaysRestarting m n → SameSchema m n → LeavesFound m n → KeepsAtForce (seen_of m) r (seen_of n) → Keeps k n
    keeps_forced k m n r nobody still well keeps (more, grown) forced by restarts schema found at_force = record {
      parts = parts_both (seen_of k) (seen_of m) (seen_of n) keeps.parts (parts_forced m n r at_force);
      state = λ first s shows. ∥∥₁_elim (nobody_commits m still well) ∥∥₁_prop (λ none. shows_forced m n r first s none (forced first s (keeps.state first s shows)) by);
      restarts = λ first starts. restarts first (keeps.restarts first starts);
      schema = (schema.0 ∙ keeps.schema.0, schema.1 ∙ keeps.schema.1);
      found = λ first starts count.
          then_finds g k.relations k.counters first only_now k.core m.core n.core.operations.store.device
          (λ c f. ∥∥₁_map (same_commits k m first nobody still starts keeps.state) (λ same. finds_back g k.relations k.counters first k.core m.core same.0 same.1 more grown c f))
          (keeps.found first starts count)
          (subst (λ (X : Type 0). X) (λ i. FindsMeanwhile g (keeps.schema.0 i) (keeps.schema.1 i) first m.core n.core.operations.store.device) (found first (keeps.restarts first starts) (subst IsRelationCount (sym keeps.schema.0) count)));
    }

    -- what a restart finds while the device of a forced kernel is made one for the next area
    pub found_over : (k : Kernel D g) (first : Base) (old new : D) → old ≡ k.core.operations.store.device → g.may_leave k.core.operations.store.device (g.seen k.core.operations.store.device) → HasNobody k → Restarts first k → IsRelationCount k.relations
        → ∥ LeavesOnly g.moment g.left_since old new (StandsStill g k.relations k.counters (after first k.core.book.items) old) ∥₁ → FindsMeanwhile g k.relations k.counters first k.core new
    found_over k first old new same present nobody starts count some = record {
      later = ∥∥₁_elim some (hlevel props) (λ leaves. let a = leaves.later in let b = ap g.moment same in omega (arith, a, b));
      each = λ c left. ∥∥₁_elim some ∥∥₁_prop (λ leaves. found c (leaves.each c (subst (λ (d : D). g.left_since new (g.moment d) c) (sym same) left)));
      before = λ t c le left. ∥∥₁_elim some ∥∥₁_prop (λ leaves. ⊎_elim
          (λ was. ∣ inl (subst (λ (d : D). g.left_since d t c) same was) ∣₁)
          (λ p. ∥∥₁_map (found c p) (λ f. inr f))
          (leaves.before t c (let b = ap g.moment same in omega (arith, le, b)) left));
    }
      where
        found : (c : List ℕ) → StandsStill g k.relations k.counters (after first k.core.book.items) old c → ∥ FindsCommits k.relations k.counters first k.core c ∥₁
        found c = ⊎_elim
            (λ may. finds_commits g k.relations k.counters first k.core c starts (subst (λ (d : D). g.may_leave d c) same may) count)
            (λ can. ∥∥₁_elim (all_booked g k.core k.relations k.counters first nobody starts) ∥∥₁_prop (λ whole. ∥∥₁_map (finds_commits g k.relations k.counters first k.core (g.seen k.core.operations.store.device) starts present count)
            (λ f. finds_all g k.relations k.counters first k.core c (g.seen k.core.operations.store.device) (after first k.core.book.items) can (ap (after first) (sym whole)) f)))

    -- and so of the kernel before the force
    pub found_behind : (k m : Kernel D g) (first : Base) (new : D) → HasNobody k → HasNobody m → Keeps k m → Grows k m → Restarts first k → IsRelationCount k.relations
        → FindsMeanwhile g m.relations m.counters first m.core new → FindsMeanwhile g k.relations k.counters first k.core new
    found_behind k m first new nobody still keeps (more, grown) starts count found =
        then_finds g k.relations k.counters first only_now k.core m.core new
        (λ c f. ∥∥₁_map (same_commits k m first nobody still starts keeps.state) (λ same. finds_back g k.relations k.counters first k.core m.core same.0 same.1 more grown c f))
        (keeps.found first starts count)
        (subst (λ (X : Type 0). X) (λ i. FindsMeanwhile g (keeps.schema.0 i) (keeps.schema.1 i) first m.core new) found)

    -- and what keeps a forced kernel keeps that one
    pub keeps_both : (k m n : Kernel D g) → HasNobody k → IsForcedOut k m → Keeps k m → Keeps m n → Keeps k n
    keeps_both k m n nobody out one two = record {
      parts = parts_both (seen_of k) (seen_of m) (seen_of n) one.parts two.parts;
      state = λ first s shows. two.state first s (one.state first s shows);
      restarts = λ first starts. two.restarts first (one.restarts first starts);
      schema = (two.schema.0 ∙ one.schema.0, two.schema.1 ∙ one.schema.1);
      found = λ first starts count. found_behind k m first n.core.operations.store.device nobody out.nobody one out.grows starts count (two.found first (one.restarts first starts) (subst IsRelationCount (sym one.schema.0) count));
    }

-- ---- the kernel that goes on

-- all of a kernel but its operations and its escrow
pub record IsRestOf {D : Type 0} {g : Ghosts D} (k : Kernel D g) (r : KernelRest) : Type 0 where
  pub parts : parts.IsRestOf k.core r.rest
  pub relations : r.relations ≡ k.relations
  pub counters : r.counters ≡ k.counters

module _ {D : Type 0} {g : Ghosts D} (own : OnlyOwnPagesMatter) where
  -- the recovered pages hold what the book leads to
  pub goes_on : (k : Kernel D g) (first : Base) (rest : KernelRest) (o : Operations D) (e : Escrowed) (frames : ℕ) (items : List (List ℕ)) (x : Beside) → IsRestOf k rest → HasNobody k → Restarts first k → IsBeside items frames x
      → ShowsBase k.relations k.counters items (after first k.core.book.items) → IsBase (after first k.core.book.items) → ((b : Base) → Holds (bytes_of items) b → IsBase b → Opens g o e x.relations x.counters b) → GoesOn g first k.core rest o e
  goes_on k first rest o e frames items x is nobody starts beside shows bounds opens =
      let alike = own k.relations k.counters (length items) shows.pages (bytes_of items) (λ p lt. shows.first p lt) shows.good in
      let rels : x.relations ≡ rest.relations = beside.relations ∙ alike.0.counts.relations_reported ∙ sym is.relations in
      let counts : x.counters ≡ rest.counters = beside.counters ∙ alike.0.counts.counters_reported ∙ sym is.counters in
      record {
        is = is.parts;
        nobody = nobody;
        restarts = subst (λ (X : Type 0). X) (λ i. RestartsFrom g (sym is.relations i) (sym is.counters i) first k.core) starts;
        opens = subst (λ (X : Type 0). X) (λ i. Opens g o e (rels i) (counts i) (after first k.core.book.items)) (opens (after first k.core.book.items) (alike.1 (after first k.core.book.items) shows.holds) bounds);
      }

  -- and so the kernel is in the state in which it was
  pub goes_over : (k n : Kernel D g) (rest : KernelRest) (o : Operations D) (e : Escrowed) → IsRestOf k rest → ((first : Base) → Restarts first k → ∥ GoesOn g first k.core rest o e ∥₁) → Resumes rest o e n → (n.relations ≡ rest.relations) × (n.counters ≡ rest.counters) → GoesOver k n
  goes_over k n rest o e is goes resumes schema = record {
    state = λ first s starts shows. ∥∥₁_elim (goes first starts) ∥∥₁_prop (λ on. (resumes first k.core on).0 s (subst (λ (X : Type 0). X) (λ i. ShowsIn g (sym is.relations i) (sym is.counters i) first s k.core) shows));
    restarts = λ first starts. ∥∥₁_elim (goes first starts) ∥∥₁_prop (λ on. (resumes first k.core on).1);
    schema = (schema.0 ∙ is.relations, schema.1 ∙ is.counters);
  }

-- why a recovery was refused, where the bytes can be restarted from and the device has not failed
pub stop_cause : {D : Type 0} {g : Ghosts D} (old new : D) (n : Kernel D g) (why : Refusal) → IsCauseToStop (g.seen old) (g.faults old < g.faults new) why → ∥ (why ≡ refusal.NoMemory) ⊎ ((why ≡ refusal.DeviceFailed) ⊎ (why ≡ refusal.LogFull)) ∥₁
    → (why ≡ refusal.DeviceFailed → ⊥) → g.seen n.core.operations.store.device ≡ g.seen old → is_failed n ≡ false → IsKeptCause n why
stop_cause old new n refusal.NoMemory cause some not same well = well
stop_cause old new n refusal.DeviceFailed cause some not same well = absurd (not refl)
stop_cause old new n refusal.LogFull cause some not same well = (well, subst CannotTurn (sym same) (⊎_elim (λ none. absurd none) (λ more. ⊎_elim (λ full. full.1) (λ other. absurd (let no = other.0 in cc)) more) cause))
stop_cause old new n _ cause some not same well = ∥∥₁_elim some (hlevel props) (⊎_elim (λ is. absurd cc) (⊎_elim (λ is. absurd cc) (λ is. absurd cc)))

-- and where it has
pub fault_cause : {D : Type 0} (g : Ghosts D) (old new : D) (why : Refusal) → why ≡ refusal.DeviceFailed → IsCauseToStop (g.seen old) (g.faults old < g.faults new) why → g.faults old < g.faults new
fault_cause g old new why is cause = ⊎_elim (λ failed. failed) (λ more. ⊎_elim (λ full. absurd (let no = full.0 in cc)) (λ other. absurd (let no = other.0 in cc)) more) (subst (IsCauseToStop (g.seen old) (g.faults old < g.faults new)) is cause)

-- ---- the kernel that is attached to its device again

module _ {D : Type 0} {g : Ghosts D} (k : Kernel D g) (rest : DetachedKernel) (d : D) (is : IsDetached k rest d) where
  pub device_was : d ≡ k.core.operations.store.device
  device_was = sym (ap (λ (c : Core D). c.operations.store.device) is.core)

  -- what it represents
  pub represents : ((first : Base) (c : List ℕ) → Restarts first k → HasNobody k → IsForced k → g.may_leave k.core.operations.store.device c → ∥ CanRestart k.relations k.counters c (after first k.core.book.items) ∥₁)
      → g.may_leave k.core.operations.store.device (g.seen k.core.operations.store.device) → HasNobody k → IsForced k → (first : Base) → Restarts first k → ∥ CanRestart k.relations k.counters (g.seen d) (after first k.core.book.items) ∥₁
  represents rests present nobody forced first starts =
      ∥∥₁_map (rests first (g.seen k.core.operations.store.device) starts nobody forced present) (λ can. subst (λ (e : D). CanRestart k.relations k.counters (g.seen e) (after first k.core.book.items)) (sym device_was) can)

  pub rest_of : (e : D) (r : KernelRest) → IsRestBeside rest e r → IsRestOf k r
  rest_of e r beside = record {
    parts = record {
      live = beside.parts.live ∙ sym (ap (λ (c : Core D). c.live) is.core);
      locks = beside.parts.locks ∙ sym (ap (λ (c : Core D). c.locks) is.core);
      book = beside.parts.book ∙ sym (ap (λ (c : Core D). c.book) is.core);
      last = beside.parts.last ∙ sym (ap (λ (c : Core D). c.last) is.core);
      reserved = beside.parts.reserved ∙ sym (ap (λ (c : Core D). c.reserved) is.core);
    };
    relations = beside.relations ∙ is.relations;
    counters = beside.counters ∙ is.counters;
  }

  module _ (e : D) (reads : OnlyReadsOrSyncs g d e) where
    pub can_attach : IsWell g k.relations k.counters k.core → ∥ ((first : Base) × Restarts first k) ∥₁ → CanAttach g rest e
    can_attach well starts = ∥∥₁_map starts (λ (first, r). (
      d,
      reads,
      subst (λ (X : Type 0). X) (λ i. IsWell g (sym is.relations i) (sym is.counters i) (is.core i)) well,
      first,
      subst (λ (X : Type 0). X) (λ i. RestartsFrom g (sym is.relations i) (sym is.counters i) first (is.core i)) r,
    ))

    module _ (n : Kernel D g) (a : Attaches rest e n) where
      pub device_now : n.core.operations.store.device ≡ e
      device_now = ap (λ (c : Core D). c.operations.store.device) a.core

      pub fails_as : is_failed n ≡ is_failed k
      fails_as = λ i. (a.failed ∙ is.failed) i || has_failed ((ap (λ (c : Core D). c.operations.store.log) a.core ∙ sym (ap (λ (c : Core D). c.operations.store.log) is.core)) i)

      -- what both have apart from their devices is the same
      parts_attached : SameParts (seen_of k) (seen_of n)
      parts_attached = record {
        pool = ap (λ (c : Core D). c.operations.store.pool) a.core ∙ sym (ap (λ (c : Core D). c.operations.store.pool) is.core);
        ruling = ap (λ (c : Core D). c.operations.store.ruling) a.core ∙ sym (ap (λ (c : Core D). c.operations.store.ruling) is.core);
        appended = ap (λ (c : Core D). appended c.operations.store.log) a.core ∙ sym (ap (λ (c : Core D). appended c.operations.store.log) is.core);
        numbers = ap (λ (c : Core D). c.last) a.core ∙ sym (ap (λ (c : Core D). c.last) is.core);
      }

      pub keeps_attached : ((first : Base) → Restarts first k → FindsMeanwhile g k.relations k.counters first k.core n.core.operations.store.device) → Keeps k n
      keeps_attached found = record {
        parts = parts_attached;
        state = λ first s shows. a.state d reads first s (subst (λ (X : Type 0). X) (λ i. ShowsIn g (sym is.relations i) (sym is.counters i) first s (is.core i)) shows);
        restarts = λ first starts. a.restarts d reads first (subst (λ (X : Type 0). X) (λ i. RestartsFrom g (sym is.relations i) (sym is.counters i) first (is.core i)) starts);
        schema = (a.relations ∙ is.relations, a.counters ∙ is.counters);
        found = λ first starts count. found first starts;
      }

-- ---- the kernel before the force

-- what comes of a forced kernel comes of the kernel before the force
module _ {D : Type 0} {g : Ghosts D} (only_now : (d : D) (c : List ℕ) → g.left_since d (g.moment d) c → g.may_leave d c) (k m : Kernel D g) (nobody : HasNobody k) (early : early_cause k ≡ None) (keeps : Keeps k m) (out : IsForcedOut k m) (same : g.faults m.core.operations.store.device ≡ g.faults k.core.operations.store.device) where
  pub rotates_behind : (standing : Standing D g) (r : Result (Unit {0}) Refusal) → Rotates m standing r → Rotates k standing r
  rotates_behind (Stands n) (Ok u) x = record {
    may = early;
    over = record {
      state = λ first s starts shows. x.over.state first s (keeps.restarts first starts) (keeps.state first s shows);
      restarts = λ first starts. x.over.restarts first (keeps.restarts first starts);
      schema = (x.over.schema.0 ∙ keeps.schema.0, x.over.schema.1 ∙ keeps.schema.1);
    };
    begun = x.begun;
    well = x.well;
    once = x.once ∙ ap next_slot out.ruling;
    quiet = x.quiet ∙ same;
  }
  rotates_behind (Stands n) (Err why) x = record {
    keeps = keeps_both only_now k m n nobody out keeps x.keeps;
    cause = ⊎_elim (λ (is, same_kernel). absurd (not_early m why out.well out.nobody is)) (λ (none, cause). inr (early, cause)) x.cause;
    quiet = λ not. x.quiet not ∙ same;
  }
  rotates_behind (Ended device) (Ok u) x = x
  rotates_behind (Ended device) (Err why) x = (
    x.0,
    record {
      may = early;
      forced = let (n, last, still) = x.1.forced in (
        n,
        record {
          well = last.well;
          nobody = last.nobody;
          forced = last.forced;
          grows = let (more, grown) = out.grows in let (then, longer) = last.grows in (
            more ++ then,
            longer ∙ ap (λ (rs : List Record). rs ++ then) grown ∙ append_assoc (durable k.core.operations.store.log) more then,
          );
          ruling = last.ruling ∙ out.ruling;
        },
        still ∙ same,
      );
      failed = let more = x.1.failed in omega (arith, more, same);
    },
  )
