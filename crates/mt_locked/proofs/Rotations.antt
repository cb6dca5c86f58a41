-- A log that is turned over under the lock.
use Rattle.std.proofs.Common.{◌≡◌, ◌≤◌, ◌∙◌, ℕ, zero, suc, Bool, true, false, List, length, Option, Some, None, Result, Ok, Err, ap, inr, refl, sym, subst, arith, ⊎_elim}
use Rattle.std.specs.Prelude.{IfErr, IsErr, IsOk, if◌then◌else◌, nat_eq}
use mathlib.Core.List.{IsPrefix}
use Rattle.mt_base.specs.declared.refusal.Refusal.{Refusal}
use Rattle.mt_base.specs.declared.refusal.Refusal.TheVariants as refusal
use Rattle.mt_disk.specs.declared.device.Device.{Ghosts}
use Rattle.mt_model.specs.Model as model
use Rattle.mt_model.specs.Views.{base_of}
use Rattle.mt_model.specs.declared.history.Committed.{Committed}
use Rattle.mt_model.specs.declared.tables.Base.{Base}
use Rattle.mt_restart.proofs.EarlyCauses.{early_failed, not_early}
use Rattle.mt_restart.proofs.Standings.{rotated_of, stands_over}
use Rattle.mt_restart.specs.Rotated.{IsKeptCause, IsLeft, Rotates, early_cause}
use Rattle.mt_restart.specs.Standings.{HasFrames, device_at}
use Rattle.mt_restart.specs.TurnFaults.{IsTurnFault}
use Rattle.mt_restart.specs.declared.standing.Standing.{Standing}
use Rattle.mt_restart.specs.declared.standing.Standing.TheVariants.{Stands, Ended}
use Rattle.mt_txn.specs.Causes.{survey_cause}
use Rattle.mt_txn.specs.Restarted.{FindsMeanwhile}
use Rattle.mt_txn.specs.Seen.{KernelSeen, seen_of}
use Rattle.mt_txn.specs.Shown.{Restarts, is_failed}
use Rattle.mt_txn.specs.Turned.{HasNobody}
use Rattle.mt_txn.specs.declared.kernel.Kernel.{Kernel}
use Rattle.mt_locked.specs.Standings.{LeavesBook, kernel_in, left_in}
use Rattle.mt_locked.specs.Turns.{IsLeftAfter, IsLostByFault, IsOneTurn, IsRotation, IsTooEarly}
use Rattle.mt_locked.specs.Seen.{is_failed_in}
use Rattle.std.proofs.Math.Dec.{eqb-suc-zero}
use Rattle.mt_locked.proofs.Books.{whole_front}
use Rattle.mt_locked.proofs.Keeping.{turned_began, turned_book}
use Rattle.mt_locked.proofs.Standings.{found_with}

-- a kernel that stands is there
stands_here : {D P : Type 0} (k : KernelSeen D) → ◌≡◌ {A = Option (KernelSeen D)} (Some k) None → P
stands_here k wrong = absurd cc

-- what is too early is no refusal, and did not turn over
not_refused : (o : Result Bool Refusal) → o ≡ Ok false → IsErr o → ⊥
not_refused (Ok b) is refused = absurd cc
not_refused (Err why) is refused = absurd cc

not_both : (o : Result Bool Refusal) → o ≡ Ok true → o ≡ Ok false → ⊥
not_both o did early = let wrong : ◌≡◌ {A = Result Bool Refusal} (Ok true) (Ok false) = sym did ∙ early in absurd cc

module _ {D : Type 0} (g : Ghosts D) where
  -- what has not been turned over, and is refused or too early
  same_lost : (s : Standing D g) → IsLostByFault g (kernel_in s) (left_in s) (left_in s)
  same_lost (Stands k) = tt
  same_lost (Ended device) = refl

  pub not_turned : (commits frames : ℕ) (s : Standing D g) (outcome : Result Bool Refusal) → IfErr outcome IsTurnFault → (outcome ≡ Ok true → ⊥) → (outcome ≡ Ok false → IsTooEarly commits s) → (kernel_in s ≡ None → IsErr outcome)
      → (is_failed_in (kernel_in s) ≡ false → IsTooEarly commits s → outcome ≡ Ok false)
      → IfErr outcome (λ w. IsLeftAfter g w (kernel_in s) (kernel_in s)) → (is_failed_in (kernel_in s) ≡ true → outcome ≡ Err refusal.DeviceFailed) → IsRotation g commits frames s s outcome
  not_turned commits frames s outcome why not early gone waits refused failed = record {
    keeps = λ base history long keeps. (keeps, refl);
    why = why;
    did = λ did. absurd (not did);
    early = λ is. (refl, early is);
    waits = λ well soon. (waits well soon, refl);
    gone = gone;
    lost = same_lost s;
    refused = refused;
    failed = λ is. (failed is, refl);
  }

  -- the device that is left leaves the whole book
  pub left_whole : (k : Kernel D g) (device : D) → ((t : ℕ) (c : List ℕ) → t ≤ g.moment device → g.may_leave device c → g.left_since device t c)
      → ((first : model.Base) → Restarts first k → FindsMeanwhile g k.relations k.counters first k.core device)
      → (base : Base) → Restarts (base_of base) k → LeavesBook g base k.core.book.items device
  left_whole k device counts found base restarts c leaves =
      let f = found (base_of base) restarts in
      found_with base k c (f.each c (counts (g.moment k.core.operations.store.device) c f.later leaves))

  -- a kernel that was refused for no fault is left as it was, since somebody lives in it
  left_early : (commits : ℕ) (k n : Kernel D g) (why : Refusal) → (IsTurnFault why → ⊥) → IsLeft k why n → (Stands n ≡ Stands k) × IsTooEarly commits (Stands k)
  left_early commits k n why faultless left = ⊎_elim
      (λ at_once. (ap (λ (x : Kernel D g). Stands x) at_once.1, inr (λ nobody. busy (is_failed k) refl nobody at_once.0)))
      (λ kept. absurd (not_kept why faultless kept.1))
      left.cause
    where
      busy : (failed : Bool) → is_failed k ≡ failed → HasNobody k → early_cause k ≡ Some why → ⊥
      busy true is nobody early = faultless (subst IsTurnFault (let same : Some refusal.DeviceFailed ≡ Some why = sym (early_failed k is) ∙ early in let one : refusal.DeviceFailed ≡ why = cc in one) tt)
      busy false is nobody early = not_early k why is nobody early

      not_kept : (w : Refusal) → (IsTurnFault w → ⊥) → IsKeptCause n w → ⊥
      not_kept refusal.NoMemory none kept = none tt
      not_kept refusal.DeviceFailed none kept = none tt
      not_kept refusal.LogFull none kept = none tt
      not_kept _ none kept = kept

  -- a kernel that had not failed, and was refused for a fault, is left so
  left_after : (k n : Kernel D g) (why : Refusal) → is_failed k ≡ false → IsTurnFault why → IsLeft k why n → IsLeftAfter g why (Some (seen_of k)) (Some (seen_of n))
  left_after k n why well fault left = ⊎_elim (λ at_once. absurd (late at_once.0)) (λ kept. by why kept.1 left.quiet) left.cause
    where
      fault_late : (count : ℕ) → (if nat_eq count 0 then None else Some refusal.Busy) ≡ Some why → ⊥
      fault_late zero is = absurd cc
      fault_late (suc count) is =
          let busy : Some refusal.Busy ≡ Some why = sym (ap (λ (b : Bool). if b then None else Some refusal.Busy) (eqb-suc-zero count)) ∙ is in
          let same : why ≡ refusal.Busy = cc in
          subst IsTurnFault same fault

      late : early_cause k ≡ Some why → ⊥
      late early = fault_late (length k.core.live.members) (sym (ap (λ (b : Bool). survey_cause b k.core) well) ∙ early)

      by : (w : Refusal) → IsKeptCause n w → ((w ≡ refusal.DeviceFailed → ⊥) → g.faults n.core.operations.store.device ≡ g.faults k.core.operations.store.device) → IsLeftAfter g w (Some (seen_of k)) (Some (seen_of n))
      by refusal.NoMemory kept quiet = (kept, (left.keeps.parts, left.keeps.schema.0, left.keeps.schema.1, quiet (λ e. absurd cc), left.keeps.state))
      by refusal.DeviceFailed kept quiet = kept
      by refusal.LogFull kept quiet = (kept.0, (left.keeps.parts, left.keeps.schema.0, left.keeps.schema.1, quiet (λ e. absurd cc), left.keeps.state))
      by _ kept quiet = absurd kept

  left_so : (k n : Kernel D g) (r : Result (Unit {0}) Refusal) (outcome : Result Bool Refusal) → is_failed k ≡ false → IfErr outcome IsTurnFault → IfErr outcome (λ why. r ≡ Err why)
      → Rotates k (Stands n) r → IfErr outcome (λ why. IsLeftAfter g why (Some (seen_of k)) (Some (seen_of n)))
  left_so k n r (Ok b) well fault same rotates = tt
  left_so k n r (Err why) well fault same rotates = left_after k n why well fault (subst (Rotates k (Stands n)) same rotates)

  left_alone : (was : Option (KernelSeen D)) (left : Refusal) (outcome : Result Bool Refusal) → left ≡ refusal.DeviceFailed → IfErr outcome (λ why. ◌≡◌ {A = Result (Unit {0}) Refusal} (Err left) (Err why))
      → IfErr outcome (λ why. IsLeftAfter g why was None)
  left_alone was left (Ok b) is same = tt
  left_alone was left (Err why) is same =
      let one : left ≡ why = cc in
      subst (λ w. IsLeftAfter g w was None) (sym is ∙ one) refl

  -- it had not failed
  not_failed : (k : Kernel D g) (P : Type 0) → is_failed k ≡ false → is_failed_in (Some (seen_of k)) ≡ true → P
  not_failed k P well bad = let wrong : true ≡ false = sym bad ∙ well in absurd cc

  early_of : (commits : ℕ) (k n : Kernel D g) (r : Result (Unit {0}) Refusal) (outcome : Result Bool Refusal) → (IsOk r → outcome ≡ Ok true) → IfErr r (λ why. IsTurnFault why → IsErr outcome) → Rotates k (Stands n) r
      → outcome ≡ Ok false → (Stands n ≡ Stands k) × IsTooEarly commits (Stands k)
  early_of commits k n (Ok u) outcome so fault rotates is = absurd (not_both outcome (so refl) is)
  early_of commits k n (Err why) outcome so fault rotates is =
      left_early commits k n why (λ faulty. not_refused outcome is (fault faulty)) rotates

  -- in a kernel that has not failed, and in which somebody lives, nothing is turned over
  busy_at : (count : ℕ) → (count ≡ 0 → ⊥) → (if nat_eq count 0 then None else Some refusal.Busy) ≡ Some refusal.Busy
  busy_at zero some = absurd (some refl)
  busy_at (suc count) some = ap (λ (b : Bool). if b then None else Some refusal.Busy) (eqb-suc-zero count)

  busy_early : (k : Kernel D g) → is_failed k ≡ false → (HasNobody k → ⊥) → early_cause k ≡ Some refusal.Busy
  busy_early k well some = ap (λ (b : Bool). survey_cause b k.core) well ∙ busy_at (length k.core.live.members) some

  some_live : (commits : ℕ) (k : Kernel D g) → length k.core.book.items ≡ commits → IsTooEarly commits (Stands k) → HasNobody k → ⊥
  some_live commits k just soon nobody = ⊎_elim (λ other. other just) (λ some. some nobody) soon

  not_free : {P : Type 0} → (k : Kernel D g) → early_cause k ≡ None → early_cause k ≡ Some refusal.Busy → P
  not_free k may busy = let wrong : ◌≡◌ {A = Option Refusal} None (Some refusal.Busy) = sym may ∙ busy in absurd cc

  not_made : (r : Result (Unit {0}) Refusal) (why : Refusal) → r ≡ Err why → IsOk r → ⊥
  not_made (Ok u) why is made = absurd cc
  not_made (Err w) why is made = absurd (let no = made in cc)

  as_soon : (why : Refusal) (r : Result (Unit {0}) Refusal) (outcome : Result Bool Refusal) → r ≡ Err why → why ≡ refusal.Busy → IfErr outcome IsTurnFault → (outcome ≡ Ok true → IsOk r) → IfErr outcome (λ w. r ≡ Err w) → outcome ≡ Ok false
  as_soon why r (Ok true) is busy fault did same = absurd (not_made r why is (did refl))
  as_soon why r (Ok false) is busy fault did same = refl
  as_soon why r (Err w) is busy fault did same =
      let both : ◌≡◌ {A = Result (Unit {0}) Refusal} (Err w) (Err why) = sym same ∙ is in
      let one : w ≡ why = cc in
      absurd (subst IsTurnFault (one ∙ busy) fault)

  waits_so : (commits : ℕ) (k : Kernel D g) (new : Standing D g) (r : Result (Unit {0}) Refusal) (outcome : Result Bool Refusal) → is_failed k ≡ false → length k.core.book.items ≡ commits
      → IfErr outcome IsTurnFault → (outcome ≡ Ok true → IsOk r) → IfErr outcome (λ why. r ≡ Err why) → Rotates k new r → IsTooEarly commits (Stands k) → (outcome ≡ Ok false) × (new ≡ Stands k)
  waits_so commits k (Stands n) (Ok u) outcome well just fault did same rotates soon = not_free k rotates.may (busy_early k well (some_live commits k just soon))
  waits_so commits k (Stands n) (Err why) outcome well just fault did same rotates soon =
      let busy = busy_early k well (some_live commits k just soon) in
      ⊎_elim
      (λ at_once.
      let is : Some why ≡ Some refusal.Busy = sym at_once.0 ∙ busy in
      let one : why ≡ refusal.Busy = cc in
      (as_soon why (Err why) outcome refl one fault did same, ap (λ (x : Kernel D g). Stands x) at_once.1))
      (λ kept. not_free k kept.0 busy)
      rotates.cause
  waits_so commits k (Ended device) (Ok u) outcome well just fault did same rotates soon = absurd rotates
  waits_so commits k (Ended device) (Err why) outcome well just fault did same rotates soon = not_free k rotates.1.may (busy_early k well (some_live commits k just soon))

  pub turned_so : (commits frames : ℕ) (k : Kernel D g) (new : Standing D g) (r : Result (Unit {0}) Refusal) (outcome : Result Bool Refusal)
      → ((device : D) (t : ℕ) (c : List ℕ) → t ≤ g.moment device → g.may_leave device c → g.left_since device t c)
      → ((first : model.Base) → Restarts first k → FindsMeanwhile g k.relations k.counters first k.core (device_at new))
      → IfErr outcome IsTurnFault → (outcome ≡ Ok true → IsOk r) → (IsOk r → outcome ≡ Ok true) → IfErr r (λ why. IsTurnFault why → IsErr outcome) → IfErr outcome (λ why. r ≡ Err why) → is_failed k ≡ false → length k.core.book.items ≡ commits
      → (IsOk r → HasFrames frames new) → Rotates k new r → IsRotation g commits frames (Stands k) new outcome
  turned_so commits frames k (Stands n) r outcome counts found why did so fault same well just many rotates =
      let over = stands_over k n r rotates in record {
        keeps = λ base history long keeps. let same = turned_book base k n over.state keeps.0 in
            ((turned_began base k n over.state over.restarts keeps.0, subst (IsPrefix history) (sym same) keeps.1), same);
        why = why;
        did = λ is base history keeps.
            let x = rotated_of k n r (did is) rotates in
            let turn : IsOneTurn g frames base = record {
              was = k;
              began = keeps.0;
              may = x.may;
              now = n;
              begins = turned_began base k n x.over.state x.over.restarts keeps.0;
              shows = λ s shows. x.over.state (base_of base) s keeps.0.1 shows;
              book = turned_book base k n x.over.state keeps.0;
              images = x.begun;
              many = many (did is);
              once = x.once;
              well = x.well;
              quiet = x.quiet;
            } in ∣ (turn, refl, refl) ∣₁;
        early = early_of commits k n r outcome so fault rotates;
        waits = λ unfailed soon. waits_so commits k (Stands n) r outcome well just why did same rotates soon;
        gone = stands_here (seen_of n);
        lost = tt;
        refused = left_so k n r outcome well why same rotates;
        failed = not_failed k _ well;
      }
  turned_so commits frames k (Ended device) (Ok u) outcome counts found why did so fault same well just many rotates = absurd rotates
  turned_so commits frames k (Ended device) (Err refusal) outcome counts found why did so fault same well just many rotates = record {
    keeps = λ base history long keeps.
        let whole : history ≡ k.core.book.items = whole_front history k.core.book.items keeps.1 (omega (arith, long, just)) in
        (subst (λ (h : List Committed). LeavesBook g base h device) (sym whole) (left_whole k device (counts device) found base keeps.0.1), whole);
    why = why;
    did = λ is. absurd (let no = did is in cc);
    early = λ is. absurd (not_refused outcome is (fault (subst IsTurnFault (sym rotates.0) tt)));
    waits = λ unfailed soon. waits_so commits k (Ended device) (Err refusal) outcome well just why did same rotates soon;
    gone = λ left. fault (subst IsTurnFault (sym rotates.0) tt);
    lost = rotates.1.failed;
    refused = left_alone (Some (seen_of k)) refusal outcome rotates.0 same;
    failed = not_failed k _ well;
  }
