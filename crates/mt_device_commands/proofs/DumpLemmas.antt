-- What a dump reports, and what a device represents after it.
use Rattle.std.proofs.Common.{◌≡◌, ◌∙◌, ◌≤◌, inl, inr, ℕ, List, Result, Ok, Err, IfErr, IfOk, OnOk, sym, subst}
use Rattle.mt_base.specs.declared.refusal.Refusal.{Refusal}
use Rattle.mt_disk.specs.Disk.{LeavesOnly, Only}
use Rattle.mt_disk.specs.declared.device.Device.{Ghosts}
use Rattle.mt_model.specs.Model.{Base}
use Rattle.mt_op.specs.declared.survey.Survey.{Survey}
use Rattle.mt_replay.specs.Refused.{BreaksFormat}
use Rattle.mt_replay.specs.Stands.{CanRestart}
use Rattle.mt_restart.specs.Inspected.{ReportsRestored}
use Rattle.mt_restart.specs.Recovered.{IsCauseToStop, StandsStill}
use Rattle.mt_device_commands.proofs.CheckLemmas.{cause_by}
use Rattle.mt_folder.proofs.FolderLemmas.{held_known, lent_and_back}
use Rattle.mt_device_commands.specs.Dumps.{AreFilesLeft, DumpsOf, IsUnsurveyed, IsEarly, IsUndumpable, StandAs, IsRestarted}
use Rattle.mt_folder.specs.Folders.{Files, IsHeld, IsLent, Puts, known_in}

pub ok_always : {T E : Type 0} {P : Type 0} (r : Result T E) → P → OnOk r P
ok_always (Ok x) p = p
ok_always (Err e) p = tt

-- ---- refusals

pub barred_by : (c : List ℕ) (failed : Type 0) (why : Refusal) → IsCauseToStop c failed why → IsUnsurveyed c why
barred_by c failed why (inl cause) = inl (cause_by BreaksFormat BreaksFormat c failed why (λ at b. b) cause)
barred_by c failed why (inr full) = inr full

-- ---- what the bytes represent

-- Whenever a crash came, what it left represented the same; so does what is there.
pub stands_same : {D : Type 0} (g : Ghosts D) (old new : D) → Only (g.seen old) (g.may_leave old)
    → ((relations counters : ℕ) (b : Base) → CanRestart relations counters (g.seen old) b → LeavesOnly g.moment g.left_since old new (StandsStill g relations counters b old))
    → ((t : ℕ) → t ≤ g.moment new → g.left_since new t (g.seen new)) → StandAs (g.seen old) (g.seen new)
stands_same g old new only leaves now = λ relations counters b can.
    let moments = leaves relations counters b can in
    go relations counters b can (moments.each (g.seen new) (now (g.moment old) moments.later))
  where
    go : (relations counters : ℕ) (b : Base) → CanRestart relations counters (g.seen old) b → StandsStill g relations counters b old (g.seen new) → CanRestart relations counters (g.seen new) b
    go relations counters b can (inl left) = subst (λ (c : List ℕ). CanRestart relations counters c b) (sym (only (g.seen new) left)) can
    go relations counters b can (inr still) = still

-- ---- the file

pub dumped_of : (files : Files) (name c : List ℕ) (r : Result Survey Refusal) → IsHeld files name c → IfOk r (ReportsRestored c) → IfOk r (DumpsOf (known_in files name))
dumped_of files name c (Ok survey) held dumps = (c, held_known files name c held, dumps)
dumped_of files name c (Err why) held dumps = tt

pub unopened_of : (files : Files) (name c : List ℕ) (r : Result Survey Refusal) → IsHeld files name c → IfErr r (IsUnsurveyed c) → IfErr r (IsUndumpable (known_in files name))
unopened_of files name c (Ok survey) held barred = tt
unopened_of files name c (Err why) held barred = inr (c, held_known files name c held, barred)

pub stands_on : (old mid new : Files) (name c d : List ℕ) → IsHeld old name c → IsLent old mid name → Puts mid new name d → StandAs c d → IsRestarted old new name
stands_on old mid new name c d held lent put same = record {
  before = c;
  after = d;
  held = held;
  put = record { outcome = put.outcome ∙ lent.outcome; held = put.held; others = λ other apart. put.others other apart ∙ lent.others other apart };
  same = same;
}

pub left_of : (old mid new : Files) (name c d : List ℕ) (r : Result Survey Refusal) → IsHeld old name c → IsLent old mid name → Puts mid new name d → StandAs c d → IfErr r (λ why. IsEarly why → d ≡ c) → IfErr r (AreFilesLeft old new name)
left_of old mid new name c d (Ok survey) held lent put same early = tt
left_of old mid new name c d (Err why) held lent put same early = record {
  stands = inr (stands_on old mid new name c d held lent put same);
  early = λ is. lent_and_back old mid new name c held lent (subst (Puts mid new name) (early is) put);
}
