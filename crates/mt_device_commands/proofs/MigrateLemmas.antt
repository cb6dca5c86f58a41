-- What a device represents after a migration, and its file.
use Rattle.std.proofs.Common.{◌≡◌, ◌∙◌, ◌≤◌, inl, inr, ℕ, List, Result, Ok, Err, IfErr, OnOk, sym, subst}
use Rattle.mt_base.specs.declared.format.Format.TheVariants.{One}
use Rattle.mt_base.specs.declared.refusal.Refusal.{Refusal}
use Rattle.mt_disk.specs.Disk.{LeavesOnly, Only}
use Rattle.mt_disk.specs.declared.device.Device.{Ghosts}
use Rattle.mt_folder.proofs.FolderLemmas.{lent_and_back}
use Rattle.mt_folder.specs.Folders.{Files, IsHeld, IsLent, Puts}
use Rattle.mt_model.specs.Model.{Base}
use Rattle.mt_replay.specs.Stands.{CanReplay}
use Rattle.mt_restart.specs.Migrated.{Additions, IsCarried}
use Rattle.mt_device_commands.specs.Dumps.{IsEarly}
use Rattle.mt_device_commands.specs.Migrations.{AreLeftUnmigrated, IsRewritten, StandsGrown, StandsOrGrown}

-- whenever a crash came, what it left is the one or the other; so is what is there
pub stands_or_grown : {D : Type 0} (g : Ghosts D) (more : Additions) (old new : D) → Only (g.seen old) (g.may_leave old)
    → ((relations counters : ℕ) (b : Base) → CanReplay One relations counters (g.seen old) b → LeavesOnly g.moment g.left_since old new (IsCarried g more relations counters b old))
    → ((t : ℕ) → t ≤ g.moment new → g.left_since new t (g.seen new)) → StandsOrGrown more (g.seen old) (g.seen new)
stands_or_grown g more old new only leaves now = λ relations counters b can.
    let moments = leaves relations counters b can in
    elim (moments.each (g.seen new) (now (g.moment old) moments.later)) [
      | inl left ↦ inl (subst (λ (c : List ℕ). CanReplay One relations counters c b) (sym (only (g.seen new) left)) can)
      | inr either ↦ either
    ]

rewritten : (Stands : List ℕ → List ℕ → Type 0) (old mid new : Files) (name c d : List ℕ) → IsHeld old name c → IsLent old mid name → Puts mid new name d → Stands c d → IsRewritten Stands old new name
rewritten Stands old mid new name c d held lent put stands = record {
  before = c;
  after = d;
  held = held;
  put = record { outcome = put.outcome ∙ lent.outcome; held = put.held; others = λ other apart. put.others other apart ∙ lent.others other apart };
  stands = stands;
}

pub migrated_of : (more : Additions) (old mid new : Files) (name c d : List ℕ) {T : Type 0} (r : Result T Refusal) → IsHeld old name c → IsLent old mid name → Puts mid new name d → OnOk r (StandsGrown more c d) → OnOk r (IsRewritten (StandsGrown more) old new name)
migrated_of more old mid new name c d (Ok x) held lent put stands = rewritten (StandsGrown more) old mid new name c d held lent put stands
migrated_of more old mid new name c d (Err why) held lent put stands = tt

pub unmigrated_of : (more : Additions) (old mid new : Files) (name c d : List ℕ) {T : Type 0} (r : Result T Refusal) → IsHeld old name c → IsLent old mid name → Puts mid new name d → StandsOrGrown more c d → IfErr r (λ why. IsEarly why → d ≡ c)
    → IfErr r (AreLeftUnmigrated more old new name)
unmigrated_of more old mid new name c d (Ok x) held lent put stands early = tt
unmigrated_of more old mid new name c d (Err why) held lent put stands early = record {
  stands = inr (rewritten (StandsOrGrown more) old mid new name c d held lent put stands);
  early = λ is. lent_and_back old mid new name c held lent (subst (Puts mid new name) (early is) put);
}
