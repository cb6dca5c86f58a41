-- What a device reports of its log.
use Rattle.std.proofs.Common.{◌≡◌, ◌⊎◌, inl, inr, ℕ, List, Result, Ok, Err, IfOk, sym, subst}
use Rattle.mt_base.specs.declared.refusal.Refusal.{Refusal}
use Rattle.mt_base.specs.declared.refusal.Refusal.TheVariants as refusal
use Rattle.mt_frame.specs.declared.slots.MasterSlot.{MasterSlot}
use Rattle.mt_log.specs.Masters.{BreaksMaster, IsUnformatted}
use Rattle.mt_log.specs.declared.batch.Batch.{Batch}
use Rattle.mt_replay.specs.Refused.{BreaksLog, IsCause, in_master}
use Rattle.mt_folder.proofs.FolderLemmas.{held_known}
use Rattle.mt_device_commands.specs.Explains.{AreBatchesIn, IsLogIn, IsLogOf}
use Rattle.mt_folder.specs.Folders.{Files, IsHeld, known_in}

pub same_area : (c d : List ℕ) (slot : MasterSlot) (bs : List Batch) → d ≡ c → AreBatchesIn d slot bs → AreBatchesIn c slot bs
same_area c d slot bs same found = subst (λ (x : List ℕ). AreBatchesIn x slot bs) same found

-- why no slot rules
pub log_cause : (c : List ℕ) (F : Type 0) (why : Refusal) → ((why ≡ refusal.DeviceFailed) × F) ⊎ (((why ≡ refusal.NotFormatted) × IsUnformatted c) ⊎ ((at : ℕ) × (why ≡ refusal.BadFormat at) × BreaksMaster c at)) → IsCause BreaksLog c (Unit {0}) why
log_cause c F why (inl failed) = subst (IsCause BreaksLog c (Unit {0})) (sym failed.0) tt
log_cause c F why (inr (inl none)) = subst (IsCause BreaksLog c (Unit {0})) (sym none.0) none.1
log_cause c F why (inr (inr bad)) = subst (IsCause BreaksLog c (Unit {0})) (sym bad.1) (in_master bad.2)

pub log_in : {T E : Type 0} (items : T → List Batch) (files : Files) (name c : List ℕ) (r : Result T E) → IsHeld files name c → IfOk r (λ bs. IsLogOf c (items bs)) → IfOk r (λ bs. IsLogIn (known_in files name) (items bs))
log_in items files name c (Ok bs) held log = (c, held_known files name c held, log)
log_in items files name c (Err why) held log = tt
