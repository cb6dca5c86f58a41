-- Why a device is refused, by its log or by its pages.
use Rattle.std.proofs.Common.{ℕ, List, Bool, true, false, inr, Result, Ok, Err, IfErr}
use Rattle.mt_base.specs.declared.refusal.Refusal.{Refusal}
use Rattle.mt_base.specs.declared.refusal.Refusal.TheVariants.{NoMemory, DeviceFailed, NotFormatted, BadFormat}
use Rattle.mt_replay.specs.Refused.{BreaksFormat, BreaksLog, IsCause}
use Rattle.mt_folder.proofs.FolderLemmas.{held_known}
use Rattle.mt_folder.specs.Folders.{Files, IsHeld, known_in}
use Rattle.mt_device_commands.specs.Checks.{IsRefusedFor, IsUnreported}

-- the same refusal, where what breaks the one rule breaks the other
pub cause_by : (P Q : List ℕ → ℕ → Type 0) (c : List ℕ) (failed : Type 0) (why : Refusal) → ((at : ℕ) → P c at → Q c at) → IsCause P c failed why → IsCause Q c (Unit {0}) why
cause_by P Q c failed NoMemory f m = tt
cause_by P Q c failed DeviceFailed f m = tt
cause_by P Q c failed NotFormatted f m = m
cause_by P Q c failed (BadFormat at) f m = f at m
cause_by P Q c failed _ f m = absurd m

-- why the log alone refuses, and why the log or the pages do
pub refused_by_log : {T : Type 0} (c : List ℕ) (failed : Type 0) (r : Result T Refusal) → IfErr r (IsCause BreaksLog c failed) → IfErr r (IsRefusedFor false c)
refused_by_log c failed (Ok x) cause = tt
refused_by_log c failed (Err why) cause = cause_by BreaksLog BreaksLog c failed why (λ at b. b) cause

pub refused_by_pages : {T : Type 0} (c : List ℕ) (failed : Type 0) (r : Result T Refusal) → IfErr r (IsCause BreaksFormat c failed) → IfErr r (IsRefusedFor true c)
refused_by_pages c failed (Ok x) cause = tt
refused_by_pages c failed (Err why) cause = cause_by BreaksFormat BreaksFormat c failed why (λ at b. b) cause

-- why nothing is reported of a file whose bytes are refused
pub unreported_of : {T : Type 0} (pages : Bool) (files : Files) (name c : List ℕ) (r : Result T Refusal) → IsHeld files name c → IfErr r (IsRefusedFor pages c) → IfErr r (IsUnreported pages (known_in files name))
unreported_of pages files name c (Ok report) held cause = tt
unreported_of pages files name c (Err why) held cause = inr (c, held_known files name c held, cause)
