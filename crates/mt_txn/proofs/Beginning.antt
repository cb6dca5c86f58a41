-- Why a begin is refused that passed the tests before the log's, and what it leaves then.
use mathlib.Core.HLevel.{is_prop→PathP}
use Rattle.std.proofs.Common.{◌≡◌, ◌∙◌, ◌<◌, ◌≤◌, ◌+◌, ℕ, Bool, true, false, Option, Some, None, Result, Err, length, ap, refl, sym}
use Rattle.std.proofs.Props.{props}
use Rattle.std.proofs.lemmas.Bool.{lt-leb, ltb-false}
use Rattle.std.specs.Prelude.{nat_le, nat_lt, if◌then◌else◌}
use Rattle.mt_base.specs.declared.limits.TheConstants.{MAX_BEGUN, MAX_COMMITS, MAX_LIVE, TRANSACTION_LOG_BYTES}
use Rattle.mt_base.specs.declared.refusal.Refusal.{Refusal}
use Rattle.mt_base.specs.declared.refusal.Refusal.TheVariants.{LogFull}
use Rattle.mt_core.specs.Consistent.{log_kept}
use Rattle.mt_core.specs.Seen.{core_log}
use Rattle.mt_core.specs.declared.parts.Core.{Core}
use Rattle.mt_disk.specs.declared.device.Device.{Ghosts}
use Rattle.mt_log.specs.Words.{area_size}
use Rattle.mt_model.specs.Model.{Base}
use Rattle.mt_base.specs.Limits.{IsRelationCount}
use Rattle.mt_txn.specs.Causes.{begin_cause}
use Rattle.mt_txn.specs.Well.{IsWell, RestartsFrom}
use Rattle.mt_txn.specs.declared.kernel.Kernel.{Kernel}

-- the log decides then
pub begun_at_once : {D : Type 0} (failed : Bool) (k : Core D) (r : Result ℕ Refusal) → failed ≡ false → length k.live.members < MAX_LIVE
    → length k.book.items + length k.live.members < MAX_COMMITS → k.live.begun < MAX_BEGUN → (area_size (core_log k) ≤ log_kept k + TRANSACTION_LOG_BYTES → r ≡ Err LogFull)
    → (why : Refusal) → begin_cause failed k ≡ Some why → r ≡ Err why
begun_at_once failed k r well few room fresh full why is = by (nat_lt (log_kept k + TRANSACTION_LOG_BYTES) (area_size (core_log k))) refl
  where
    tested : begin_cause failed k ≡ (if nat_lt (log_kept k + TRANSACTION_LOG_BYTES) (area_size (core_log k)) then None else Some LogFull)
    tested =
        let live : nat_le MAX_LIVE (length k.live.members) ≡ false = lt-leb MAX_LIVE (length k.live.members) few in
        let booked : nat_le MAX_COMMITS (length k.book.items + length k.live.members) ≡ false = lt-leb MAX_COMMITS (length k.book.items + length k.live.members) room in
        let begun : nat_le MAX_BEGUN k.live.begun ≡ false = lt-leb MAX_BEGUN k.live.begun fresh in
        rw (well, live, booked, begun) refl

    by : (takes : Bool) → nat_lt (log_kept k + TRANSACTION_LOG_BYTES) (area_size (core_log k)) ≡ takes → r ≡ Err why
    by true e = absurd (let wrong : ◌≡◌ {A = Option Refusal} None (Some why) = sym (tested ∙ ap (λ (b : Bool). if b then None else Some LogFull) e) ∙ is in cc)
    by false e =
        let both : Some LogFull ≡ Some why = sym (tested ∙ ap (λ (b : Bool). if b then None else Some LogFull) e) ∙ is in
        let same : LogFull ≡ why = cc in
        full (ltb-false (log_kept k + TRANSACTION_LOG_BYTES) (area_size (core_log k)) e) ∙ ap (λ (w : Refusal). Err w) same

module _ {D : Type 0} {g : Ghosts D} where
  -- a kernel is its parts: what is proved of them adds nothing
  pub same_parts : (k n : Kernel D g) → n.core ≡ k.core → n.alloc ≡ k.alloc → n.relations ≡ k.relations → n.counters ≡ k.counters → n.failed ≡ k.failed → n ≡ k
  same_parts k n core alloc relations counters failed = λ i. record {
    core = core i;
    alloc = alloc i;
    relations = relations i;
    counters = counters i;
    failed = failed i;
    well = is_prop→PathP (λ j. IsWell g (relations j) (counters j) (core j)) (λ j. hlevel props) n.well k.well i;
    starts = is_prop→PathP (λ j. ∥ ((first : Base) × RestartsFrom g (relations j) (counters j) first (core j)) ∥₁) (λ j. hlevel props) n.starts k.starts i;
    schema = is_prop→PathP (λ j. IsRelationCount (relations j)) (λ j. hlevel props) n.schema k.schema i;
  }
