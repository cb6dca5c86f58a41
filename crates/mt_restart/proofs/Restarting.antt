-- A restart finds again what a turn of the log leaves.
use Rattle.std.proofs.Common.{◌≡◌, ◌⊎◌, inl, inr, ⊎_elim, ◌+◌, ◌*◌, ◌<◌, ◌≤◌, ℕ, List, [], ◌∷◌, length, refl, sym, ap, ◌∙◌, subst, arith, append-nil}
use Rattle.std.specs.List.{AllByRecursion}
use Rattle.std.proofs.lemmas.List.Elements.{All-from_recursion}
use Rattle.mt_base.specs.Limits.{IsRelationCount}
use Rattle.mt_frame.specs.Grammar.{IsRecord}
use Rattle.mt_frame.specs.Grammar.{txn_of}
use Rattle.mt_frame.specs.Laws.{OneSlot}
use Rattle.mt_frame.specs.declared.records.Record.{Record}
use Rattle.mt_frame.specs.declared.records.Record.TheVariants.{Page, OpEnd, OpDropped, Commit, AbortEnd}
use Rattle.mt_frame.specs.declared.slots.MasterSlot.{MasterSlot}
use Rattle.mt_space.specs.PageLists.{bytes_of}
use Rattle.mt_core.proofs.Imaged.{images_end_nothing, images_held}
use Rattle.mt_log.specs.Batch.{joined}
use Rattle.mt_log.specs.Masters.{IsRuling, area_size}
use Rattle.mt_model.specs.History.{IsActed, run}
use Rattle.mt_model.specs.Model.{Base, IsBase}
use Rattle.mt_op.specs.Begun.{AreImages}
use Rattle.mt_pool.specs.Turns.{IsImageOnly}
use Rattle.mt_replay.specs.Laws.{OnlyOwnPagesMatter}
use Rattle.mt_replay.specs.Recoverable.{IsOf, IsRecoverable, all_pages, inverse_images, pages_held}
use Rattle.mt_replay.specs.Stands.{CanReplay, CanRestart, HaveFirstValues, IsReadAs, ShowsBase}
use Rattle.mt_base.specs.declared.format.Format.{Format}
use Rattle.mt_base.specs.declared.format.Format.TheVariants.{One, Two}
use Rattle.mt_replay.specs.Recorded.{Finished, Recorded, nothing, calls_in, calls_of, run_all, stands_for, recorded_in}
use Rattle.mt_space.specs.Changes.{PageBytes}
use Rattle.mt_steps.specs.Held.{Holds}
use Rattle.mt_steps.specs.Plans.{IsGood, free_pages}
use Rattle.mt_restart.specs.Found.{ReadsOldOrNext}
use Rattle.mt_log.specs.NextSlot.{next_slot}
use Rattle.mt_restart.specs.Recovered.{IsFound}
use Rattle.mt_restart.specs.declared.recovery.Findings.{Findings}
use Rattle.mt_restart.proofs.Ruled.{one_rules}

-- ---- images are of no transaction

no_txn : (n : ℕ) (r : Record) → IsImageOnly n r → txn_of r ≡ 0
no_txn n (Page txn op page image start old new) only = only.0
no_txn n (OpEnd txn op undoes done) only = absurd only
no_txn n (OpDropped txn op) only = absurd only
no_txn n (Commit txn) only = absurd only
no_txn n (AbortEnd txn) only = absurd only

none_has_txn : (n : ℕ) (rs : List Record) → AllByRecursion (IsImageOnly n) rs → AllByRecursion (λ (r : Record). txn_of r ≡ 0) rs
none_has_txn n [] only = tt
none_has_txn n (r ∷ rs) only = (no_txn n r only.0, none_has_txn n rs only.1)

pub are_images : (n : ℕ) (rs : List Record) → AllByRecursion (IsImageOnly n) rs → AreImages rs
are_images n rs only = All-from_recursion (λ (r : Record). txn_of r ≡ 0) rs (none_has_txn n rs only)

-- ---- a restart over images

module _ (relations counters total bytes : ℕ) (pages : PageBytes) (b : Base) (images : List Record) (each : AllByRecursion IsRecord images) (alone : AreImages images) where
  outcome : recorded_in images ≡ nothing
  outcome = (images_end_nothing images each alone).outcome nothing

  no_calls : calls_in images ≡ []
  no_calls = (images_end_nothing images each alone).calls

  pub stands_still : b ≡ stands_for b images
  stands_still = subst (λ (t : Recorded). b ≡ run_all b t.books) (sym outcome) refl

  pub recoverable_images : IsGood relations counters total pages → IsBase b → 5 < bytes → IsRecoverable relations counters total bytes pages b images
  recoverable_images good bounds large =
      let held = images_held pages images alone in
      record {
        leads = record {
          good = subst (IsGood relations counters total) (sym held) good;
          base = λ x holds. subst (λ (f : PageBytes). Holds f (run x (calls_in images))) (sym held) (subst (λ cs. Holds pages (run x cs)) (sym no_calls) holds);
          acted = λ x holds. subst (IsActed x) (sym no_calls) tt;
        };
        serial = record {
          same = subst (λ (X : Type 0). X) (λ i. run b (sym no_calls i) ≡ run (run_all b (sym outcome i).books) (calls_of (sym outcome i).live)) refl;
          acted = subst (λ (t : Recorded). IsActed (run_all b t.books) (calls_of t.live)) (sym outcome) tt;
          bounds = subst (λ (t : Recorded). IsBase (run_all b t.books)) (sym outcome) bounds;
        };
        within = subst (λ (t : Recorded). AllByRecursion (λ (f : Finished). IsOf relations counters f.done) t.live) (sym outcome) tt;
        free = subst (λ (t : Recorded). all_pages t.live ≤ free_pages total (pages_held pages images)) (sym outcome) (omega arith);
        images = subst (λ (t : Recorded). inverse_images * length t.live + 5 < bytes) (sym outcome) (omega (arith, large));
      }

-- ---- what a crash leaves, read as the old area or as the next one

pub read_first : OneSlot → (format : Format) (relations counters : ℕ) (c0 : List ℕ) (b : Base) (ruling : MasterSlot) → IsRuling c0 ruling → (found : CanReplay format relations counters c0 b) → IsReadAs c0 ruling found.stands.opening found.stands.batches
read_first one format relations counters c0 b ruling rules found =
    let s = found.stands in
    subst (λ (m : MasterSlot). IsReadAs c0 m s.opening s.batches) (one_rules one c0 s.slot ruling s.read.rules rules) s.read

pub restarts_old : OneSlot → (format : Format) (relations counters : ℕ) (c0 c : List ℕ) (b : Base) (ruling : MasterSlot) → IsRuling c0 ruling → (found : CanReplay format relations counters c0 b) → IsReadAs c ruling found.stands.opening found.stands.batches → CanReplay format relations counters c b
restarts_old one format relations counters c0 c b ruling rules found read =
    let s = found.stands in
    let same = one_rules one c0 s.slot ruling s.read.rules rules in
    record {
      stands = record { slot = ruling; opening = s.opening; batches = s.batches; read = read; first = s.first; holds = s.holds; bounds = s.bounds; is = s.is };
      is_of = ap (λ (m : MasterSlot). m.format) (sym same) ∙ found.is_of;
      fits = found.fits;
      recoverable = subst (λ (m : MasterSlot). IsRecoverable relations counters m.pages (area_size m) s.opening s.first (joined s.batches)) same found.recoverable;
      short = subst (λ (m : MasterSlot). m.format ≡ One → HaveFirstValues relations m.pages (pages_held s.opening (joined s.batches))) same found.short;
    }

pub restarts_next : (relations counters : ℕ) (c : List ℕ) (b : Base) (next : MasterSlot) (pages : PageBytes) (images : List Record) → AllByRecursion IsRecord images → AreImages images
    → IsReadAs c next pages (images ∷ []) → IsRelationCount relations → IsGood relations counters next.pages pages → Holds pages b → IsBase b → 5 < area_size next → next.format ≡ Two → CanRestart relations counters c b
restarts_next relations counters c b next pages images each alone read fits good holds bounds large second =
    let same = sym (append-nil images) in
    record {
      stands = record { slot = next; opening = pages; batches = images ∷ []; read = read; first = b; holds = holds; bounds = bounds; is = subst (λ (rs : List Record). b ≡ stands_for b rs) same (stands_still relations counters next.pages (area_size next) pages b images each alone) };
      is_of = second;
      fits = fits;
      recoverable = subst (λ (rs : List Record). IsRecoverable relations counters next.pages (area_size next) pages b rs) same (recoverable_images relations counters next.pages (area_size next) pages b images each alone good bounds large);
      short = λ first. absurd (let both : Two ≡ One = sym second ∙ first in cc);
    }

-- so the old area represents the base that it did, and the next one the base that the pages at hand hold
module _ (one : OneSlot) (own : OnlyOwnPagesMatter) (format : Format) (relations counters : ℕ) (c0 c : List ℕ) (b : Base) (frames : ℕ) (f : Findings) (is : IsFound c0 frames f) (found : CanReplay format relations counters c0 b)
    (relations2 counters2 : ℕ) (b2 : Base) (fits : IsRelationCount relations2) (bounds : IsBase b2) (shows : ShowsBase relations2 counters2 f.restored.pages.items b2) where
  next_restarts : IsReadAs c (next_slot f.ruling) (bytes_of f.restored.pages.items) (f.marks.images.items ∷ []) → CanRestart relations2 counters2 c b2
  next_restarts next =
      let items = f.restored.pages.items in
      let k = is.marked in
      let room = is.turns.fits in
      let alike = own relations2 counters2 (length items) shows.pages (bytes_of items) (λ p lt. shows.first p lt) shows.good in
      restarts_next relations2 counters2 c b2 (next_slot f.ruling) (bytes_of items) f.marks.images.items k.images.grammar (are_images (length items) f.marks.images.items k.images.only) next fits
      (subst (λ (n : ℕ). IsGood relations2 counters2 n (bytes_of items)) k.count alike.0) (alike.1 b2 shows.holds) bounds (omega (arith, room)) refl

  pub old_or_next : ReadsOldOrNext f.ruling found.stands.opening found.stands.batches f.restored.pages.items f.marks.images.items c → CanReplay format relations counters c b ⊎ CanRestart relations2 counters2 c b2
  old_or_next either = ⊎_elim
      (λ (old : IsReadAs c f.ruling found.stands.opening found.stands.batches). inl (restarts_old one format relations counters c0 c b f.ruling is.marked.rules found old))
      (λ (next : IsReadAs c (next_slot f.ruling) (bytes_of f.restored.pages.items) (f.marks.images.items ∷ [])). inr (next_restarts next))
      either
