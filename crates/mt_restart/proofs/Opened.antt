-- A kernel over a device that was recovered.
use Rattle.std.proofs.Common.{◌≡◌, ◌∙◌, ◌++◌, ◌+◌, ◌*◌, ◌<◌, ◌≤◌, ℕ, List, [], length, refl, sym, ap, subst, arith, append-nil}
use Rattle.std.specs.List.{AllByRecursion}
use Rattle.std.proofs.lemmas.List.{length-map}
use Rattle.mt_disk.specs.declared.device.Device.{Ghosts}
use Rattle.mt_frame.specs.declared.records.Record.{Record}
use Rattle.mt_space.specs.PageLists.{bytes_of}
use Rattle.mt_core.specs.Consistent.{IsFresh}
use Rattle.mt_log.proofs.Turns.{ruling_fits, long_of}
use Rattle.mt_frame.specs.declared.slots.MasterSlot.{MasterSlot}
use Rattle.mt_log.specs.Masters.{IsRuling, area_size as size_of, area_start as start_of, area_end as end_of}
use Rattle.mt_log.specs.NextSlot.{next_slot}
use Rattle.mt_log.specs.Sound.{IsSound}
use Rattle.mt_log.specs.Words.{seen_of, appended, used, area_size, area_start as log_start, area_end as log_end, durable, in_flight, waiting}
use Rattle.mt_log.specs.declared.log.Log.{Log}
use Rattle.mt_log.proofs.Bytes.{used-fields}
use Rattle.mt_model.specs.Model.{Base, IsBase}
use Rattle.mt_op.specs.Begun.{AreImages, FitsPages, ShowsOpening}
use Rattle.mt_op.specs.Operations.{IsRight, claimed}
use Rattle.mt_op.specs.declared.operations.Operations.{Operations}
use Rattle.mt_pool.specs.Images.{IsSafe, slot}
use Rattle.mt_pool.specs.Kept.{IsKept, Names, carried, carried_of}
use Rattle.mt_pool.specs.Turns.{IsImageOnly}
use Rattle.mt_pool.specs.Views.{pages, view}
use Rattle.mt_pool.specs.declared.store.Store.{Store}
use Rattle.mt_space.specs.Changes.{PageBytes}
use Rattle.mt_space.specs.Rooms.{reserved_of}
use Rattle.mt_steps.specs.Held.{Holds}
use Rattle.mt_steps.specs.Plans.{IsGood}
use Rattle.mt_replay.specs.Laws.{OnlyOwnPagesMatter}
use Rattle.mt_replay.specs.Stands.{CanRestart, ShowsBase}
use Rattle.mt_txn.specs.Well.{Opens}
use Rattle.mt_txn.specs.declared.kernel.Kernel.{Kernel}
use Rattle.mt_restart.specs.Beside.{IsBeside}
use Rattle.mt_restart.specs.Resumed.{IsOpened}
use Rattle.mt_restart.specs.declared.beside.Beside.{Beside}
use Rattle.mt_restart.specs.Recovered.{IsRecovered}
use Rattle.mt_restart.specs.declared.recovery.Recovered.{Recovered}
use Rattle.mt_restart.proofs.Restarting.{are_images}

-- a log has room after its records
some_room : (log : Log) → used log < area_size log
unfolding seen_of
some_room log = let is = used-fields log in let fits = log.fits in let order = log.in_order in let head = log.head in omega (arith, is, fits, order, head)

appended_of : (log : Log) (images : List Record) → durable log ≡ images → in_flight log ≡ [] → waiting log ≡ [] → appended log ≡ images
appended_of log images d f w =
    ap (λ (l : List Record). l ++ (in_flight log ++ waiting log)) d ∙ ap (λ (l : List Record). images ++ (l ++ waiting log)) f ∙ ap (λ (l : List Record). images ++ l) w ∙ append-nil images

-- a log's area ends after its bytes
end_of_log : (log : Log) (s n : ℕ) → log_start log ≡ s → area_size log ≡ n → log_end log ≡ s + n
unfolding seen_of
end_of_log log s n start size = let some = log.place.some_bytes in omega (arith, start, size, some)

module _ {D : Type 0} (g : Ghosts D) (frames : ℕ) (device : D) (r : Recovered) (is : IsRecovered g frames device r) where
  pub rules : IsRuling (g.seen device) (next_slot is.ruling)
  rules = is.turned.read.rules

  pub few : length r.restored.pages.items ≤ 4000
  few = let fits = ruling_fits (g.seen device) (next_slot is.ruling) rules in let pages = fits.pages in let count = is.count in omega (arith, pages, count)

  pub long : 8192 + 4096 * length r.restored.pages.items ≤ length (g.seen device)
  long = let size = long_of (g.seen device) (next_slot is.ruling) rules in let count = is.count in omega (arith, size, count)

  pub apart : 8192 + 4096 * length r.restored.pages.items ≤ log_start r.log
  apart = let start = is.turned.next.start in let count = is.count in omega (arith, start, count)

  -- the slot that rules now names the pages, and the area of the log
  pub names_next : Names r.ruling r.beside.pool r.log
  names_next = record {
    count = ap (λ (m : MasterSlot). m.pages) is.next ∙ sym (is.beside.page_count ∙ is.count);
    place = is.beside.place;
    start = ap start_of is.next ∙ sym is.turned.next.start;
    end = ap end_of is.next ∙ sym (end_of_log r.log (start_of (next_slot is.ruling)) (size_of is.ruling) is.turned.next.start is.turned.next.size);
    second = ap (λ (m : MasterSlot). m.format) is.next;
  }

  pub rules_next : (c : List ℕ) → g.may_leave device c → IsRuling c r.ruling
  rules_next c left = subst (λ (X : Type 0). X) (λ i. IsRuling (sym (is.turned.only c left) i) (sym is.next i)) rules

  pub slots_are : (p : ℕ) → p < length r.restored.pages.items → slot 8192 (g.seen device) p ≡ bytes_of r.restored.pages.items p
  slots_are p lt = is.turned.slots p (subst (λ (n : ℕ). p < n) is.count lt)

  pub safe : (place n : ℕ) (rs : List Record) → place ≡ 8192 → n ≡ length r.restored.pages.items → rs ≡ r.images.items → IsSafe place n (bytes_of r.restored.pages.items) (carried rs) (length rs) (g.may_leave device)
  safe place n rs at many same = subst (λ (X : Type 0). X) (λ i. IsSafe (sym at i) (sym many i) (bytes_of r.restored.pages.items) (carried (sym same i)) (length (sym same i)) (g.may_leave device)) (record {
    within = omega (arith, length-map r.images.items carried_of);
    images = λ p lt some d. is.images.bytes p lt (sym (is.images.some p lt) ∙ some) d;
    slots = λ p lt none c left. ap (λ (x : List ℕ). slot 8192 x p) (is.turned.only c left) ∙ slots_are p lt;
  })

  pub log_sound : (n : ℕ) → n ≡ length r.restored.pages.items → IsSound n r.log
  log_sound n many = subst (λ (x : ℕ). IsSound x r.log) (sym (many ∙ is.count)) is.turned.next.sound

  pub images_of_pages : (n : ℕ) (rs : List Record) → n ≡ length r.restored.pages.items → rs ≡ r.images.items → AllByRecursion (IsImageOnly n) rs
  images_of_pages n rs many same = subst (λ (X : Type 0). X) (λ i. AllByRecursion (IsImageOnly (sym many i)) (sym same i)) is.images.only

  -- each page is viewed as it was restored
  pub viewed : (p n : ℕ) → n ≡ length r.restored.pages.items → p < n → view r.beside.pool (g.seen device) p ≡ bytes_of r.restored.pages.items p
  viewed p n many lt = is.beside.views (g.seen device) p ∙ slots_are p (subst (λ (x : ℕ). p < x) many lt)

  pub log_images : (log : Log) → log ≡ r.log → AreImages (appended log)
  log_images log same = subst (λ (l : Log). AreImages (appended l)) (sym same)
      (subst AreImages (sym (appended_of r.log r.images.items is.turned.next.durable_is is.turned.next.flying is.turned.next.waits)) (are_images (length r.restored.pages.items) r.images.items is.images.only))

  module _ (s : Store D) (same_log : s.log ≡ r.log) (many : pages s.pool ≡ length r.restored.pages.items) (kept : IsKept g (bytes_of r.restored.pages.items) s) (shows : ShowsOpening g (bytes_of r.restored.pages.items) s)
      (o : Operations D) (store : o.store ≡ s) (locks : o.locks ≡ r.beside.idle.locks) (claims : claimed o ≡ reserved_of r.beside.idle.map.space)
      (right : (opening : PageBytes) (relations counters : ℕ) → IsKept g opening s → AreImages (appended s.log) → IsGood relations counters (pages s.pool) opening → ShowsOpening g opening s → FitsPages (pages s.pool) opening r.beside.idle → IsRight g opening relations counters o) where
    log_is : o.store.log ≡ r.log
    log_is = ap (λ (x : Store D). x.log) store ∙ same_log

    pub fresh_again : IsFresh o r.beside.escrow
    fresh_again = record {
      locks = locks ∙ is.beside.fits.locks;
      unclaimed = claims ∙ is.beside.unclaimed;
      images = log_images o.store.log log_is;
      room = some_room o.store.log;
      pending = is.beside.pending;
      aside = is.beside.aside;
    }

    pub opens_again : (b : Base) → Holds (bytes_of r.restored.pages.items) b → IsBase b → Opens g o r.beside.escrow r.beside.relations r.beside.counters b
    opens_again b holds bounds =
        let good = is.checked.good in
        let outcome : r.beside.counters ≡ is.checked.counters = is.beside.counters ∙ good.counts.counters_reported in
        ∣ (
          record { first = b; earlier = []; begun = b; pages = bytes_of r.restored.pages.items; relations = is.checked.relations; counters = is.checked.counters },
          record { relations_are = sym (is.beside.relations ∙ good.counts.relations_reported); counters_are = sym outcome; first_is = refl },
          record {
            schema = record { few_relations = is.checked.fits.1; few_counters = good.counts.few };
            area = record { begun = refl; none = refl };
            bounds = bounds;
            holds = holds;
            right = right (bytes_of r.restored.pages.items) is.checked.relations is.checked.counters kept (log_images s.log same_log) (subst (λ (n : ℕ). IsGood is.checked.relations is.checked.counters n (bytes_of r.restored.pages.items)) (sym many) good) shows
                (subst (λ (n : ℕ). FitsPages n (bytes_of r.restored.pages.items) r.beside.idle) (sym many) is.beside.fits);
            escrowed = record {
              all = is.beside.all ∙ outcome;
              counts = λ c lt. is.beside.counts c (subst (λ (n : ℕ). c < n) (sym outcome) lt) ∙ sym (holds.counts c (subst (λ (n : ℕ). c < n) (sym good.counts.counters_reported) lt));
            };
          },
        ) ∣₁

-- the counters page says how many relations and counters the pages that show the base are good for
pub opened_as : {D : Type 0} {g : Ghosts D} → OnlyOwnPagesMatter → (relations counters frames : ℕ) (b : Base) (items : List (List ℕ)) (x : Beside) (k : Kernel D g) → IsBeside items frames x
    → ShowsBase relations counters items b → (Holds (bytes_of items) b → IsOpened x.relations x.counters b k) → IsOpened relations counters b k
opened_as own relations counters frames b items x k beside shows opened =
    let alike = own relations counters (length items) shows.pages (bytes_of items) (λ p lt. shows.first p lt) shows.good in
    let o = opened (alike.1 b shows.holds) in
    record {
      relations_are = o.relations_are ∙ beside.relations ∙ alike.0.counts.relations_reported;
      counters_are = o.counters_are ∙ beside.counters ∙ alike.0.counts.counters_reported;
      shows = o.shows;
      restarts = o.restarts;
    }

-- the base that bytes represent has its counters in bounds
pub base_in_bounds : (relations counters : ℕ) (c : List ℕ) (b : Base) → CanRestart relations counters c b → IsBase b
base_in_bounds relations counters c b can = subst IsBase (sym can.stands.is) can.recoverable.serial.bounds
