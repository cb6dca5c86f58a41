-- A store over a device as it is formatted.
use Rattle.std.proofs.Common.{◌≡◌, ◌+◌, ◌++◌, ◌∙◌, ◌*◌, ◌<◌, ◌≤◌, inl, ℕ, false, List, [], ◌∷◌, get_or, sym, ap, subst, arith}
use Rattle.mt_disk.specs.declared.device.Device.{Ghosts}
use Rattle.mt_disk.specs.Disk.{Only}
use Rattle.mt_frame.specs.declared.records.Record.{Record}
use Rattle.mt_frame.specs.declared.slots.MasterSlot.{MasterSlot}
use Rattle.mt_log.specs.Area.{Area}
use Rattle.mt_log.specs.Masters.{IsRuling, area_start as start_of, area_end as end_of}
use Rattle.mt_log.specs.Batch.{Stands}
use Rattle.mt_log.specs.Sound.{IsSound}
use Rattle.mt_log.specs.Words.{IsOn, seen_of, appended, area_start, in_flight, waiting, used, area_size, has_failed}
use Rattle.mt_log.specs.declared.log.Log.{Log}
use Rattle.mt_log.specs.declared.stage.Stage.TheVariants.{Idle}
use Rattle.mt_log.proofs.Settled.{same_area, batches_in}
use Rattle.mt_op.specs.Begun.{ShowsOpening}
use Rattle.mt_pool.specs.Images.{IsSafe, slot}
use Rattle.mt_pool.specs.Kept.{IsKept, Names, carried}
use Rattle.mt_pool.specs.Moves.{IsStoreOver}
use Rattle.mt_pool.specs.Views.{Shows, pages, view}
use Rattle.mt_pool.specs.declared.pool.Pool.{Pool}
use Rattle.mt_pool.specs.declared.store.Store.{Store}
use Rattle.mt_format.specs.Firsts.{IsFirstLog, IsFirstPool}
use Rattle.mt_format.specs.Formats.{IsFormattedAs, first_slot}
use Rattle.mt_format.specs.Schemas.{pages_in, mib_in, pages_end, area_end}
use Rattle.mt_format.specs.declared.schema.Schema.{Schema}

-- a store over a device as it is formatted
pub record IsFirstStore {D : Type 0} (g : Ghosts D) (s : Schema) (device : D) (store : Store D) : Type 0 where
  pub kept : IsKept g (slot 8192 (g.seen device)) store
  pub shows : ShowsOpening g (slot 8192 (g.seen device)) store
  pub empty : appended store.log ≡ []
  pub head : used store.log ≡ 5
  pub well : has_failed store.log ≡ false
  pub size : area_size store.log ≡ mib_in s * 1048576
  pub page_count : pages store.pool ≡ pages_in s

-- the area as the first log knows it
first_area : (s : Schema) (seen : List ℕ) (may : List ℕ → Type 0) → IsFormattedAs s seen → Only seen may → Area seen may (pages_end s) (area_end s) (pages_end s + 5) ([] ∷ []) [] Idle
first_area s seen may f only =
    let long = f.long in
    let some = s.area_size.0 in
    let q = f.area.row in
    let next : pages_end s + 5 + 0 ≡ q.0 = q.1.1 in
    let shut = q.3 in
    record {
      within = omega arith;
      order = omega arith;
      room = omega arith;
      front = λ c left. subst (λ (l : List ℕ). Stands l (pages_end s) ([] ∷ []) (pages_end s + 5)) (sym (only c left)) (q.1.0, omega arith);
      outcome = λ c left is. shut (subst (λ (n : ℕ). get_or seen n 0 ≡ 165) (omega (arith, next)) (subst (λ (l : List ℕ). get_or l (pages_end s + 5) 0 ≡ 165) (only c left) is));
      present = tt;
    }

first_on : {D : Type 0} (g : Ghosts D) (s : Schema) (log : Log) (d : D) → IsFirstLog s log → IsFormattedAs s (g.seen d) → Only (g.seen d) (g.may_leave d) → IsOn g log d
unfolding IsOn seen_of
first_on g s log d l f only =
    same_area (g.seen d) (g.may_leave d) (pages_end s) log.place.start (area_end s) log.place.end (pages_end s + 5) log.next ([] ∷ []) (batches_in log) [] log.in_flight.items Idle log.stage
    (ap (λ x. x.0) l.stands) (ap (λ x. x.1) l.stands) (ap (λ x. x.2) l.stands) (ap (λ x. x.3) l.stands) (ap (λ x. x.4) l.stands) (ap (λ x. x.5) l.stands)
    (first_area s (g.seen d) (g.may_leave d) f only)

-- ---- the first slot rules, and names the pages and that area

pub first_start : (s : Schema) → start_of (first_slot s) ≡ pages_end s
first_start s = omega arith

pub first_end : (s : Schema) → end_of (first_slot s) ≡ area_end s
first_end s = omega arith

pub first_rules : (s : Schema) (c : List ℕ) → IsFormattedAs s c → IsRuling c (first_slot s)
first_rules s c f = inl (record {
  own = record { fits = record { epoch = (omega arith, omega arith); area = omega arith; pages = s.page_count; mib = s.area_size }; text = f.master; long = f.long };
  beside = inl f.other;
})

-- a log and a pool as a device is formatted, with the slot that names them
module _ {D : Type 0} (g : Ghosts D) (s : Schema) (frames : ℕ) (device : D) (log : Log) (pool : Pool) (ruling : MasterSlot)
    (l : IsFirstLog s log) (p : IsFirstPool s frames pool) (named : ruling ≡ first_slot s)
    (f : IsFormattedAs s (g.seen device)) (only : Only (g.seen device) (g.may_leave device)) where
  abbrev opening : ℕ → List ℕ
  opening = slot 8192 (g.seen device)

  pub begun_on : IsOn g log device
  begun_on = first_on g s log device l f only

  pub begun_sound : IsSound (pages pool) log
  begun_sound = subst (λ (k : ℕ). IsSound k log) (sym p.page_count) l.sound

  pub begun_apart : pool.place + 4096 * pages pool ≤ area_start log
  begun_apart = omega (arith, p.place, p.page_count, l.start)

  pub begun_few : pages pool ≤ 4000
  begun_few = let few = s.page_count.1 in omega (arith, few, p.page_count)

  pub begun_names : Names ruling pool log
  begun_names = record {
    count = ap (λ (m : MasterSlot). m.pages) named ∙ sym p.page_count;
    place = p.place;
    start = ap start_of named ∙ first_start s ∙ sym l.start;
    end = ap end_of named ∙ first_end s ∙ sym l.end;
    second = ap (λ (m : MasterSlot). m.format) named;
  }

  pub begun_rules : (c : List ℕ) → g.may_leave device c → IsRuling c ruling
  begun_rules c left = subst (λ (X : Type 0). X) (λ i. IsRuling (sym (only c left) i) (sym named i)) (first_rules s (g.seen device) f)

  pub begun_shows : Shows pool (g.seen device)
  begun_shows = let long = f.long in p.shows (g.seen device) (omega arith)

  -- each page is in its slot, and none has an image
  pub begun_safe : IsSafe pool.place (pages pool) opening (carried []) 0 (g.may_leave device)
  begun_safe = record {
    within = omega arith;
    images = λ q lt has d. absurd (cc);
    slots = λ q lt none c left. ap (λ (k : ℕ). slot k c q) p.place ∙ ap (λ (k : List ℕ). slot 8192 k q) (only c left);
  }

  pub begun : (store : Store D) → IsStoreOver device log pool ruling store
      → ((first : ℕ → List ℕ) → IsSafe pool.place (pages pool) first (carried []) 0 (g.may_leave device) → ((q : ℕ) → q < pages pool → view pool (g.seen device) q ≡ first q) → IsKept g first store)
      → IsFirstStore g s device store
  begun store over kept = record {
    kept = kept opening begun_safe (λ q lt. p.views (g.seen device) q);
    shows = λ q lt. over.views (g.seen store.device) q ∙ ap (λ (d : D). view pool (g.seen d) q) over.device ∙ p.views (g.seen device) q;
    empty = ap (λ (x : Log). appended x) over.log ∙ ap (λ (rs : List Record). rs ++ (in_flight log ++ waiting log)) l.none ∙ ap (λ (rs : List Record). rs ++ waiting log) l.flying ∙ l.waits;
    head = ap (λ (x : Log). used x) over.log ∙ l.head;
    well = ap (λ (x : Log). has_failed x) over.log ∙ l.well;
    size = ap (λ (x : Log). area_size x) over.log ∙ l.size;
    page_count = over.page_count ∙ p.page_count;
  }
