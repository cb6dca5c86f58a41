-- Records are appended behind the others, with the change of a page that they are of or without.
use Rattle.std.proofs.Common.{◌≡◌, ◌≢◌, inl, inr, ⊎_elim, ℕ, ◌+◌, ◌<◌, List, [], ◌∷◌, ◌++◌, length, get_or, take, set, refl, sym, ◌∙◌, ap, subst, arith, length-append, append_assoc, append-nil, false, true, Bool, Option, Result, Ok, Err, OnOk, OnErr}
use Rattle.std.specs.Prelude.{◌||◌}
use Rattle.std.proofs.Math.Seq.{take-length}
use Rattle.std.proofs.lemmas.List.{map-append, length-map, take-append-le, get_or-set_same, get_or-set_other}
use Rattle.std.proofs.lemmas.Bool.{cases_eq}
use Rattle.mt_disk.specs.declared.device.Device.{Ghosts}
use Rattle.mt_frame.specs.declared.records.Record.{Record}
use Rattle.mt_frame.specs.declared.records.Record.TheVariants.{Page, OpEnd, OpDropped, Commit, AbortEnd}
use Rattle.mt_frame.specs.Grammar.{IsOfPage, IsRecord}
use Rattle.std.specs.List.{AllByRecursion}
use Rattle.mt_area_rules.specs.History.{some_record, is_of_page, may_stand, MayFollow}
use Rattle.mt_log.specs.Holds.{HasItsPage}
use Rattle.mt_log.specs.Sound.{IsSound}
use Rattle.mt_log.specs.Batch.{joined}
use Rattle.mt_log.specs.Seen.{LogSeen, with_records}
use Rattle.mt_log.specs.Words.{seen_of, used, durable, in_flight, waiting, appended, area_start, area_end, stands_at}
use Rattle.mt_log.specs.declared.log.Log.{Log}
use Rattle.mt_log.proofs.Elsewhere.{on_same}
use Rattle.mt_frame.specs.Lengths.{record_length}
use Rattle.mt_log.specs.Seen.{bytes_in}
use Rattle.mt_log.proofs.Bytes.{bytes-with_record}
use Rattle.mt_log.proofs.Prefix.{may_back, each_back, sound_with_record, sound_same}
use Rattle.mt_pool.specs.Images.{has_image, page_in, IsSafe}
use Rattle.mt_pool.specs.Views.{IsPool, Shows, IsTied, pages, view, waits_for}
use Rattle.mt_pool.specs.declared.pool.Pool.{Pool}
use Rattle.mt_pool.specs.Kept.{carried_of, carried, IsKept}
use Rattle.mt_pool.specs.Writes.{records_size, IsLonger}
use Rattle.mt_pool.specs.declared.store.Store.{Store}
use Rattle.mt_pool.proofs.Safe.{bool_cases, has_later, has_all, in_more, in_later}
use Rattle.mt_pool.proofs.Kept.{names_same}
use Rattle.mt_pool.proofs.Tied.{has_front, or_some}

-- ---- images that come behind others

-- What a change of a page needs of the images in its records: none of another page, and one of it just where it has none yet,
-- which is the page as it is before the change.
pub record AreImagesFirst (pool : Pool) (seen : List ℕ) (page : ℕ) (es : List (Option (ℕ × List ℕ))) : Type 0 where
  pub others : (q : ℕ) → q ≢ page → has_image es q ≡ false
  pub only : has_image es page ≡ true → (d : List ℕ) → (waits_for pool page ≡ 0) × (page_in es page d ≡ view pool seen page)
  pub due : waits_for pool page ≡ 0 → has_image es page ≡ true

same_false : (b : Bool) → b ≡ true → b ≡ false → ⊥
same_false b is not = cc

pub safe_images : (pool : Pool) (seen : List ℕ) (opening : ℕ → List ℕ) (appended es : List (Option (ℕ × List ℕ))) (durable : ℕ) (may : List ℕ → Type 0) (page : ℕ)
    → IsTied pool seen opening appended → page < pages pool → AreImagesFirst pool seen page es → IsSafe pool.place (pages pool) opening appended durable may → IsSafe pool.place (pages pool) opening (appended ++ es) durable may
safe_images pool seen opening appended es durable may page t lt first safe = record {
  within = let w = safe.within in omega (arith, length-append appended es);
  images = λ p p_in has d. elim (bool_cases (has_image appended p)) [
    | inl before ↦ in_more p appended es d d before ∙ safe.images p p_in before d
    | inr none ↦
        let here : has_image es p ≡ true = sym (has_later p appended es none) ∙ has in
        elim (cases_eq p page) [
          | inl same ↦
              let o = first.only (ap (λ (x : ℕ). has_image es x) (sym same) ∙ here) d in
              in_later p appended es d none ∙ ap (λ (x : ℕ). page_in es x d) same ∙ o.1 ∙ (t.untouched page lt o.0).1 ∙ ap opening (sym same)
          | inr differ ↦ absurd (same_false (has_image es p) here (first.others p differ))
        ]
  ];
  slots = λ p p_in none c left. safe.slots p p_in (sym (ap (λ l. has_image l p) (take-append-le durable appended es safe.within)) ∙ none) c left;
}

pub tied_images : (pool new : Pool) (seen : List ℕ) (opening : ℕ → List ℕ) (appended es : List (Option (ℕ × List ℕ))) (page : ℕ)
    → IsPool pool → IsTied pool seen opening appended → page < pages pool → 0 < length es → AreImagesFirst pool seen page es
    → new.waits.items ≡ set pool.waits.items page (length appended + length es) → pages new ≡ pages pool → ((q : ℕ) → q ≢ page → view new seen q ≡ view pool seen q)
    → IsTied new seen opening (appended ++ es)
tied_images pool new seen opening appended es page ok t lt some first waits same others =
    let last = length appended + length es in
    let longer : length (appended ++ es) ≡ last = length-append appended es in
    let at_page : get_or new.waits.items page 0 ≡ last = ap (λ (l : List ℕ). get_or l page 0) waits ∙ get_or-set_same pool.waits.items page last 0 (omega (arith, lt, ok.waits)) in
    let elsewhere : (q : ℕ) → q ≢ page → get_or new.waits.items q 0 ≡ get_or pool.waits.items q 0 = λ q differ. ap (λ (l : List ℕ). get_or l q 0) waits ∙ get_or-set_other pool.waits.items page q last 0 differ in
    record {
      imaged = λ p in_new waiting. elim (cases_eq p page) [
        | inl is ↦
            let whole : take (get_or new.waits.items p 0) (appended ++ es) ≡ appended ++ es =
            ap (λ (n : ℕ). take n (appended ++ es)) (ap (λ (x : ℕ). get_or new.waits.items x 0) is ∙ at_page ∙ sym longer) ∙ take-length (appended ++ es) in
            ap (λ l. has_image l p) whole ∙ ap (λ (x : ℕ). has_image (appended ++ es) x) is ∙
            ⊎_elim
            (λ (none : get_or pool.waits.items page 0 ≡ 0). or_some page appended es (first.due none))
            (λ (was : get_or pool.waits.items page 0 ≢ 0). has_front page appended es (has_all page appended (get_or pool.waits.items page 0) (t.imaged page lt (omega (arith, was)))))
            (cases_eq (get_or pool.waits.items page 0) 0)
        | inr differ ↦
            let w = elsewhere p differ in
            let was = t.imaged p (omega (arith, same, in_new)) (omega (arith, w, waiting)) in
            ap (λ (n : ℕ). has_image (take n (appended ++ es)) p) w
            ∙ ap (λ l. has_image l p) (take-append-le (get_or pool.waits.items p 0) appended es (t.within p (omega (arith, same, in_new)))) ∙ was
      ];
      within = λ p in_new. elim (cases_eq p page) [
        | inl is ↦ let w : get_or new.waits.items p 0 ≡ last = ap (λ (x : ℕ). get_or new.waits.items x 0) is ∙ at_page in omega arith
        | inr differ ↦ let w = elsewhere p differ in let le = t.within p (omega (arith, same, in_new)) in omega arith
      ];
      untouched = λ p in_new none. elim (cases_eq p page) [
        | inl is ↦ absurd (let w : get_or new.waits.items p 0 ≡ last = ap (λ (x : ℕ). get_or new.waits.items x 0) is ∙ at_page in omega arith)
        | inr differ ↦
            let w = elsewhere p differ in
            let was = t.untouched p (omega (arith, same, in_new)) (omega (arith, w, none)) in
            (has_later p appended es was.0 ∙ first.others p differ, others p differ ∙ was.1)
      ];
    }

-- ---- records that come behind others

pub no_records : (is : Record → Bool) (xs ys : List Record) → some_record is xs ≡ false → some_record is ys ≡ false → some_record is (xs ++ ys) ≡ false
no_records is [] ys first second = second
no_records is (x ∷ xs) ys first second = let both = no_or2 (is x) (some_record is xs) first in ap (λ b. b || some_record is (xs ++ ys)) both.0 ∙ no_records is xs ys both.1 second
  where
    no_or2 : (b x : Bool) → (b || x) ≡ false → (b ≡ false) × (x ≡ false)
    no_or2 true x h = absurd (cc)
    no_or2 false x h = (refl, h)

pub longer_appended : (old new : Log) (rs : List Record) → IsLonger old new rs → appended new ≡ appended old ++ rs
longer_appended old new rs l =
    ap (λ (x : LogSeen). joined x.batches ++ (x.flight ++ x.waits)) l
    ∙ ap (λ (x : List Record). durable old ++ x) (sym (append_assoc (in_flight old) (waiting old) rs)) ∙ sym (append_assoc (durable old) (in_flight old ++ waiting old) rs)

-- more records behind those
pub longer_more : (old mid new : Log) (xs ys : List Record) → IsLonger old mid xs → IsLonger mid new ys → IsLonger old new (xs ++ ys)
longer_more old mid new xs ys first second =
    second ∙ ap (λ (x : LogSeen). with_records x ys) first ∙ ap (λ (l : List Record). record (seen_of old) { waits = l }) (append_assoc (waiting old) xs ys)

pub none_more : (old new : Log) → seen_of new ≡ seen_of old → IsLonger old new []
none_more old new same = same ∙ ap (λ (l : List Record). record (seen_of old) { waits = l }) (sym (append-nil (waiting old)))

-- a log that is seen as the same keeps the rules of an area
pub sound_seen : (pages : ℕ) (old new : Log) → seen_of new ≡ seen_of old → IsSound pages old → IsSound pages new
sound_seen pages old new is = sound_same pages old new (ap (λ (x : LogSeen). x.batches) is) (ap (λ (x : LogSeen). x.flight ++ x.waits) is)

-- after an append, whatever it answered
pub sound_either : {T E : Type 0} (result : Result T E) (pages : ℕ) (old new : Log) (r : Record) → OnOk result (seen_of new ≡ with_records (seen_of old) (r ∷ [])) → OnErr result (seen_of new ≡ seen_of old) → IsRecord r → HasItsPage pages r → may_stand false (appended old) r ≡ true → IsSound pages old → IsSound pages new
sound_either (Ok x) pages old new r ok err = sound_with_record pages old new r ok
sound_either (Err e) pages old new r ok err = λ grammar page may. sound_seen pages old new err

pub longer_used : (old new : Log) (r : Record) → seen_of new ≡ with_records (seen_of old) (r ∷ []) → used new ≡ used old + 5 + record_length r
longer_used old new r is = ap bytes_in is ∙ bytes-with_record (seen_of old) r

pub size_append : (xs ys : List Record) → records_size (xs ++ ys) ≡ records_size xs + records_size ys
size_append [] ys = omega arith
size_append (x ∷ xs) ys = omega (arith, size_append xs ys)

-- what may come behind some records, and the next of them
pub next_may : (earlier front rest : List Record) (r : Record) → MayFollow false earlier (front ++ r ∷ rest) → may_stand false (earlier ++ front) r ≡ true
next_may earlier front rest r may = (may_back false earlier front (r ∷ rest) may).0

pub next_page : (pages : ℕ) (front rest : List Record) (r : Record) → AllByRecursion (HasItsPage pages) (front ++ r ∷ rest) → HasItsPage pages r
next_page pages front rest r all = (each_back (HasItsPage pages) front (r ∷ rest) all).0

pub same_start : (old new : Log) (rs : List Record) → IsLonger old new rs → area_start new ≡ area_start old
same_start old new rs l = ap (λ (x : LogSeen). x.start) l

pub same_end : (old new : Log) (rs : List Record) → IsLonger old new rs → area_end new ≡ area_end old
same_end old new rs l = ap (λ (x : LogSeen). x.end) l

pub same_stand : (old new : Log) (rs : List Record) → IsLonger old new rs → stands_at new ≡ stands_at old
same_stand old new rs l = ap (λ (x : LogSeen). (x.start, x.end, x.gate, x.batches, x.flight, x.stage)) l

pub carried_more : (old new : Log) (rs : List Record) → IsLonger old new rs → carried (appended new) ≡ carried (appended old) ++ carried rs
carried_more old new rs l = ap carried (longer_appended old new rs l) ∙ map-append carried_of (appended old) rs

module _ {D : Type 0} (g : Ghosts D) (opening : ℕ → List ℕ) (s : Store D) (k : IsKept g opening s) where
  -- a change of a page behind its records
  pub kept_write : (log : Log) (p : Pool) (rs : List Record) (page : ℕ) → IsLonger s.log log rs → (IsSound (pages s.pool) s.log → IsSound (pages s.pool) log)
      → page < pages s.pool → 0 < length rs → AreImagesFirst s.pool (g.seen s.device) page (carried rs) → ((q : ℕ) → q ≢ page → some_record (is_of_page q) rs ≡ false)
      → IsPool p → Shows p (g.seen s.device) → p.waits.items ≡ set s.pool.waits.items page (length (appended log)) → p.place ≡ s.pool.place → pages p ≡ pages s.pool → ((q : ℕ) → q ≢ page → view p (g.seen s.device) q ≡ view s.pool (g.seen s.device) q)
      → IsKept g opening (record s { log = log; pool = p })
  kept_write log p rs page longer sound lt some first named ok shows waits place count others =
      let all = longer_appended s.log log rs longer in
      let images = carried_more s.log log rs longer in
      let position : length (appended log) ≡ length (carried (appended s.log)) + length (carried rs) =
      ap length all ∙ length-append (appended s.log) rs ∙ ap (λ (n : ℕ). n + length rs) (sym (length-map (appended s.log) carried_of)) ∙ ap (λ (n : ℕ). length (carried (appended s.log)) + n) (sym (length-map rs carried_of)) in
      let durable_len : length (durable log) ≡ length (durable s.log) = ap (λ (x : LogSeen). length (joined x.batches)) longer in
      record {
        on = on_same g s.log log s.device (same_stand s.log log rs longer) k.on;
        sound = subst (λ (x : ℕ). IsSound x log) (sym count) (sound k.sound);
        apart = let a = k.apart in omega (arith, place, count, same_start s.log log rs longer);
        few = omega (arith, count, k.few);
        frames = ok;
        shows = shows;
        settled = k.settled ∙ sym durable_len;
        safe = subst (λ es. IsSafe p.place (pages p) opening es (length (durable log)) (g.may_leave s.device)) (sym images)
            (subst (λ (x : ℕ). IsSafe x (pages p) opening (carried (appended s.log) ++ carried rs) (length (durable log)) (g.may_leave s.device)) (sym place)
            (subst (λ (x : ℕ). IsSafe s.pool.place x opening (carried (appended s.log) ++ carried rs) (length (durable log)) (g.may_leave s.device)) (sym count)
            (subst (λ (x : ℕ). IsSafe s.pool.place (pages s.pool) opening (carried (appended s.log) ++ carried rs) x (g.may_leave s.device)) (sym durable_len)
            (safe_images s.pool (g.seen s.device) opening (carried (appended s.log)) (carried rs) (length (durable s.log)) (g.may_leave s.device) page k.tied lt first k.safe))));
        tied = subst (λ es. IsTied p (g.seen s.device) opening es) (sym images)
            (tied_images s.pool p (g.seen s.device) opening (carried (appended s.log)) (carried rs) page k.frames k.tied lt (omega (arith, some, length-map rs carried_of)) first
            (waits ∙ ap (λ (n : ℕ). set s.pool.waits.items page n) position) count others);
        names = names_same s.ruling s.pool p s.log log place count (same_start s.log log rs longer) (same_end s.log log rs longer) k.names;
        rules = k.rules;
        unnamed = λ q q_in none. elim (cases_eq q page) [
          | inl same ↦ absurd (
              let w : get_or p.waits.items q 0 ≡ length (appended log) = ap (λ (l : List ℕ). get_or l q 0) waits ∙ ap (λ (x : ℕ). get_or (set s.pool.waits.items page (length (appended log))) x 0) same
              ∙ get_or-set_same s.pool.waits.items page (length (appended log)) 0 (omega (arith, lt, k.frames.waits)) in
              omega (arith, w, none, position, some, length-map rs carried_of))
          | inr differ ↦
              let w : get_or p.waits.items q 0 ≡ get_or s.pool.waits.items q 0 = ap (λ (l : List ℕ). get_or l q 0) waits ∙ get_or-set_other s.pool.waits.items page q (length (appended log)) 0 differ in
              ap (λ (l : List Record). some_record (is_of_page q) l) all ∙ no_records (is_of_page q) (appended s.log) rs (k.unnamed q (omega (arith, q_in, count)) (sym w ∙ none)) (named q differ)
        ];
      }

  -- records of no page
  pub kept_append : (log : Log) (rs : List Record) → IsLonger s.log log rs → (IsSound (pages s.pool) s.log → IsSound (pages s.pool) log)
      → ((q : ℕ) → has_image (carried rs) q ≡ false) → ((q : ℕ) → some_record (is_of_page q) rs ≡ false) → IsKept g opening (record s { log = log })
  kept_append log rs longer sound none named =
      let all = longer_appended s.log log rs longer in
      let images = carried_more s.log log rs longer in
      let durable_len : length (durable log) ≡ length (durable s.log) = ap (λ (x : LogSeen). length (joined x.batches)) longer in
      let t = k.tied in
      let f = k.safe in
      let before = carried (appended s.log) in
      record {
        on = on_same g s.log log s.device (same_stand s.log log rs longer) k.on;
        sound = sound k.sound;
        apart = let a = k.apart in omega (arith, same_start s.log log rs longer);
        few = k.few;
        frames = k.frames;
        shows = k.shows;
        settled = k.settled ∙ sym durable_len;
        safe = subst (λ es. IsSafe s.pool.place (pages s.pool) opening es (length (durable log)) (g.may_leave s.device)) (sym images) (subst (λ (x : ℕ). IsSafe s.pool.place (pages s.pool) opening (before ++ carried rs) x (g.may_leave s.device)) (sym durable_len) (record {
          within = let w = f.within in omega (arith, length-append before (carried rs));
          images = λ p lt has d. elim (bool_cases (has_image before p)) [
            | inl was ↦ in_more p before (carried rs) d d was ∙ f.images p lt was d
            | inr not ↦ absurd (same_false (has_image (carried rs) p) (sym (has_later p before (carried rs) not) ∙ has) (none p))
          ];
          slots = λ p lt not c left. f.slots p lt (sym (ap (λ l. has_image l p) (take-append-le (length (durable s.log)) before (carried rs) f.within)) ∙ not) c left;
        }));
        tied = subst (λ es. IsTied s.pool (g.seen s.device) opening es) (sym images) (record {
          imaged = λ p lt waits. ap (λ l. has_image l p) (take-append-le (get_or s.pool.waits.items p 0) before (carried rs) (t.within p lt)) ∙ t.imaged p lt waits;
          within = λ p lt. let le = t.within p lt in omega (arith, length-append before (carried rs));
          untouched = λ p lt not. let was = t.untouched p lt not in (has_later p before (carried rs) was.0 ∙ none p, was.1);
        });
        names = names_same s.ruling s.pool s.pool s.log log refl refl (same_start s.log log rs longer) (same_end s.log log rs longer) k.names;
        rules = k.rules;
        unnamed = λ q lt not. ap (λ (l : List Record). some_record (is_of_page q) l) all ∙ no_records (is_of_page q) (appended s.log) rs (k.unnamed q lt not) (named q);
      }

-- a record of no page
pub no_image : (r : Record) → (IsOfPage r → ⊥) → (q : ℕ) → has_image (carried (r ∷ [])) q ≡ false
no_image (Page txn op page image start old new) not q = absurd (not tt)
no_image (OpEnd txn op undoes done) not q = refl
no_image (OpDropped txn op) not q = refl
no_image (Commit txn) not q = refl
no_image (AbortEnd txn) not q = refl

pub no_page : (r : Record) → (IsOfPage r → ⊥) → (q : ℕ) → some_record (is_of_page q) (r ∷ []) ≡ false
no_page (Page txn op page image start old new) not q = absurd (not tt)
no_page (OpEnd txn op undoes done) not q = refl
no_page (OpDropped txn op) not q = refl
no_page (Commit txn) not q = refl
no_page (AbortEnd txn) not q = refl

pub any_page : (pages : ℕ) (r : Record) → (IsOfPage r → ⊥) → HasItsPage pages r
any_page pages (Page txn op page image start old new) not = absurd (not tt)
any_page pages (OpEnd txn op undoes done) not = tt
any_page pages (OpDropped txn op) not = tt
any_page pages (Commit txn) not = tt
any_page pages (AbortEnd txn) not = tt

-- a record more, or none after an error
pub one_more : {T E : Type 0} (result : Result T E) (r : Record) (old new : Log) → (IsOfPage r → ⊥) → OnOk result (seen_of new ≡ with_records (seen_of old) (r ∷ [])) → OnErr result (seen_of new ≡ seen_of old)
    → (rs : List Record) × IsLonger old new rs × ((q : ℕ) → has_image (carried rs) q ≡ false) × ((q : ℕ) → some_record (is_of_page q) rs ≡ false)
one_more (Ok x) r old new not ok err = (r ∷ [], ok, no_image r not, no_page r not)
one_more (Err e) r old new not ok err = ([], none_more old new err, (λ q. refl), λ q. refl)
