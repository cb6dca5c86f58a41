-- What a change of one page of records is to the file.
use Rattle.std.proofs.Common.{◌≡◌, ◌≢◌, inl, inr, ⊎_elim, ℕ, ◌<◌, ◌≤◌, List, length, get_or, Option, Some, None, refl, sym, ◌∙◌, ap, ap₂, subst, arith}
use Rattle.std.proofs.lemmas.Bool.{cases_eq, cases_lt}
use Rattle.std.proofs.lemmas.Bool.Decides.{nat_tests}
use Rattle.mt_slots.specs.Page.{Row, slot, size, offset, row_at, count, live_slots, IsShaped, Fits, Sets, Inserted}
use Rattle.mt_file.proofs.Slots.{free_before, none_live}
use Rattle.mt_slots.proofs.Pages.{slot_empty, slot_live, slot_past}
use Rattle.mt_space.specs.Changes.{PageBytes, replaced}
use Rattle.mt_space.proofs.Changing.{replaced_here, replaced_other}
use Rattle.mt_space.specs.Kinds.{kind}
use Rattle.mt_file.specs.File.{record_in, IsFile, AreWithin, Puts, Touches, Adds, Drops, Stays}

pub record_records : (pages : PageBytes) (p s : ℕ) → kind pages p ≡ 3 → record_in pages p s ≡ slot (pages p) s
unfolding record_in
record_records pages p s is = grind (arith, nat_tests)

pub record_none : (pages : PageBytes) (p s : ℕ) → kind pages p ≢ 3 → record_in pages p s ≡ None
unfolding record_in
record_none pages p s ne = grind (arith, nat_tests)

-- a name that holds a record names a page of records
pub record_kind : (pages : PageBytes) (p s : ℕ) (r : Row) → record_in pages p s ≡ Some r → kind pages p ≡ 3
record_kind pages p s r is = ⊎_elim
    (λ (yes : kind pages p ≡ 3). yes)
    (λ (no_ : kind pages p ≢ 3). let e : None ≡ Some r = sym (record_none pages p s no_) ∙ is in cc)
    (cases_eq (kind pages p) 3)

-- the map is no page of records
pub not_the_map : (pages : PageBytes) (p : ℕ) → IsFile pages → kind pages p ≢ 1 → p ≢ 0
not_the_map pages p file ne = λ e. ne (ap (kind pages) e ∙ file.fixed)

pub records_not_map : (pages : PageBytes) (p : ℕ) → IsFile pages → kind pages p ≡ 3 → p ≢ 0
records_not_map pages p file is = not_the_map pages p file (λ e. absurd (omega arith))

-- ---- a page of records takes another form

pub kind_kept : (pages : PageBytes) (p : ℕ) (page : List ℕ) → p ≢ 0 → (q : ℕ) → kind (replaced p page pages) q ≡ kind pages q
kind_kept pages p page ne q = ap (λ (m : List ℕ). get_or m q 0) (replaced_other p 0 page pages (λ e. ne (sym e)))

pub put_one : (pages : PageBytes) (p s n : ℕ) (x : Option Row) (page : List ℕ) → p ≢ 0 → kind pages p ≡ 3 → Sets (pages p) page s x n → Puts pages (replaced p page pages) p s x
put_one pages p s n x page zero is sets =
    let kinds = kind_kept pages p page zero in
    let here = replaced_here p p page pages refl in
    record {
      here = record_records (replaced p page pages) p s (kinds p ∙ is) ∙ ap (λ (m : List ℕ). slot m s) here ∙ sets.here;
      elsewhere = λ q t other. ⊎_elim
          (λ (e : q ≡ p).
          let ne : t ≢ s = ⊎_elim (λ (no_ : q ≢ p). absurd (no_ e)) (λ (ok : t ≢ s). ok) other in
          let k : kind pages q ≡ 3 = ap (kind pages) e ∙ is in
          record_records (replaced p page pages) q t (kinds q ∙ k) ∙ ap (λ (m : List ℕ). slot m t) (replaced_here p q page pages e) ∙ sets.others t ne
          ∙ ap (λ (m : ℕ). slot (pages m) t) (sym e) ∙ sym (record_records pages q t k))
          (λ (ne : q ≢ p). ⊎_elim
          (λ (k : kind pages q ≡ 3). record_records (replaced p page pages) q t (kinds q ∙ k) ∙ ap (λ (m : List ℕ). slot m t) (replaced_other p q page pages ne) ∙ sym (record_records pages q t k))
          (λ (k : kind pages q ≢ 3). record_none (replaced p page pages) q t (λ e. k (sym (kinds q) ∙ e)) ∙ sym (record_none pages q t k))
          (cases_eq (kind pages q) 3))
          (cases_eq q p);
    }

pub file_one : (pages : PageBytes) (p : ℕ) (page : List ℕ) → p ≢ 0 → IsFile pages → IsShaped page → IsFile (replaced p page pages)
file_one pages p page zero file shaped =
    let kinds = kind_kept pages p page zero in
    record {
      whole = ap length (replaced_other p 0 page pages (λ e. zero (sym e))) ∙ file.whole;
      fixed = kinds 0 ∙ file.fixed;
      each = λ q k. ⊎_elim
          (λ (e : q ≡ p). subst IsShaped (sym (replaced_here p q page pages e)) shaped)
          (λ (ne : q ≢ p). subst IsShaped (sym (replaced_other p q page pages ne)) (file.each q (sym (kinds q) ∙ k)))
          (cases_eq q p);
    }

pub touches_one : (pages : PageBytes) (p : ℕ) (page : List ℕ) → p ≢ 0 → Touches pages (replaced p page pages) p
touches_one pages p page zero = record {
  kinds = λ q ne. kind_kept pages p page zero q;
  others = λ q ne other. replaced_other p q page pages ne;
}

-- ---- records of a schema

pub within_put : (old new : PageBytes) (p s relations longest : ℕ) (row : Row) → Puts old new p s (Some row) → AreWithin relations longest old → Fits relations longest row → AreWithin relations longest new
within_put old new p s relations longest row puts all fits = λ q t r is. ⊎_elim
    (λ (e : q ≡ p). ⊎_elim
    (λ (f : t ≡ s).
    let same : Some row ≡ Some r = sym puts.here ∙ ap₂ (record_in new) (sym e) (sym f) ∙ is in
    let which : row ≡ r = cc in
    subst (Fits relations longest) which fits)
    (λ (ne : t ≢ s). all q t r (sym (puts.elsewhere q t (inr ne)) ∙ is))
    (cases_eq t s))
    (λ (ne : q ≢ p). all q t r (sym (puts.elsewhere q t (inl ne)) ∙ is))
    (cases_eq q p)

pub within_drop : (old new : PageBytes) (p s relations longest : ℕ) → Puts old new p s None → AreWithin relations longest old → AreWithin relations longest new
within_drop old new p s relations longest puts all = λ q t r is. ⊎_elim
    (λ (e : q ≡ p). ⊎_elim
    (λ (f : t ≡ s).
    let same : None ≡ Some r = sym puts.here ∙ ap₂ (record_in new) (sym e) (sym f) ∙ is in
    cc)
    (λ (ne : t ≢ s). all q t r (sym (puts.elsewhere q t (inr ne)) ∙ is))
    (cases_eq t s))
    (λ (ne : q ≢ p). all q t r (sym (puts.elsewhere q t (inl ne)) ∙ is))
    (cases_eq q p)

-- ---- one record more

-- into a page that has room
pub adds_into : (pages : PageBytes) (p s : ℕ) (row : Row) (page : List ℕ) → IsFile pages → kind pages p ≡ 3 → IsShaped page → Inserted (pages p) page s row → Adds pages (replaced p page pages) p s row
adds_into pages p s row page file is shaped did =
    let zero = records_not_map pages p file is in
    let sets = did.sets.2 in
    let puts = put_one pages p s did.sets.0 (Some row) page zero is sets in
    record {
      free = record_records pages p s is ∙ free_before (pages p) s did.sets.0 did.sets.1;
      puts = puts;
      file = file_one pages p page zero file shaped;
      within = λ relations longest all fits. within_put pages (replaced p page pages) p s relations longest row puts all fits;
      own = kind_kept pages p page zero p ∙ is;
      touches = touches_one pages p page zero;
    }

-- a free page has become a page of records
pub record Taken (old new : PageBytes) (p : ℕ) (page : List ℕ) : Type 0 where
  pub whole : length (new 0) ≡ 4096
  pub own : kind new p ≡ 3
  pub kinds : (q : ℕ) → q ≢ p → kind new q ≡ kind old q
  pub here : new p ≡ page
  pub others : (q : ℕ) → q ≢ p → q ≢ 0 → new q ≡ old q

pub taken : (pages : PageBytes) (p : ℕ) (map page : List ℕ) → p ≢ 0 → length map ≡ 4096 → get_or map p 0 ≡ 3 → ((q : ℕ) → q ≢ p → get_or map q 0 ≡ kind pages q)
    → Taken pages (replaced p page (replaced 0 map pages)) p page
taken pages p map page ne long own rest =
    let zero : replaced p page (replaced 0 map pages) 0 ≡ map = replaced_other p 0 page (replaced 0 map pages) (λ e. ne (sym e)) ∙ replaced_here 0 0 map pages refl in
    record {
      whole = ap length zero ∙ long;
      own = ap (λ (m : List ℕ). get_or m p 0) zero ∙ own;
      kinds = λ q other. ap (λ (m : List ℕ). get_or m q 0) zero ∙ rest q other;
      here = replaced_here p p page (replaced 0 map pages) refl;
      others = λ q a b. replaced_other p q page (replaced 0 map pages) a ∙ replaced_other 0 q map pages b;
    }

put_new : (pages new : PageBytes) (p s : ℕ) (r : Row) (page : List ℕ) → IsFile pages → kind pages p ≢ 3 → Taken pages new p page
    → slot page s ≡ Some r → ((t : ℕ) → t ≢ s → slot page t ≡ None) → Puts pages new p s (Some r)
put_new pages new p s r page file free taken mine rest =
    let was : (t : ℕ) → record_in pages p t ≡ None = λ t. record_none pages p t free in
    record {
      here = record_records new p s taken.own ∙ ap (λ (m : List ℕ). slot m s) taken.here ∙ mine;
      elsewhere = λ q t other. ⊎_elim
          (λ (e : q ≡ p).
          let ne : t ≢ s = ⊎_elim (λ (no_ : q ≢ p). absurd (no_ e)) (λ (ok : t ≢ s). ok) other in
          ap (λ (m : ℕ). record_in new m t) e ∙ record_records new p t taken.own ∙ ap (λ (m : List ℕ). slot m t) taken.here ∙ rest t ne
          ∙ sym (ap (λ (m : ℕ). record_in pages m t) e ∙ was t))
          (λ (ne : q ≢ p). ⊎_elim
          (λ (k : kind pages q ≡ 3).
          record_records new q t (taken.kinds q ne ∙ k) ∙ ap (λ (m : List ℕ). slot m t) (taken.others q ne (records_not_map pages q file k)) ∙ sym (record_records pages q t k))
          (λ (k : kind pages q ≢ 3). record_none new q t (λ e. k (sym (taken.kinds q ne) ∙ e)) ∙ sym (record_none pages q t k))
          (cases_eq (kind pages q) 3))
          (cases_eq q p);
    }

file_new : (pages new : PageBytes) (p : ℕ) (page : List ℕ) → IsFile pages → p ≢ 0 → Taken pages new p page → IsShaped page → IsFile new
file_new pages new p page file map taken shaped = record {
  whole = taken.whole;
  fixed = taken.kinds 0 (λ e. map (sym e)) ∙ file.fixed;
  each = λ q k. ⊎_elim
      (λ (e : q ≡ p). subst IsShaped (sym (ap new e ∙ taken.here)) shaped)
      (λ (ne : q ≢ p).
      let k_old = sym (taken.kinds q ne) ∙ k in
      subst IsShaped (sym (taken.others q ne (records_not_map pages q file k_old))) (file.each q k_old))
      (cases_eq q p);
}

-- into a page that is taken for it
pub adds_new : (pages new : PageBytes) (p s : ℕ) (row : Row) (page : List ℕ) → IsFile pages → p ≢ 0 → kind pages p ≢ 3 → Taken pages new p page → IsShaped page
    → slot page s ≡ Some row → ((t : ℕ) → t ≢ s → slot page t ≡ None) → Adds pages new p s row
adds_new pages new p s row page file map free is shaped mine rest =
    let puts = put_new pages new p s row page file free is mine rest in
    record {
      free = record_none pages p s free;
      puts = puts;
      file = file_new pages new p page file map is shaped;
      within = λ relations longest all fits. within_put pages new p s relations longest row puts all fits;
      own = is.own;
      touches = record { kinds = is.kinds; others = is.others };
    }

-- ---- one record less

-- from a page that holds another
pub drops_from : (pages : PageBytes) (p s i n : ℕ) (page : List ℕ) → IsFile pages → kind pages p ≡ 3 → IsShaped page → Sets (pages p) page s None n
    → i < count page → size page i ≢ 0 → Drops pages (replaced p page pages) p s
drops_from pages p s i n page file is shaped sets within live =
    let zero = records_not_map pages p file is in
    let puts = put_one pages p s n None page zero is sets in
    let there : slot page i ≡ Some (row_at page (offset page i)) = slot_live page i within live in
    let apart : i ≢ s = λ e. let both : None ≡ Some (row_at page (offset page i)) = sym sets.here ∙ ap (slot page) (sym e) ∙ there in cc in
    record {
      puts = puts;
      file = file_one pages p page zero file shaped;
      within = λ relations longest all. within_drop pages (replaced p page pages) p s relations longest puts all;
      last = λ all.
          let nothing : None ≡ Some (row_at page (offset page i)) = sym (all i apart) ∙ record_records pages p i is ∙ sym (sets.others i apart) ∙ there in
          cc;
      more = λ t ne some. kind_kept pages p page zero p ∙ is;
      touches = touches_one pages p page zero;
    }

-- the last of its page, which is given back: the map alone changes
pub drops_last : (pages : PageBytes) (p s : ℕ) (map : List ℕ) → IsFile pages → kind pages p ≡ 3 → length map ≡ 4096 → get_or map p 0 ≡ 0 → ((q : ℕ) → q ≢ p → get_or map q 0 ≡ kind pages q)
    → ((t : ℕ) → t ≢ s → slot (pages p) t ≡ None) → Drops pages (replaced 0 map pages) p s
drops_last pages p s map file is long own rest bare =
    let zero = replaced_here 0 0 map pages refl in
    let kind_p : kind (replaced 0 map pages) p ≡ 0 = ap (λ (m : List ℕ). get_or m p 0) zero ∙ own in
    let kinds : (q : ℕ) → q ≢ p → kind (replaced 0 map pages) q ≡ kind pages q = λ q ne. ap (λ (m : List ℕ). get_or m q 0) zero ∙ rest q ne in
    let gone : (t : ℕ) → record_in (replaced 0 map pages) p t ≡ None = λ t. record_none (replaced 0 map pages) p t (λ e. absurd (omega arith)) in
    let puts : Puts pages (replaced 0 map pages) p s None = record {
      here = gone s;
      elsewhere = λ q t other. ⊎_elim
          (λ (e : q ≡ p).
          let ne : t ≢ s = ⊎_elim (λ (no_ : q ≢ p). absurd (no_ e)) (λ (ok : t ≢ s). ok) other in
          ap (λ (m : ℕ). record_in (replaced 0 map pages) m t) e ∙ gone t
          ∙ sym (ap (λ (m : ℕ). record_in pages m t) e ∙ record_records pages p t is ∙ bare t ne))
          (λ (ne : q ≢ p). ⊎_elim
          (λ (k : kind pages q ≡ 3).
          record_records (replaced 0 map pages) q t (kinds q ne ∙ k) ∙ ap (λ (m : List ℕ). slot m t) (replaced_other 0 q map pages (records_not_map pages q file k)) ∙ sym (record_records pages q t k))
          (λ (k : kind pages q ≢ 3). record_none (replaced 0 map pages) q t (λ e. k (sym (kinds q ne) ∙ e)) ∙ sym (record_none pages q t k))
          (cases_eq (kind pages q) 3))
          (cases_eq q p);
    } in
    record {
      puts = puts;
      file = record {
        whole = ap length zero ∙ long;
        fixed = kinds 0 (λ e. records_not_map pages p file is (sym e)) ∙ file.fixed;
        each = λ q k. ⊎_elim
            (λ (e : q ≡ p). let same = ap (kind (replaced 0 map pages)) e in absurd (omega arith))
            (λ (ne : q ≢ p).
            let k_old = sym (kinds q ne) ∙ k in
            subst IsShaped (sym (replaced_other 0 q map pages (records_not_map pages q file k_old))) (file.each q k_old))
            (cases_eq q p);
      };
      within = λ relations longest all. within_drop pages (replaced 0 map pages) p s relations longest puts all;
      last = λ all. kind_p;
      more = λ t ne some. absurd (some (record_records pages p t is ∙ bare t ne));
      touches = record { kinds = kinds; others = λ q ne other. replaced_other 0 q map pages other };
    }

-- after a removal that leaves no record, the page held nothing else
pub was_alone : (old new : List ℕ) (s n : ℕ) → Sets old new s None n → live_slots new (count new) ≡ 0 → (t : ℕ) → t ≢ s → slot old t ≡ None
was_alone old new s n sets none t ne = sym (sets.others t ne) ∙ ⊎_elim (λ (lt : t < count new). slot_empty new t (none_live new (count new) t none lt)) (λ (le : count new ≤ t). slot_past new t le) (cases_lt t (count new))

-- ---- one record for another, in its place

pub stays_in : (pages : PageBytes) (p s n : ℕ) (row : Row) (page : List ℕ) → IsFile pages → kind pages p ≡ 3 → IsShaped page → Sets (pages p) page s (Some row) n → Stays pages (replaced p page pages) p s row
stays_in pages p s n row page file is shaped sets =
    let zero = records_not_map pages p file is in
    let puts = put_one pages p s n (Some row) page zero is sets in
    record {
      puts = puts;
      file = file_one pages p page zero file shaped;
      within = λ relations longest all fits. within_put pages (replaced p page pages) p s relations longest row puts all fits;
      kinds = kind_kept pages p page zero;
      others = λ q ne. replaced_other p q page pages ne;
    }
