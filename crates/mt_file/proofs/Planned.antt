-- Pages that a plan sees, and what its changes make of them.
use Rattle.std.proofs.Common.{◌≡◌, ◌≢◌, inl, inr, ⊎_elim, ℕ, ◌<◌, ◌≤◌, ◌==◌, List, [], length, get_or, true, false, Option, Some, None, refl, sym, ◌∙◌, ap, subst, arith}
use Rattle.std.proofs.lemmas.Bool.{cases_lt}
use Rattle.std.proofs.lemmas.Bool.Decides.{nat_tests}
use Rattle.std.proofs.lemmas.List.{get_or_past}
use Rattle.mt_space.specs.declared.changes.PageChange.{PageChange}
use Rattle.mt_space.specs.Changes.{PageBytes, Agrees, replaced, after, IsUntouched}
use Rattle.mt_space.proofs.Changing.{replaced_other, after_untouched}
use Rattle.mt_slots.specs.Page.{Row, slot, count, live_slots, IsShaped, Sets, Inserted, IsFull, row_length}
use Rattle.mt_space.specs.Kinds.{kind}
use Rattle.mt_space.specs.Rooms.{mapped, IsFirstFree}
use Rattle.mt_space.proofs.Maps.{mapped_at, mapped_past, mapped_long}
use Rattle.mt_file.specs.File.{record_in, IsFile, Adds, Drops}
use Rattle.mt_file.specs.Rooms.{fits_of}
use Rattle.mt_file.specs.Plans.{IsReady}
use Rattle.mt_file.proofs.Slots.{full_fits, took_fits, held_there, some_live}
use Rattle.mt_file.proofs.Filed.{record_kind, record_records, adds_into, adds_new, taken, not_the_map, drops_from, drops_last, was_alone}

-- ---- a put into a named page

pub named_seen : (at_hand : ℕ → Option (List ℕ)) (pages : PageBytes) (p : ℕ) (old : List ℕ) → IsReady at_hand (Some p) pages → at_hand p ≡ Some old → pages p ≡ old
named_seen at_hand pages p old ready there = ready.seen p old (inr refl) there

pub named_shaped : (at_hand : ℕ → Option (List ℕ)) (pages : PageBytes) (p : ℕ) (old : List ℕ) → IsReady at_hand (Some p) pages → at_hand p ≡ Some old → IsShaped old
named_shaped at_hand pages p old ready there = subst IsShaped (named_seen at_hand pages p old ready there) (ready.file.each p (ready.named p refl))

pub named_full : (at_hand : ℕ → Option (List ℕ)) (pages : PageBytes) (p : ℕ) (old : List ℕ) (row : Row) → IsReady at_hand (Some p) pages → at_hand p ≡ Some old → IsFull old (row_length row) → fits_of (pages p) < row_length row
named_full at_hand pages p old row ready there full =
    let shaped = named_shaped at_hand pages p old ready there in
    let seen = ap fits_of (named_seen at_hand pages p old ready there) in
    let over = full_fits old (row_length row) shaped (omega arith) full in
    omega arith

pub named_adds : (at_hand : ℕ → Option (List ℕ)) (pages next : PageBytes) (p s : ℕ) (old new : List ℕ) (row : Row) → IsReady at_hand (Some p) pages → at_hand p ≡ Some old
    → IsShaped new → Inserted old new s row → next ≡ replaced p new pages → Adds pages next p s row
named_adds at_hand pages next p s old new row ready there shaped did made =
    let seen = named_seen at_hand pages p old ready there in
    let did_here : Inserted (pages p) new s row = subst (λ (m : List ℕ). Inserted m new s row) (sym seen) did in
    subst (λ (f : PageBytes). Adds pages f p s row) (sym made) (adds_into pages p s row new ready.file (ready.named p refl) shaped did_here)

pub named_roomy : (at_hand : ℕ → Option (List ℕ)) (pages : PageBytes) (p s : ℕ) (old new : List ℕ) (row : Row) → IsReady at_hand (Some p) pages → at_hand p ≡ Some old
    → IsShaped new → Inserted old new s row → row_length row ≤ fits_of (pages p)
named_roomy at_hand pages p s old new row ready there shaped did =
    let seen = ap fits_of (named_seen at_hand pages p old ready there) in
    let fits = took_fits old new s row shaped did in
    omega arith

-- a page that no change names so far is as it was
pub untouched_seen : (before : List PageChange) (pages : PageBytes) (p : ℕ) (old : List ℕ) → IsUntouched before p → after before pages p ≡ old → pages p ≡ old
untouched_seen before pages p old none seen = sym (after_untouched before pages p none) ∙ seen

-- ---- a put into a new page

-- the first free page is free
pub first_kind : (pages : PageBytes) (total p : ℕ) → length (pages 0) ≡ 4096 → IsFirstFree (mapped (pages 0) total) p → (kind pages p ≡ 0) × (p < 4096) × (p < total)
first_kind pages total p whole first = ⊎_elim
    (λ (lt : p < total). ⊎_elim
    (λ (within : p < length (pages 0)).
    let flag : (get_or (pages 0) p 0 == 0) ≡ true = sym (mapped_at (pages 0) total p lt within) ∙ first.free in
    (grind (arith, nat_tests), omega arith, lt))
    (λ (past : length (pages 0) ≤ p). let not_ : false ≡ true = sym (mapped_long (pages 0) total p past) ∙ first.free in cc)
    (cases_lt p (length (pages 0))))
    (λ (past : total ≤ p). let not_ : false ≡ true = sym (mapped_past (pages 0) total p past) ∙ first.free in cc)
    (cases_lt p total)

pub free_not_map : (pages : PageBytes) (p : ℕ) → IsFile pages → kind pages p ≡ 0 → p ≢ 0
free_not_map pages p file free = not_the_map pages p file (λ e. absurd (omega arith))

pub map_seen : (at_hand : ℕ → Option (List ℕ)) (room : Option ℕ) (pages : PageBytes) (map : List ℕ) → IsReady at_hand room pages → at_hand 0 ≡ Some map → pages 0 ≡ map
map_seen at_hand room pages map ready there = ready.seen 0 map (inl (λ e. let fixed = ready.file.fixed in absurd (omega arith))) there

pub first_seen : (pages : PageBytes) (total p : ℕ) (map : List ℕ) → pages 0 ≡ map → IsFirstFree (mapped map total) p → IsFirstFree (mapped (pages 0) total) p
first_seen pages total p map is first = subst (λ (m : List ℕ). IsFirstFree (mapped m total) p) (sym is) first

pub new_adds : (at_hand : ℕ → Option (List ℕ)) (pages next : PageBytes) (total p s : ℕ) (map new_map new : List ℕ) (row : Row) → IsReady at_hand None pages → at_hand 0 ≡ Some map
    → IsFirstFree (mapped map total) p → length new_map ≡ 4096 → get_or new_map p 0 ≡ 3 → ((q : ℕ) → q ≢ p → get_or new_map q 0 ≡ get_or map q 0)
    → IsShaped new → slot new s ≡ Some row → ((t : ℕ) → t ≢ s → slot new t ≡ None)
    → next ≡ replaced p new (replaced 0 new_map pages) → Adds pages next p s row
new_adds at_hand pages next total p s map new_map new row ready there first long own rest shaped mine alone made =
    let seen = map_seen at_hand None pages map ready there in
    let free = (first_kind pages total p ready.file.whole (first_seen pages total p map seen first)).0 in
    let apart = free_not_map pages p ready.file free in
    let is = taken pages p new_map new apart long own (λ q ne. rest q ne ∙ ap (λ (m : List ℕ). get_or m q 0) (sym seen)) in
    subst (λ (f : PageBytes). Adds pages f p s row) (sym made)
    (adds_new pages (replaced p new (replaced 0 new_map pages)) p s row new ready.file apart (λ e. absurd (omega arith)) is shaped mine alone)

-- the free page that is taken is as it is at hand, also once the map says so
pub new_seen : (at_hand : ℕ → Option (List ℕ)) (pages mid : PageBytes) (total p : ℕ) (map new_map old : List ℕ) → IsReady at_hand None pages → at_hand 0 ≡ Some map
    → IsFirstFree (mapped map total) p → at_hand p ≡ Some old → mid ≡ replaced 0 new_map pages → (p ≢ 0) × (pages p ≡ old) × (mid p ≡ old)
new_seen at_hand pages mid total p map new_map old ready there first here made =
    let seen = map_seen at_hand None pages map ready there in
    let free = (first_kind pages total p ready.file.whole (first_seen pages total p map seen first)).0 in
    let apart = free_not_map pages p ready.file free in
    let is : pages p ≡ old = ready.seen p old (inl (λ e. absurd (omega arith))) here in
    (apart, is, ap (λ (f : PageBytes). f p) made ∙ replaced_other 0 p new_map pages apart ∙ is)

pub no_records : (at_hand : ℕ → Option (List ℕ)) (pages : PageBytes) (total p : ℕ) (map : List ℕ) → IsReady at_hand None pages → at_hand 0 ≡ Some map → IsFirstFree (mapped map total) p → kind pages p ≢ 3
no_records at_hand pages total p map ready there first =
    let seen = map_seen at_hand None pages map ready there in
    let free = (first_kind pages total p ready.file.whole (first_seen pages total p map seen first)).0 in
    λ e. absurd (omega arith)

pub map_kind : (at_hand : ℕ → Option (List ℕ)) (room : Option ℕ) (pages : PageBytes) → IsReady at_hand room pages → kind pages 0 ≢ 3
map_kind at_hand room pages ready = λ e. let fixed = ready.file.fixed in absurd (omega arith)

-- ---- a record under a name

-- what is at hand of a page that holds a record
pub record IsHeld (pages : PageBytes) (p s : ℕ) (old : List ℕ) (r : Row) : Type 0 where
  pub seen : pages p ≡ old
  pub records : kind pages p ≡ 3
  pub within : p < 4096
  pub shaped : IsShaped old
  pub live : slot old s ≡ Some r
  pub there : s < count old

kind_within : (pages : PageBytes) (p : ℕ) → IsFile pages → kind pages p ≡ 3 → p < 4096
kind_within pages p file is = ⊎_elim
    (λ (lt : p < 4096). lt)
    (λ (le : 4096 ≤ p). let whole = file.whole in let past = get_or_past (pages 0) p 0 (omega arith) in absurd (omega arith))
    (cases_lt p 4096)

pub is_held : (at_hand : ℕ → Option (List ℕ)) (pages : PageBytes) (p s : ℕ) (old : List ℕ) (r : Row) → Agrees at_hand pages → IsFile pages → record_in pages p s ≡ Some r → at_hand p ≡ Some old → IsHeld pages p s old r
is_held at_hand pages p s old r agrees file is there =
    let seen = agrees p old there in
    let records = record_kind pages p s r is in
    let live : slot old s ≡ Some r = sym (record_records pages p s records ∙ ap (λ (m : List ℕ). slot m s) seen) ∙ is in
    record {
      seen = seen;
      records = records;
      within = kind_within pages p file records;
      shaped = subst IsShaped seen (file.each p records);
      live = live;
      there = held_there old s r live;
    }

-- the first change that is noted
pub noted_first : (before next : List PageChange) (pages : PageBytes) (p : ℕ) (old new : List ℕ) → before ≡ [] → (after before pages p ≡ old → after next pages ≡ replaced p new (after before pages))
    → pages p ≡ old → after next pages ≡ replaced p new pages
noted_first before next pages p old new none made is =
    let same : after before pages ≡ pages = ap (λ (cs : List PageChange). after cs pages) none in
    made (ap (λ (f : PageBytes). f p) same ∙ is) ∙ ap (replaced p new) same

-- ---- a removal

pub drops_one : (pages next : PageBytes) (p s : ℕ) (old new : List ℕ) (r : Row) → IsFile pages → IsHeld pages p s old r → IsShaped new → Sets old new s None (count old)
    → live_slots new (count new) ≢ 0 → next ≡ replaced p new pages → Drops pages next p s
drops_one pages next p s old new r file held shaped sets some made =
    let other = some_live new (count new) some in
    let here : Sets (pages p) new s None (count old) = subst (λ (m : List ℕ). Sets m new s None (count old)) (sym held.seen) sets in
    subst (λ (f : PageBytes). Drops pages f p s) (sym made) (drops_from pages p s other.0 (count old) new file held.records shaped here other.1 other.2)

pub alone_in : (pages : PageBytes) (p s : ℕ) (old new : List ℕ) (r : Row) → IsHeld pages p s old r → Sets old new s None (count old) → live_slots new (count new) ≡ 0 → (t : ℕ) → t ≢ s → slot (pages p) t ≡ None
alone_in pages p s old new r held sets none t ne = ap (λ (m : List ℕ). slot m t) held.seen ∙ was_alone old new s (count old) sets none t ne

pub none_beside : (pages : PageBytes) (p s : ℕ) (old new : List ℕ) (r : Row) → IsHeld pages p s old r → Sets old new s None (count old) → live_slots new (count new) ≡ 0 → (t : ℕ) → t ≢ s → record_in pages p t ≡ None
none_beside pages p s old new r held sets none t ne = record_records pages p t held.records ∙ alone_in pages p s old new r held sets none t ne

pub gives_back : (pages next : PageBytes) (p s : ℕ) (map new_map old new : List ℕ) (r : Row) → IsFile pages → IsHeld pages p s old r → pages 0 ≡ map
    → length new_map ≡ 4096 → get_or new_map p 0 ≡ 0 → ((q : ℕ) → q ≢ p → get_or new_map q 0 ≡ get_or map q 0)
    → Sets old new s None (count old) → live_slots new (count new) ≡ 0 → next ≡ replaced 0 new_map pages → Drops pages next p s
gives_back pages next p s map new_map old new r file held seen long own rest sets none made =
    subst (λ (f : PageBytes). Drops pages f p s) (sym made)
    (drops_last pages p s new_map file held.records long own (λ q ne. rest q ne ∙ ap (λ (m : List ℕ). get_or m q 0) (sym seen)) (alone_in pages p s old new r held sets none))
