-- What the slots of a page hold.
use Rattle.std.proofs.Common.{◌≡◌, ◌≢◌, ⊎_elim, ℕ, zero, suc, ◌+◌, ◌<◌, ◌≤◌, List, length, drop, get_or, length-take, Some, None, refl, sym, ◌∙◌, ap, subst, arith, inl, inr}
use Rattle.std.proofs.lemmas.Bool.{cases_eq, cases_lt}
use Rattle.std.proofs.lemmas.Bool.Decides.{nat_tests}
use Rattle.mt_slots.specs.Page.{Row, slot, size, count, offset, row_at, live_slots, live_bytes, room_of, row_length, IsShaped, Opens, Inserted, IsFull}
use Rattle.mt_slots.proofs.Pages.{slot_empty, slot_live, slot_past}
use Rattle.mt_file.specs.Rooms.{fits_of}

-- a slot that may be taken holds nothing
pub free_before : (page : List ℕ) (s n : ℕ) → Opens page s n → slot page s ≡ None
free_before page s n opens = ⊎_elim (λ h. slot_empty page s h.1) (λ h. let a = h.0 in slot_past page s (omega arith)) opens

-- ---- how many slots hold a record

counts_none : (page : List ℕ) (n : ℕ) → size page n ≡ 0 → live_slots page (suc n) ≡ live_slots page n
counts_none page n is = grind (arith, nat_tests)

counts_one : (page : List ℕ) (n : ℕ) → size page n ≢ 0 → live_slots page (suc n) ≡ live_slots page n + 1
counts_one page n ne = grind (arith, nat_tests)

-- none of the first n
pub none_live : (page : List ℕ) (n i : ℕ) → live_slots page n ≡ 0 → i < n → size page i ≡ 0
none_live page zero i is lt = absurd (omega arith)
none_live page (suc n) i is lt = ⊎_elim
    (λ (e : size page n ≡ 0).
    let rest = counts_none page n e in
    ⊎_elim (λ (f : i ≡ n). ap (size page) f ∙ e) (λ (ne : i ≢ n). none_live page n i (omega arith) (omega arith)) (cases_eq i n))
    (λ (ne : size page n ≢ 0). let one = counts_one page n ne in absurd (omega arith))
    (cases_eq (size page n) 0)

-- one of them
pub some_live : (page : List ℕ) (n : ℕ) → live_slots page n ≢ 0 → (i : ℕ) × (i < n) × (size page i ≢ 0)
some_live page zero ne = absurd (ne refl)
some_live page (suc n) ne = ⊎_elim
    (λ (e : size page n ≡ 0).
    let rest = counts_none page n e in
    let found = some_live page n (λ z. ne (rest ∙ z)) in
    let lt = found.1 in
    (found.0, omega arith, found.2))
    (λ (live : size page n ≢ 0). (n, omega arith, live))
    (cases_eq (size page n) 0)

pub few_live : (page : List ℕ) (n : ℕ) → live_slots page n ≤ n
few_live page zero = omega arith
few_live page (suc n) = ⊎_elim
    (λ (e : size page n ≡ 0). let rest = counts_none page n e in let few = few_live page n in omega arith)
    (λ (ne : size page n ≢ 0). let one = counts_one page n ne in let few = few_live page n in omega arith)
    (cases_eq (size page n) 0)

-- all of them
pub all_live : (page : List ℕ) (n i : ℕ) → live_slots page n ≡ n → i < n → size page i ≡ 0 → ⊥
all_live page zero i all lt none = absurd (omega arith)
all_live page (suc n) i all lt none = ⊎_elim
    (λ (e : size page n ≡ 0). let rest = counts_none page n e in let few = few_live page n in absurd (omega arith))
    (λ (ne : size page n ≢ 0).
    let one = counts_one page n ne in
    ⊎_elim (λ (f : i ≡ n). ne (sym (ap (size page) f) ∙ none)) (λ (other : i ≢ n). all_live page n i (omega arith) (omega arith) none) (cases_eq i n))
    (cases_eq (size page n) 0)

-- not all of them
pub some_empty : (page : List ℕ) (n : ℕ) → live_slots page n ≢ n → (i : ℕ) × (i < n) × (size page i ≡ 0)
some_empty page zero ne = absurd (ne refl)
some_empty page (suc n) ne = ⊎_elim
    (λ (e : size page n ≡ 0). (n, omega arith, e))
    (λ (live : size page n ≢ 0).
    let one = counts_one page n live in
    let found = some_empty page n (λ z. ne (let all : live_slots page n ≡ n = z in omega arith)) in
    let lt = found.1 in
    (found.0, omega arith, found.2))
    (cases_eq (size page n) 0)

-- ---- what fits

-- a page that is full for a record takes none of its length
pub full_fits : (page : List ℕ) (bytes : ℕ) → IsShaped page → 0 < bytes → IsFull page bytes → fits_of page < bytes
unfolding fits_of room_of
full_fits page bytes shaped some full = ⊎_elim
    (λ (all : live_slots page (count page) ≡ count page).
    let over = full (count page) (count page + 1) (inr (refl, refl)) in
    let room = shaped.room in
    grind (arith, nat_tests))
    (λ (ne : live_slots page (count page) ≢ count page).
    let hole = some_empty page (count page) ne in
    let over = full hole.0 (count page) (inl (hole.1, hole.2, refl)) in
    let room = shaped.room in
    grind (arith, nat_tests))
    (cases_eq (live_slots page (count page)) (count page))

-- a record that was put into a page fitted
pub took_fits : (old new : List ℕ) (s : ℕ) (r : Row) → IsShaped new → Inserted old new s r → row_length r ≤ fits_of old
unfolding fits_of room_of
took_fits old new s r shaped did =
    let n = did.sets.0 in
    let counted = did.sets.2.counted in
    let live = did.live in
    let room = shaped.room in
    ⊎_elim
    (λ h.
    let hole = h.1 in
    let same = h.2 in
    ⊎_elim
    (λ (all : live_slots old (count old) ≡ count old). absurd (all_live old (count old) s all h.0 hole))
    (λ (ne : live_slots old (count old) ≢ count old). grind (arith, nat_tests))
    (cases_eq (live_slots old (count old)) (count old)))
    (λ h. let at_end = h.0 in let more = h.1 in grind (arith, nat_tests))
    did.sets.1

-- a page without slots is not full for a record
pub empty_takes : (page : List ℕ) (bytes : ℕ) → count page ≡ 0 → bytes ≤ 4084 → IsFull page bytes → ⊥
empty_takes page bytes none few full =
    let over = full 0 1 (inr (sym none, refl)) in
    let nothing : live_bytes page (count page) ≡ 0 = ap (live_bytes page) none in
    absurd (omega arith)

-- ---- a record as its page has it

pub held_there : (page : List ℕ) (s : ℕ) (r : Row) → slot page s ≡ Some r → s < count page
held_there page s r live = ⊎_elim
    (λ (lt : s < count page). lt)
    (λ (le : count page ≤ s). let not_ : None ≡ Some r = sym (slot_past page s le) ∙ live in cc)
    (cases_lt s (count page))

held_row : (page : List ℕ) (s : ℕ) (r : Row) → slot page s ≡ Some r → row_at page (offset page s) ≡ r
held_row page s r live = ⊎_elim
    (λ (e : size page s ≡ 0). let not_ : None ≡ Some r = sym (slot_empty page s e) ∙ live in cc)
    (λ (ne : size page s ≢ 0). let same : Some (row_at page (offset page s)) ≡ Some r = sym (slot_live page s (held_there page s r live) ne) ∙ live in cc)
    (cases_eq (size page s) 0)

short_key : (page : List ℕ) (at : ℕ) → ((i : ℕ) → get_or page i 0 < 256) → ((row_at page at).relation < 256) × (length (row_at page at).key < 256)
unfolding row_at
short_key page at bytes =
    let n = get_or page (at + 1) 0 in
    let small = bytes (at + 1) in
    let long = length-take n (drop (at + 4) page) in
    (bytes at, omega arith)

-- its relation and its key's length are bytes of the page
pub row_small : (page : List ℕ) (s : ℕ) (r : Row) → ((i : ℕ) → get_or page i 0 < 256) → slot page s ≡ Some r → (r.relation < 256) × (length r.key < 256)
row_small page s r bytes live = subst (λ (k : Row). (k.relation < 256) × (length k.key < 256)) (held_row page s r live) (short_key page (offset page s) bytes)
