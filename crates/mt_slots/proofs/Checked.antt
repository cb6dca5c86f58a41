-- What a reading of all slots says of a page.
use Rattle.std.proofs.Common.{◌≡◌, ◌≢◌, ⊎_elim, ℕ, ◌+◌, ◌*◌, ◌<◌, ◌≤◌, List, Option, Some, None, IsSome, length, get_or, sym, ◌∙◌, ap, subst, arith}
use Rattle.std.proofs.lemmas.Bool.{cases_lt, cases_eq}
use Rattle.std.proofs.lemmas.Option.{none-some}
use Rattle.std.specs.Option.{option_map_or}
use Rattle.mt_base.specs.Ranges.{u16_at}
use Rattle.mt_base.proofs.Places.{part_length}
use Rattle.mt_slots.specs.Page.{Row, count, offset, size, row_size, row_at, row_length, room_of, slot, live_bytes, IsFree, IsShaped, IsPage, Fits, Sets}
use Rattle.mt_slots.specs.Parts.{IsGood}
use Rattle.mt_slots.proofs.Pages.{slot_live, slot_empty, slot_past}

-- a slot that holds a record
pub record Holds (page : List ℕ) (i : ℕ) (r : Row) : Type 0 where
  pub there : i < count page
  pub live : size page i ≢ 0
  pub row : row_at page (offset page i) ≡ r

pub holds : (page : List ℕ) (i : ℕ) (r : Row) → slot page i ≡ Some r → Holds page i r
holds page i r is = ⊎_elim
    (λ (lt : i < count page). ⊎_elim
    (λ (none : size page i ≡ 0). absurd (none-some r (sym (slot_empty page i none) ∙ is)))
    (λ (live : size page i ≢ 0). record { there = lt; live = live; row = ap (λ (o : Option Row). option_map_or (λ (x : Row). x) o r) (sym (slot_live page i lt live) ∙ is) })
    (cases_eq (size page i) 0))
    (λ (le : count page ≤ i). absurd (none-some r (sym (slot_past page i le) ∙ is)))
    (cases_lt i (count page))

pub good_page : (relations longest : ℕ) (page : List ℕ) → length page ≡ 4096 → ((i : ℕ) → 2 ≤ i → i < 8 → get_or page i 0 ≡ 0) → 8 + 4 * count page ≤ 4096
    → ((i : ℕ) → i < count page → IsGood relations longest page (8 + 4 * count page) i)
    → ((i : ℕ) → i < count page → IsFree page i (offset page i) (size page i))
    → 8 + 4 * count page + live_bytes page (count page) ≤ 4096 → IsPage relations longest page
good_page relations longest page whole zeros table good apart room = record {
  shaped = record { length = whole; zeros = zeros; table = table; each = λ i lt. (good i lt).shaped; apart = apart; room = room };
  within = λ i r is. let h = holds page i r is in subst (Fits relations longest) h.row ((good i h.there).within h.live);
}

pub page_good : (relations longest : ℕ) (page : List ℕ) → IsPage relations longest page → (i : ℕ) → i < count page → IsGood relations longest page (8 + 4 * count page) i
page_good relations longest page is i lt = record {
  shaped = is.shaped.each i lt;
  within = λ live. is.within i (row_at page (offset page i)) (slot_live page i lt live);
}

-- ---- a slot that holds a record, by its bytes

is_none : (x : Option Row) → x ≡ None → IsSome x → ⊥
is_none x none is = grind (arith, none-some)

pub live_slot : (page : List ℕ) (i : ℕ) → IsSome (slot page i) → (i < count page) × (size page i ≢ 0)
live_slot page i is = ⊎_elim
    (λ (lt : i < count page). (lt, λ none. is_none (slot page i) (slot_empty page i none) is))
    (λ (le : count page ≤ i). absurd (is_none (slot page i) (slot_past page i le) is))
    (cases_lt i (count page))

pub held_size : (page : List ℕ) (i : ℕ) (r : Row) → IsShaped page → slot page i ≡ Some r → size page i ≡ row_length r
unfolding row_size row_at
held_size page i r shaped is =
    let h = holds page i r is in
    let row = (shaped.each i h.there).row h.live in
    let at = offset page i in
    let whole = row.whole in
    let inside = row.inside in
    let long = shaped.length in
    let key = (part_length page (at + 4) (get_or page (at + 1) 0) (omega arith)).0 in
    let value = (part_length page (at + 4 + get_or page (at + 1) 0) (u16_at page (at + 2)) (omega arith)).0 in
    let same = ap row_length h.row in
    omega arith

pub sets_row : (old new : List ℕ) (i j n : ℕ) (v : List ℕ) (r : Row) → i ≡ j → slot old j ≡ Some r
    → Sets old new i (Some (record (row_at old (offset old i)) { value = v })) n → Sets old new j (Some (record r { value = v })) n
sets_row old new i j n v r same is sets =
    let h = holds old i r (ap (slot old) same ∙ is) in
    subst (λ (k : ℕ). Sets old new k (Some (record r { value = v })) n) same
    (subst (λ (x : Row). Sets old new i (Some (record x { value = v })) n) h.row sets)

-- what is free once a record is gone
pub room_more : (old new : List ℕ) (i : ℕ) (r : Row) → IsShaped old → slot old i ≡ Some r → count new ≡ count old
    → live_bytes new (count new) + size old i ≡ live_bytes old (count old) → room_of new ≡ room_of old + row_length r
unfolding room_of
room_more old new i r shaped is counted freed =
    let bytes = held_size old i r shaped is in
    let fits = shaped.room in
    omega arith

-- a new value that is too long for the room and the old one's bytes
pub too_long : (page : List ℕ) (i j : ℕ) (v : List ℕ) (r : Row) → IsShaped page → i ≡ j → slot page j ≡ Some r
    → 4096 + size page i < 8 + 4 * count page + live_bytes page (count page) + (4 + length (row_at page (offset page i)).key + length v)
    → room_of page + row_length r < row_length (record r { value = v })
unfolding room_of
too_long page i j v r shaped same is more =
    let here = ap (slot page) same ∙ is in
    let bytes = held_size page i r shaped here in
    let key = ap (λ (x : Row). length x.key) (holds page i r here).row in
    let fits = shaped.room in
    omega arith
