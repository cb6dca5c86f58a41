-- A page as a list of slots.
use Rattle.std.proofs.Common.{◌≡◌, ◌≢◌, ⊎_elim, ℕ, ◌+◌, ◌<◌, List, [], ◌∷◌, ◌++◌, length, get_or, Option, Some, None, set, sym, ◌∙◌, ap, subst, arith, length-set, length-append}
use Rattle.std.proofs.lemmas.List.{ext_get_or, get_or-set_same, get_or-set_other, get_or_append_left, get_or-append_right}
use Rattle.std.proofs.lemmas.List.FromFn.{length-map-range_with_len, get_or-map-range_with_len}
use Rattle.std.proofs.lemmas.Bool.{cases_eq}
use Rattle.std.proofs.lemmas.Bool.Decides.{nat_tests}
use Rattle.mt_slots.specs.Page.{Row, slot, slots, count, Sets, Opens, put_at}

pub slots_length : (page : List ℕ) → length (slots page) ≡ count page
slots_length page = length-map-range_with_len (slot page) 0 (count page)

pub slots_at : (page : List ℕ) (j : ℕ) → j < count page → get_or (slots page) j None ≡ slot page j
slots_at page j lt = get_or-map-range_with_len (slot page) 0 (count page) j j None lt (omega arith)

-- a slot of the table is set
pub sets_list : (old new : List ℕ) (i : ℕ) (x : Option Row) → i < count old → Sets old new i x (count old) → slots new ≡ set (slots old) i x
sets_list old new i x lt sets =
    let a = slots_length old in
    let b = slots_length new in
    let c = sets.counted in
    let s = length-set (slots old) i x in
    ext_get_or None (slots new) (set (slots old) i x) (omega arith) (λ j below. slots_at new j (omega arith) ∙ ⊎_elim
    (λ (e : j ≡ i). ap (slot new) e ∙ sets.here ∙ sym (ap (λ (k : ℕ). get_or (set (slots old) i x) k None) e ∙ get_or-set_same (slots old) i x None (omega arith)))
    (λ (ne : j ≢ i). sets.others j ne ∙ sym (get_or-set_other (slots old) i j x None ne ∙ slots_at old j (omega arith)))
    (cases_eq j i))

-- one slot more
pub sets_push : (old new : List ℕ) (i : ℕ) (x : Option Row) → i ≡ count old → Sets old new i x (i + 1) → slots new ≡ slots old ++ x ∷ []
sets_push old new i x is sets =
    let a = slots_length old in
    let b = slots_length new in
    let c = sets.counted in
    let s = length-append (slots old) (x ∷ []) in
    ext_get_or None (slots new) (slots old ++ x ∷ []) (omega arith) (λ j below. slots_at new j (omega arith) ∙ ⊎_elim
    (λ (e : j ≡ i). ap (slot new) e ∙ sets.here ∙ sym (get_or-append_right (slots old) (x ∷ []) (count old) j None a (omega arith) ∙ ap (λ (k : ℕ). get_or (x ∷ []) k None) (let z : _ ≡ 0 = omega arith in z)))
    (λ (ne : j ≢ i). sets.others j ne ∙ sym (get_or_append_left (slots old) (x ∷ []) None j (omega arith) ∙ slots_at old j (omega arith)))
    (cases_eq j i))

-- a record is put into the lowest empty slot, or into a new one
put_there : (xs : List (Option Row)) (i : ℕ) (x : Option Row) → i < length xs → put_at xs i x ≡ set xs i x
put_there xs i x lt = grind (arith, nat_tests)

put_behind : (xs : List (Option Row)) (i : ℕ) (x : Option Row) → i ≡ length xs → put_at xs i x ≡ xs ++ x ∷ []
put_behind xs i x is = grind (arith, nat_tests)

pub inserted_list : (old new : List ℕ) (i n : ℕ) (r : Row) → Opens old i n → Sets old new i (Some r) n → slots new ≡ put_at (slots old) i (Some r)
inserted_list old new i n r opens sets =
    let long = slots_length old in
    ⊎_elim
    (λ h. let lt = h.0 in sets_list old new i (Some r) h.0 (subst (Sets old new i (Some r)) h.2 sets) ∙ sym (put_there (slots old) i (Some r) (omega arith)))
    (λ h. let is = h.0 in sets_push old new i (Some r) h.0 (subst (Sets old new i (Some r)) h.1 sets) ∙ sym (put_behind (slots old) i (Some r) (omega arith)))
    opens
