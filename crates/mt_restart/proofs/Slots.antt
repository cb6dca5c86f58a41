-- What a write of a marked page's slot leaves.
use Rattle.std.proofs.Common.{◌≡◌, ◌≢◌, ◌<◌, ◌+◌, ◌*◌, ⊎_elim, ℕ, List, [], Bool, true, false, length, get_or, refl, sym, ◌∙◌, ap, subst, arith}
use Rattle.std.proofs.lemmas.Bool.{cases_eq}
use Rattle.mt_base.proofs.Places.{part_has, torn_refl, torn_trans, torn_within}
use Rattle.mt_disk.specs.Disk.{Follows, Torn, Wrote}
use Rattle.mt_pool.specs.Images.{slot}
use Rattle.mt_pool.proofs.Safe.{cut_torn, other_slot}
use Rattle.mt_restart.specs.Turned.{OnlySlots}

-- ---- only slots of marked pages change

pub slots_refl : (marked : List Bool) (c : List ℕ) → OnlySlots marked c c
slots_refl marked c = record { within = torn_refl 8192 (4096 * length marked) c; others = λ p lt unmarked. refl }

pub slots_trans : (marked : List Bool) (a b c : List ℕ) → OnlySlots marked a b → OnlySlots marked b c → OnlySlots marked a c
slots_trans marked a b c first second = record {
  within = torn_trans 8192 (4096 * length marked) a b c first.within second.within;
  others = λ p lt unmarked. second.others p lt unmarked ∙ first.others p lt unmarked;
}

-- the slot of a marked page is torn
pub slots_one : (marked : List Bool) (n size : ℕ) (d c : List ℕ) → n < length marked → get_or marked n false ≡ true → size ≡ 4096 → Torn (8192 + 4096 * n) size d c → OnlySlots marked d c
slots_one marked n size d c inside is whole part =
    let torn : Torn (8192 + 4096 * n) 4096 d c = subst (λ (m : ℕ). Torn (8192 + 4096 * n) m d c) whole part in
    record {
      within = torn_within (8192 + 4096 * n) 4096 8192 (4096 * length marked) d c torn (omega arith) (omega (arith, inside));
      others = λ p lt unmarked.
          let differ : p ≢ n = λ same. absurd (let both = ap (λ (x : ℕ). get_or marked x false) same in cc) in
          cut_torn (8192 + 4096 * n) 4096 (8192 + 4096 * p) 4096 d c torn (other_slot 8192 p n differ);
    }

-- no call
pub slots_stay : (marked : List Bool) (may : List ℕ → Type 0) → Follows (OnlySlots marked) may may
slots_stay marked may c left = (c, left, slots_refl marked c)

-- the slot of a marked page is written after others
pub slots_follow : (marked : List Bool) (n size : ℕ) (may may2 may3 : List ℕ → Type 0) → n < length marked → get_or marked n false ≡ true → size ≡ 4096
    → Follows (OnlySlots marked) may may2 → Follows (Torn (8192 + 4096 * n) size) may2 may3 → Follows (OnlySlots marked) may may3
slots_follow marked n size may may2 may3 inside is whole before call c left =
    let last : (d : List ℕ) × may2 d × Torn (8192 + 4096 * n) size d c = call c left in
    let first : (d : List ℕ) × may d × OnlySlots marked d last.0 = before last.0 last.1 in
    (first.0, first.1, slots_trans marked first.0 last.0 c first.2 (slots_one marked n size last.0 c inside is whole last.2))

-- ---- the pages in them

-- one more is written
pub slots_more : (marked : List Bool) (pages : List (List ℕ)) (n : ℕ) (page old new : List ℕ) → Wrote (8192 + 4096 * n) page old new → length page ≡ 4096 → get_or pages n [] ≡ page
    → ((p : ℕ) → p < n → get_or marked p false ≡ true → slot 8192 old p ≡ get_or pages p []) → (p : ℕ) → p < n + 1 → get_or marked p false ≡ true → slot 8192 new p ≡ get_or pages p []
slots_more marked pages n page old new wrote size is before p lt has = ⊎_elim
    (λ (same : p ≡ n). subst (λ (q : ℕ). slot 8192 new q ≡ get_or pages q []) (sym same) (part_has new page (8192 + 4096 * n) 4096 wrote.has (sym size) ∙ sym is))
    (λ (other : p ≢ n). cut_torn (8192 + 4096 * n) 4096 (8192 + 4096 * p) 4096 old new (subst (λ (m : ℕ). Torn (8192 + 4096 * n) m old new) size wrote.rest) (other_slot 8192 p n other) ∙ before p (omega arith) has)
    (cases_eq p n)

-- one more has no mark
pub slots_passed : (marked : List Bool) (pages : List (List ℕ)) (n : ℕ) (c : List ℕ) → get_or marked n false ≡ false
    → ((p : ℕ) → p < n → get_or marked p false ≡ true → slot 8192 c p ≡ get_or pages p []) → (p : ℕ) → p < n + 1 → get_or marked p false ≡ true → slot 8192 c p ≡ get_or pages p []
slots_passed marked pages n c unmarked before p lt has = ⊎_elim
    (λ (same : p ≡ n). absurd (let both = ap (λ (x : ℕ). get_or marked x false) same in cc))
    (λ (other : p ≢ n). before p (omega arith) has)
    (cases_eq p n)
