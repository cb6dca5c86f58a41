-- A map by its bytes.
use Rattle.std.proofs.Common.{◌≡◌, ℕ, zero, suc, ◌<◌, ◌≤◌, ◌==◌, false, List, [], ◌∷◌, length, get_or, refl, arith}
use Rattle.mt_space.specs.Rooms.{mapped}

-- what the map says of a page
pub mapped_at : (kinds : List ℕ) (pages p : ℕ) → p < pages → p < length kinds → get_or (mapped kinds pages) p false ≡ (get_or kinds p 0 == 0)
mapped_at [] pages p few lt = absurd (omega arith)
mapped_at (k ∷ kinds) zero p few lt = absurd (omega arith)
mapped_at (k ∷ kinds) (suc pages) zero few lt = refl
mapped_at (k ∷ kinds) (suc pages) (suc p) few lt = mapped_at kinds pages p (omega arith) (omega arith)

-- and past its pages
pub mapped_past : (kinds : List ℕ) (pages p : ℕ) → (pages ≤ p) → get_or (mapped kinds pages) p false ≡ false
mapped_past [] pages p past = mapped_none pages p
  where
    mapped_none : (pages p : ℕ) → get_or (mapped [] pages) p false ≡ false
    mapped_none zero p = refl
    mapped_none (suc pages) p = refl
mapped_past (k ∷ kinds) zero p past = refl
mapped_past (k ∷ kinds) (suc pages) zero past = absurd (omega arith)
mapped_past (k ∷ kinds) (suc pages) (suc p) past = mapped_past kinds pages p (omega arith)

pub mapped_long : (kinds : List ℕ) (pages p : ℕ) → (length kinds ≤ p) → get_or (mapped kinds pages) p false ≡ false
mapped_long [] zero p past = refl
mapped_long [] (suc pages) p past = refl
mapped_long (k ∷ kinds) zero p past = refl
mapped_long (k ∷ kinds) (suc pages) zero past = absurd (omega arith)
mapped_long (k ∷ kinds) (suc pages) (suc p) past = mapped_long kinds pages p (omega arith)

pub mapped_length : (kinds : List ℕ) (pages p : ℕ) → p < pages → p < length kinds → p < length (mapped kinds pages)
mapped_length [] pages p few lt = absurd (omega arith)
mapped_length (k ∷ kinds) zero p few lt = absurd (omega arith)
mapped_length (k ∷ kinds) (suc pages) zero few lt = omega arith
mapped_length (k ∷ kinds) (suc pages) (suc p) few lt = let rest = mapped_length kinds pages p (omega arith) (omega arith) in omega arith
