-- What is compared of two pages.
use Rattle.std.proofs.Common.{◌≡◌, inl, inr, ⊎_elim, ◌⊎◌, ℕ, ◌+◌, ◌<◌, ◌≤◌, List, length, get_or, max, sym, arith}
use Rattle.std.proofs.lemmas.Bool.{cases_lt}
use Rattle.mt_base.specs.Edits.{AreEqual, DiffersWithin, FirstDiffers}
use Rattle.mt_base.specs.declared.touched.TouchedBytes.{TouchedBytes}
use Rattle.mt_base.specs.Touched.{TouchesOnly}

-- the bytes that are not compared are equal
untouched : (old new : List ℕ) (t : TouchedBytes) (from a m b k : ℕ) → TouchesOnly t old new → AreEqual old new from a → t.head ≤ a → AreEqual old new m b → m ≡ max from t.start
    → from ≤ k → (k < b) ⊎ (t.start + t.count ≤ k) → get_or old k 0 ≡ get_or new k 0
untouched old new t from a m b k touches first done second least low high = ⊎_elim
    (λ (early : k < a). first.equal k low early)
    (λ (late : a ≤ k). ⊎_elim
    (λ (before : k < t.start). sym (touches.rest k (omega arith) (inl (omega arith))))
    (λ (reached : t.start ≤ k). ⊎_elim (λ (x : k < b). second.equal k (omega arith) x)
    (λ (after : t.start + t.count ≤ k). sym (touches.rest k (omega arith) (inr after))) high)
    (cases_lt k t.start))
    (cases_lt k a)

-- where the search of the range ends
pub first_found : (old new : List ℕ) (t : TouchedBytes) (from a m b : ℕ) → TouchesOnly t old new → AreEqual old new from a → t.head ≤ a → DiffersWithin old new m (t.start + t.count) b → m ≡ max from t.start
    → b < t.start + t.count → FirstDiffers old new from b
first_found old new t from a m b touches first done second least found = record {
  before = record {
    after = let after = second.before.after in omega arith;
    within = second.before.within;
    equal = λ k low high. untouched old new t from a m b k touches first done second.before least low (inl high);
  };
  differs = λ lt. second.differs found;
}

-- no byte of the range differs
pub none_found : (old new : List ℕ) (t : TouchedBytes) (from a m b : ℕ) → TouchesOnly t old new → AreEqual old new from a → t.head ≤ a → DiffersWithin old new m (t.start + t.count) b → m ≡ max from t.start
    → from ≤ length old → t.start + t.count ≤ b → FirstDiffers old new from (length old)
none_found old new t from a m b touches first done second least there none = record {
  before = record {
    after = there;
    within = omega arith;
    equal = λ k low high. untouched old new t from a m b k touches first done second.before least low
        (⊎_elim (λ (x : k < b). inl x) (λ (y : b ≤ k). inr (omega arith)) (cases_lt k b));
  };
  differs = λ lt. absurd (omega arith);
}
