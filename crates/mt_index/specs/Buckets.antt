-- An index: which bucket a hash names, how deep each bucket is, and what it holds.
use Rattle.std.specs.Prelude.{ℕ, suc, ◌≡◌, ◌≢◌, true, false, List, filter, not}
use Rattle.mt_bucket.specs.Entries.{Entry, look}
use Rattle.mt_bucket.specs.Hash.{hash, high}
use Rattle.mt_index.specs.Maps.{Map, Once, Each, Agree}

pub record IsBuckets (names depth : ℕ → ℕ) (content : ℕ → List Entry) : Type 0 where
  pub same : (h k : ℕ) → names h ≡ names k → Agree (depth (names h)) h k
  pub apart : (h k : ℕ) → Agree (depth (names h)) h k → names h ≡ names k
  pub own : (h : ℕ) → Each (λ e. names (hash e.key) ≡ names h) (content (names h))
  pub once : (h : ℕ) → Once (content (names h))

-- the map that the buckets are
abbrev pub lookup : (ℕ → ℕ) → (ℕ → List Entry) → Map
lookup names content r k = look r k (content (names (hash k)))

-- one bucket's list is changed
pub record Changed (names : ℕ → ℕ) (b : ℕ) (old new : ℕ → List Entry) (es : List Entry) : Type 0 where
  pub at : new b ≡ es
  pub others : (h : ℕ) → names h ≢ b → new (names h) ≡ old (names h)

-- one bucket's entries with a bit go to a new bucket
pub record Splits (b q l : ℕ) (names depth : ℕ → ℕ) (content : ℕ → List Entry) (names2 depth2 : ℕ → ℕ)
    (content2 : ℕ → List Entry) : Type 0 where
  pub fresh : (h : ℕ) → names h ≢ q
  pub level : depth b ≡ l
  pub low : (h : ℕ) → names h ≡ b → high l h ≡ false → names2 h ≡ b
  pub up : (h : ℕ) → names h ≡ b → high l h ≡ true → names2 h ≡ q
  pub rest : (h : ℕ) → names h ≢ b → names2 h ≡ names h
  pub depth_low : depth2 b ≡ suc l
  pub depth_up : depth2 q ≡ suc l
  pub depth_rest : (h : ℕ) → names h ≢ b → depth2 (names h) ≡ depth (names h)
  pub stay : content2 b ≡ filter (λ e. not (high l (hash e.key))) (content b)
  pub move : content2 q ≡ filter (λ e. high l (hash e.key)) (content b)
  pub content_rest : (h : ℕ) → names h ≢ b → content2 (names h) ≡ content (names h)
