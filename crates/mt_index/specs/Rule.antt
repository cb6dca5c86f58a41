-- Which way an add goes: the rule in full, over the relations that the theorem takes.
use Rattle.std.specs.Prelude.{ℕ, ◌≡◌, ◌≢◌, ◌<◌, ◌⊎◌, Bool, true, List, length}
use Rattle.mt_bucket.specs.declared.heads.TheConstants.{MAX_ENTRIES}
use Rattle.mt_bucket.specs.Entries.{Entry}
use Rattle.mt_bucket.specs.Hash.{hash}
use Rattle.mt_index.specs.Maps.{Each}
use Rattle.mt_index.specs.Index.{State, named}
use Rattle.mt_index.specs.Steps.{InRoom, Behind, Halves, double}

abbrev pub IsFull : State → ℕ → Type 0
IsFull s n = length (s.node n).entries ≡ MAX_ENTRIES

-- the first page of the chain with room
pub record First (e : Entry) (p : ℕ) (s t : State) : Type 0 where
  pub puts : InRoom e p s t
  pub before : Each (IsFull s) puts.on.front

pub record Last (e : Entry) (z q : ℕ) (s t : State) : Type 0 where
  pub puts : Behind e z q s t
  pub before : Each (IsFull s) puts.on.front
  pub itself : IsFull s z

-- a page of the smallest number is taken
abbrev pub IsSmallest : State → ℕ → Type 0
IsSmallest s q = (s.kind q ≡ 0) × ((n : ℕ) → n < q → s.kind n ≢ 0)

-- a split is due: one full page, shallower than 9
pub record MaySplit (key : List ℕ) (s : State) : Type 0 where
  pub alone : (s.node (named s (hash key))).next ≡ 0
  pub full : IsFull s (named s (hash key))
  pub shallow : (s.node (named s (hash key))).depth < 9

-- with a split or without; doubled if and only if the bucket is as deep as the directory
pub data Way (split : Bool) (e : Entry) (s t : State) : Type 0 where
  Here : (p : ℕ) → First e p s t → Way split e s t
  Chained : (z q : ℕ) → (split ≡ true → MaySplit e.key s → ⊥) → IsSmallest s q → Last e z q s t → Way split e s t
  SplitHere : (u : State) (q l p : ℕ) → split ≡ true → MaySplit e.key s → IsSmallest s q
      → (l < s.g × Halves e.key q l s u) ⊎ (l ≡ s.g × Halves e.key q l (double s) u) → First e p u t → Way split e s t
  SplitChained : (u : State) (q l z q2 : ℕ) → split ≡ true → MaySplit e.key s → IsSmallest s q
      → (l < s.g × Halves e.key q l s u) ⊎ (l ≡ s.g × Halves e.key q l (double s) u)
      → IsSmallest u q2 → Last e z q2 u t → Way split e s t
