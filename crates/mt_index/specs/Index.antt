-- An index of pages, free of bytes: a directory of pointers, and bucket pages in chains.
use Rattle.std.specs.Prelude.{ℕ, suc, ◌≡◌, ◌≢◌, ◌≤◌, ◌<◌, ◌^◌, ◌%◌, true, false, List, [], ◌∷◌, length, cond, ◌==◌, ◌&&◌, filter, not}
use Rattle.std.specs.List.{flat_map}
use Rattle.std.proofs.Math.ListN.{get_or}
use Rattle.mt_bucket.specs.declared.heads.TheConstants.{MAX_ENTRIES}
use Rattle.mt_bucket.specs.Entries.{Entry}
use Rattle.mt_bucket.specs.Hash.{high, hash}
use Rattle.mt_index.specs.Maps.{Map, Each}
use Rattle.mt_index.specs.Buckets.{IsBuckets, lookup}

abbrev pub kept_low : ℕ → List Entry → List Entry
kept_low l es = filter (λ e. not (high l (hash e.key))) es

abbrev pub kept_high : ℕ → List Entry → List Entry
kept_high l es = filter (λ e. high l (hash e.key)) es

-- a bucket page
pub record Node : Type 0 where
  pub depth : ℕ
  pub next : ℕ
  pub entries : List Entry

pub record State : Type 0 where
  pub g : ℕ
  pub pointers : List ℕ
  pub node : ℕ → Node
  pub kind : ℕ → ℕ

-- the first page of a hash's bucket
abbrev pub named : State → ℕ → ℕ
named s h = get_or s.pointers (h % 2 ^ s.g) 0

-- these pages, from p on, each with the next after it
abbrev pub Linked : (ℕ → Node) → ℕ → List ℕ → Type 0
Linked node p [] = p ≡ 0
Linked node p (n ∷ ns) = (p ≡ n) × (n ≢ 0) × Linked node (node n).next ns

abbrev pub entries_of : (ℕ → Node) → List ℕ → List Entry
entries_of node ns = flat_map (λ n. (node n).entries) ns

-- Bucket pages in chains, named by hashes, are this map. The directory enters only by `names`.
pub record IsTree (names : ℕ → ℕ) (g : ℕ) (node : ℕ → Node) (kind : ℕ → ℕ) (m : Map) : Type 0 where
  pub chain : ℕ → List ℕ
  pub home : ℕ → ℕ
  pub real : (h : ℕ) → names h ≢ 0
  pub shallow : (h : ℕ) → (node (names h)).depth ≤ g
  pub linked : (h : ℕ) → Linked node (names h) (chain (names h))
  pub at_home : (h : ℕ) → Each (λ n. home n ≡ names h) (chain (names h))
  pub level : (h : ℕ) → Each (λ n. (node n).depth ≡ (node (names h)).depth) (chain (names h))
  pub small : (h : ℕ) → Each (λ n. length (node n).entries ≤ MAX_ENTRIES) (chain (names h))
  pub kinds : (h : ℕ) → Each (λ n. kind n ≡ 2) (chain (names h))
  pub buckets : IsBuckets names (λ b. (node b).depth) (λ b. entries_of node (chain b))
  pub map : (r : ℕ) (k : List ℕ) → lookup names (λ b. entries_of node (chain b)) r k ≡ m r k

-- the pages are an index, and it is this map
pub record IsIndex (s : State) (m : Map) : Type 0 where
  pub size : length s.pointers ≡ 2 ^ s.g
  pub tree : IsTree (named s) s.g s.node s.kind m

-- one page's entries are changed
pub record Rewrites (p : ℕ) (es : List Entry) (node node2 : ℕ → Node) : Type 0 where
  pub page : node2 p ≡ record (node p) { entries = es }
  pub others : (n : ℕ) → n ≢ p → node2 n ≡ node n

-- a page is taken
pub record Takes (q : ℕ) (kind kind2 : ℕ → ℕ) : Type 0 where
  pub real : q ≢ 0
  pub free : kind q ≡ 0
  pub taken : kind2 q ≡ 2
  pub others : (n : ℕ) → n ≢ q → kind2 n ≡ kind n

-- a page q is chained after the last page z, and takes one entry
pub record Chains (z q : ℕ) (e : Entry) (kind : ℕ → ℕ) (node node2 : ℕ → Node) : Type 0 where
  pub page : node2 q ≡ record { depth = (node z).depth; next = 0; entries = e ∷ [] }
  pub last : node2 z ≡ record (node z) { next = q }
  pub others : (n : ℕ) → kind n ≡ 2 → n ≢ z → node2 n ≡ node n

-- the bucket b of one page splits into b and q
pub record Divides (b q l : ℕ) (kind : ℕ → ℕ) (node node2 : ℕ → Node) : Type 0 where
  pub low : node2 b ≡ record { depth = suc l; next = 0; entries = kept_low l (node b).entries }
  pub up : node2 q ≡ record { depth = suc l; next = 0; entries = kept_high l (node b).entries }
  pub others : (n : ℕ) → kind n ≡ 2 → n ≢ b → node2 n ≡ node n

-- the pointers of b with bit l name q
pub record Points (b q l : ℕ) (names names2 : ℕ → ℕ) : Type 0 where
  pub low : (h : ℕ) → names h ≡ b → high l h ≡ false → names2 h ≡ b
  pub up : (h : ℕ) → names h ≡ b → high l h ≡ true → names2 h ≡ q
  pub rest : (h : ℕ) → names h ≢ b → names2 h ≡ names h

-- the directory after it
pub record Repoints (b q l : ℕ) (g : ℕ) (old new : List ℕ) : Type 0 where
  pub size : length new ≡ length old
  pub each : (i : ℕ) → i < 2 ^ g → get_or new i 0 ≡ cond (get_or old i 0 == b && high l i) q (get_or old i 0)
