-- What the plans do to the pages of an index.
use Rattle.std.specs.Prelude.{ℕ, suc, ◌≡◌, ◌≢◌, ◌<◌, ◌⊎◌, Bool, true, false, List, [], ◌∷◌, ◌++◌, length}
use Rattle.mt_bucket.specs.declared.heads.TheConstants.{MAX_ENTRIES}
use Rattle.mt_base.specs.declared.numbers.RecordName.{RecordName}
use Rattle.mt_bucket.specs.Entries.{Entry, last_first}
use Rattle.mt_bucket.specs.Hash.{hash}
use Rattle.mt_index.specs.Index.{Node, State, named, Rewrites, Takes, Chains, Divides, Repoints}

-- these pages are passed from q on, and p is next
abbrev pub Walk : (ℕ → Node) → ℕ → List ℕ → ℕ → Type 0
Walk node q [] p = q ≡ p
Walk node q (n ∷ front) p = (q ≡ n) × (n ≢ 0) × Walk node (node n).next front p

-- a page of the key's chain
pub record OnChain (s : State) (key : List ℕ) (p : ℕ) : Type 0 where
  pub front : List ℕ
  pub walk : Walk s.node (named s (hash key)) front p
  pub real : p ≢ 0

-- the directory and the kinds stay, one page has new entries
pub record OnePage (p : ℕ) (es : List Entry) (s t : State) : Type 0 where
  pub g : t.g ≡ s.g
  pub pointers : t.pointers ≡ s.pointers
  pub kind : t.kind ≡ s.kind
  pub page : Rewrites p es s.node t.node

pub record InRoom (e : Entry) (p : ℕ) (s t : State) : Type 0 where
  pub on : OnChain s e.key p
  pub room : length (s.node p).entries < MAX_ENTRIES
  pub change : OnePage p ((s.node p).entries ++ e ∷ []) s t

pub record Behind (e : Entry) (z q : ℕ) (s t : State) : Type 0 where
  pub on : OnChain s e.key z
  pub last : (s.node z).next ≡ 0
  pub g : t.g ≡ s.g
  pub pointers : t.pointers ≡ s.pointers
  pub takes : Takes q s.kind t.kind
  pub change : Chains z q e s.kind s.node t.node

-- the key's bucket, of one page and shallower than the directory, splits
pub record Halves (key : List ℕ) (q l : ℕ) (s t : State) : Type 0 where
  pub alone : (s.node (named s (hash key))).next ≡ 0
  pub level : (s.node (named s (hash key))).depth ≡ l
  pub below : l < s.g
  pub g : t.g ≡ s.g
  pub pointers : Repoints (named s (hash key)) q l s.g s.pointers t.pointers
  pub takes : Takes q s.kind t.kind
  pub change : Divides (named s (hash key)) q l s.kind s.node t.node

abbrev pub double : State → State
double s = record s { g = suc s.g; pointers = s.pointers ++ s.pointers }

-- the entry goes into a page with room, or into a new page after the last
abbrev pub Puts : Entry → State → State → Type 0
Puts e s t = ((p : ℕ) × InRoom e p s t) ⊎ ((z : ℕ) × (q : ℕ) × Behind e z q s t)

-- one split at most, doubled before if the bucket is as deep as the directory
abbrev pub Adds : Bool → Entry → State → State → Type 0
Adds false e s t = Puts e s t
Adds true e s t = Puts e s t ⊎ ((u : State) × (q : ℕ) × (l : ℕ) × (Halves e.key q l s u ⊎ Halves e.key q l (double s) u)
    × Puts e u t)

pub record Drops (e : Entry) (p : ℕ) (x y : List Entry) (s t : State) : Type 0 where
  pub on : OnChain s e.key p
  pub there : (s.node p).entries ≡ x ++ e ∷ y
  pub change : OnePage p (x ++ last_first y) s t

pub record Sets (e : Entry) (n : RecordName) (p : ℕ) (x y : List Entry) (s t : State) : Type 0 where
  pub on : OnChain s e.key p
  pub there : (s.node p).entries ≡ x ++ e ∷ y
  pub change : OnePage p (x ++ record e { name = n } ∷ y) s t
