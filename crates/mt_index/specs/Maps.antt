-- The map that an index is.
use Rattle.std.specs.Prelude.{ℕ, zero, suc, ◌≡◌, ◌==◌, ◌&&◌, cond, List, [], ◌∷◌, Option, None, bytes_eq}
use Rattle.mt_base.specs.declared.numbers.RecordName.{RecordName}
use Rattle.mt_bucket.specs.Entries.{Entry, look}
use Rattle.mt_bucket.specs.Hash.{high}

-- what the record under a relation and a key is named, if there is one
abbrev pub Map : Type 0
Map = ℕ → List ℕ → Option RecordName

-- the map with one key changed
abbrev pub alter : Map → ℕ → List ℕ → Option RecordName → Map
alter m r k n = λ s l. cond ((r == s) && bytes_eq k l) n (m s l)

-- no relation and key twice
abbrev pub Once : List Entry → Type 0
Once [] = Unit {0}
Once (e ∷ es) = (look e.relation e.key es ≡ None) × Once es

abbrev pub Each : {A : Type 0} → (A → Type 0) → List A → Type 0
Each P [] = Unit {0}
Each P (x ∷ xs) = P x × Each P xs

-- two hashes with the same low l bits
abbrev pub Agree : ℕ → ℕ → ℕ → Type 0
Agree zero h k = Unit {0}
Agree (suc l) h k = Agree l h k × (high l h ≡ high l k)
