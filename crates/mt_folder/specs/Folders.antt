-- Files, by name.
use Rattle.std.specs.Prelude.{ℕ, ◌≡◌, ◌≢◌, ◌⊎◌, true, List, Option, Some, None, IfSome, IsSome, bytes_eq, find, is_some, option_map, slice_set}
use Rattle.std.specs.List.{slice_index_or}
use Rattle.mt_base.specs.declared.refusal.Refusal.{Refusal}
use Rattle.mt_folder.specs.declared.reason.Reason.{Reason}
use Rattle.mt_base.specs.declared.refusal.Refusal.TheVariants as refusal

-- what a folder holds under each name, if that is known
abbrev pub Files : Type 0
Files = Option (List ℕ → Option (List ℕ))

-- the bytes under a name, if they are known
abbrev pub known_in : Files → List ℕ → Option (List ℕ)
known_in None name = None
known_in (Some files) name = files name

-- the bytes of the first file of a name
abbrev pub file_of : List ℕ → List (List ℕ × List ℕ) → Option (List ℕ)
file_of name files = option_map (λ f. f.1) (find (λ f. bytes_eq f.0 name) files)

-- the file at a place has other bytes, and everything else is as before
pub record Gives (old new : List (List ℕ × List ℕ)) (place : ℕ) (bytes : List ℕ) : Type 0 where
  pub file : List ℕ × List ℕ
  pub at : file ≡ slice_index_or old place file
  pub given : new ≡ slice_set old place (file.0, bytes)

-- why a file is not read: its bytes are not known to be there, or memory was wanting
abbrev pub IsFileRefusal : Option (List ℕ) → Refusal → Type 0
IsFileRefusal held why = ((why ≡ refusal.DeviceFailed) × (held ≡ None)) ⊎ (why ≡ refusal.NoMemory)

-- why a device is not made, or not put in its place: memory was wanting, or the device failed
abbrev pub IsUnmade : Refusal → Type 0
IsUnmade why = (why ≡ refusal.NoMemory) ⊎ (why ≡ refusal.DeviceFailed)

-- why a call was refused is known of the files of the system, of which nothing else is
abbrev pub KnowsWhy : Files → Option Reason → Type 0
KnowsWhy files why = files ≡ None → IsSome why

-- a reader has all bytes of a file before it, if those are known
abbrev pub ReadsAll : Option (List ℕ) → Option (List ℕ) → Type 0
ReadsAll held remaining = IfSome held (λ bytes. remaining ≡ Some bytes)

-- the file of this name has these bytes, if files are known
abbrev pub IsHeld : Files → List ℕ → List ℕ → Type 0
IsHeld files name bytes = is_some files ≡ true → known_in files name ≡ Some bytes

-- there is a file of this name, if files are known
abbrev pub IsThere : Files → List ℕ → Type 0
IsThere files name = is_some files ≡ true → IsSome (known_in files name)

-- each file as before
pub record AreKept (old new : Files) : Type 0 where
  pub outcome : is_some new ≡ is_some old
  pub all : (name : List ℕ) → known_in new name ≡ known_in old name

-- the file of this name is lent: what it has is not known until it is back, and each other one is as before
pub record IsLent (old new : Files) (name : List ℕ) : Type 0 where
  pub outcome : is_some new ≡ is_some old
  pub there : IsThere new name
  pub others : (other : List ℕ) → other ≢ name → known_in new other ≡ known_in old other

-- the file of this name has these bytes, and each other one is as before
pub record Puts (old new : Files) (name bytes : List ℕ) : Type 0 where
  pub outcome : is_some new ≡ is_some old
  pub held : IsHeld new name bytes
  pub others : (other : List ℕ) → other ≢ name → known_in new other ≡ known_in old other
