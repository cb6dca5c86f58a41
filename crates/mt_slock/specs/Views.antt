-- What a table of locks holds: its entries, each an object with its holders, as a test of locks.
use Rattle.std.specs.Prelude.{ℕ, ◌≡◌, ◌≢◌, [], ◌∷◌, ◌≤◌, ◌==◌, ◌&&◌, Bool, true, false, not, min, filter, slice_get, List, Option, None, Some}
use Rattle.std.specs.List.{list_any}
use Rattle.std.specs.Map.{lookup}
use Rattle.mt_base.specs.Modes.{granted_together}
use Rattle.mt_base.specs.declared.modes.LockMode.{LockMode}
use Rattle.mt_model.specs.declared.objects.Object.{Object}
use Rattle.mt_model.specs.Model.{same_object}
use Rattle.mt_model.specs.Locks.{Held, same_mode}
use Rattle.mt_slock.specs.declared.holders.Holder.{Holder}

-- this transaction, in this mode
abbrev pub is_holder : ℕ → LockMode → Holder → Bool
is_holder t m h = (t == h.txn) && same_mode h.mode m

-- the holders of an object: the first, if it still holds it, and those after it
abbrev pub in_order : Option Holder → List Holder → List Holder
in_order None hs = hs
in_order (Some h) hs = h ∷ hs

-- it is among the holders of an object
abbrev pub is_among : List Holder → ℕ → LockMode → Bool
is_among hs t m = list_any (is_holder t m) hs

-- holding an object so, another transaction is in the way of this one's lock
abbrev pub conflicts : ℕ → LockMode → ℕ → LockMode → Bool
conflicts t m u n = not (t == u) && not (granted_together n m)

-- nobody is
abbrev pub IsUnbarred : List Holder → ℕ → LockMode → Type 0
IsUnbarred hs t m = (u : ℕ) (n : LockMode) → is_among hs u n ≡ true → conflicts t m u n ≡ false

-- the oldest that is
pub record IsOldestBar (hs : List Holder) (t : ℕ) (m : LockMode) (u : ℕ) : Type 0 where
  pub mode : LockMode
  pub among : is_among hs u mode ≡ true
  pub bars : conflicts t m u mode ≡ true
  pub oldest : (v : ℕ) (n : LockMode) → is_among hs v n ≡ true → conflicts t m v n ≡ true → u ≤ v

-- the oldest of those that are there
abbrev pub least_of : Option ℕ → ℕ → ℕ
least_of None b = b
least_of (Some a) b = min a b

abbrev pub oldest_of : Option ℕ → Option ℕ → Option ℕ
oldest_of one None = one
oldest_of one (Some b) = Some (least_of one b)

abbrev pub holds_in : Option (List Holder) → ℕ → LockMode → Bool
holds_in None t m = false
holds_in (Some hs) t m = is_among hs t m

-- each object is held by the holders of its entry
abbrev pub held_of : List (Object × List Holder) → Held
held_of es t x m = holds_in (lookup (same_object x) es) t m

-- at this place stands an object, with holders of whom none is left without this transaction in this mode
pub record IsAlone (es : List (Object × List Holder)) (t : ℕ) (x : Object) (m : LockMode) (place : ℕ) : Type 0 where
  pub key : Object
  pub holders : List Holder
  pub at : slice_get es place ≡ Some (key, holders)
  pub same : same_object x key ≡ true
  pub found : lookup (same_object x) es ≡ Some holders
  pub alone : filter (λ h. not (is_holder t m h)) holders ≡ []

-- no object stands there that nobody holds
abbrev pub HasNoIdle : List (Object × List Holder) → Type 0
HasNoIdle es = (x : Object) → lookup (same_object x) es ≢ Some []
