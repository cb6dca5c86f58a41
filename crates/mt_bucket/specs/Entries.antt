-- A list of entries, and what is done to it.
use Rattle.std.specs.Prelude.{ℕ, ◌==◌, ◌&&◌, Bool, cond, List, [], ◌∷◌, Option, Some, None, bytes_eq}
use Rattle.mt_base.specs.declared.numbers.RecordName.{RecordName}

-- a relation, a key, and the name of the record under it
pub record Entry : Type 0 where
  pub relation : ℕ
  pub key : List ℕ
  pub name : RecordName

abbrev pub is_at : ℕ → List ℕ → Entry → Bool
is_at r k e = (e.relation == r) && bytes_eq e.key k

-- the name that the first entry of this relation and key gives
abbrev pub look : ℕ → List ℕ → List Entry → Option RecordName
look r k [] = None
look r k (e ∷ es) = cond (is_at r k e) (Some e.name) (look r k es)

-- the entry's name, if it is of this relation
abbrev pub name_under : ℕ → Entry → Option RecordName
name_under r e = cond (e.relation == r) (Some e.name) None

-- the list whose first entry of this relation and key gives another name
abbrev pub renamed : ℕ → List ℕ → RecordName → List Entry → List Entry
renamed r k n [] = []
renamed r k n (e ∷ es) = cond (is_at r k e) (record e { name = n } ∷ es) (e ∷ renamed r k n es)

-- the list with an entry more, after the first one
abbrev pub behind_first : Entry → List Entry → List Entry
behind_first e [] = e ∷ []
behind_first e (f ∷ es) = f ∷ e ∷ es

-- the list with its last entry in front of the others
abbrev pub last_first : List Entry → List Entry
last_first [] = []
last_first (e ∷ es) = behind_first e (last_first es)

-- the list with its last entry in the place of the first one of this relation and key
abbrev pub without : ℕ → List ℕ → List Entry → List Entry
without r k [] = []
without r k (e ∷ es) = cond (is_at r k e) (last_first es) (e ∷ without r k es)
