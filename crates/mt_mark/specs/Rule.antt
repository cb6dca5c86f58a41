-- The rule of the mark, and what its steps show to a pass and to the end.
use Rattle.std.specs.Prelude.{◌≡◌, ◌≢◌, ℕ, ◌+◌, ◌<◌, ◌≤◌, max, Bool, true, false, cond, eqb, List, [], ◌∷◌, ◌++◌, map, length}
use mathlib.Core.Option.{some}
use mathlib.Core.List.{IsPrefix}
use lib.ListN.{get_elem?}
use Rattle.atomic_table.specs.Table.{State, Me, Step}
use Rattle.mt_model.specs.declared.tables.Base.{Base}
use Rattle.mt_model.specs.declared.history.Committed.{Committed}
use Rattle.mt_mark.specs.Legal.{IsLegal}
use Rattle.mt_mark.specs.declared.view.Entry.{Entry}
use Rattle.mt_mark.specs.declared.view.About.{About}
use Rattle.mt_mark.specs.declared.view.View.{View}

-- no entry is this pass's
abbrev pub NoneBy : ℕ → List Entry → Type 0
NoneBy p [] = Unit {0}
NoneBy p (e ∷ es) = (e.pass ≢ p) × NoneBy p es

-- how many entries of a list are this pass's
abbrev pub own : ℕ → List Entry → ℕ
own p [] = 0
own p (e ∷ es) = cond (eqb e.pass p) 1 0 + own p es

-- each entry is of a pass that has been made, which are those from 1 on below this number
abbrev pub AllMade : ℕ → List Entry → Type 0
AllMade made [] = Unit {0}
AllMade made (e ∷ es) = (1 ≤ e.pass) × (e.pass < made) × AllMade made es

-- the list, passes aside
abbrev pub dones : List Entry → List Committed
dones es = map (λ e. e.done) es

-- the book that stood when the mark was made, under no pass
abbrev pub labelled : List Committed → List Entry
labelled ts = map (λ t. record { pass = 0; done = t }) ts

-- a list begins with the book that stood when the mark was made, and goes on by entries of passes
abbrev pub IsFrom : List Committed → ℕ → List Entry → Type 0
IsFrom book made list = (rest : List Entry) × (labelled book ++ rest ≡ list) × AllMade made rest

-- what was seen begins the history, which has no further entry of this pass
abbrev pub Holds : ℕ → List Entry → List Entry → Type 0
Holds p seen log = (rest : List Entry) × (seen ++ rest ≡ log) × NoneBy p rest

pub record IsEnd (k : About) (count : ℕ) (list : List Entry) (by : ℕ) (v : View) : Type 0 where
  pub first : by ≡ 0
  pub all : v.list ≡ list
  pub made : v.made ≡ count
  pub base : v.base ≡ k.base.value
  pub book : v.book ≡ k.book.value.items

pub record IsPass (k : About) (seat : ℕ → ℕ) (made : ℕ) (log : List Entry) (by : ℕ) (v : View) : Type 0 where
  pub apart : v.keeps ≡ false
  pub above : 1 ≤ v.number
  pub below : v.number < made
  pub sits : seat v.number ≡ by
  pub base : v.base ≡ k.base.value
  pub holds : Holds v.number v.list log

-- what the rule says of one view
pub record Fits (k : About) (seat : ℕ → ℕ) (made : ℕ) (log list : List Entry) (by : ℕ) (v : View) : Type 0 where
  pub keeper : v.keeps ≡ true → IsEnd k made list by v
  pub pass : v.sees ≡ true → IsPass k seat made log by v
  pub known : IsPrefix v.known list
  pub sure : v.sure ≤ length log

-- The history is as long as the word says, and legal. It is the book that stood at first, and after it entries of
-- passes. The end's list begins with it, and goes on by one entry at most.
pub record Kept (k : About) (s : State Entry View) : Type 0 where
  pub made : ℕ
  pub seat : ℕ → ℕ
  pub log : List Entry
  pub list : List Entry
  pub word : s.words ≡ length log ∷ []
  pub one : 1 ≤ made
  pub from : IsFrom k.book.value.items made log
  pub begins : IsPrefix log list
  pub near : length list ≤ length log + 1
  pub legal : IsLegal k.base.value (dones list)
  pub fits : (by : ℕ) (v : View) → get_elem? s.views by ≡ some v → Fits k seat made log list by v

abbrev pub first_end : About → View
first_end k = record {
  keeps = true;
  sees = false;
  number = 0;
  made = 1;
  list = labelled k.book.value.items;
  known = [];
  sure = length k.book.value.items;
  base = k.base.value;
  book = k.book.value.items;
}

-- the history so far was seen; it has no further entry of this pass
abbrev pub LooksTo : View → ℕ → View → Type 0
LooksTo v found w =
    (between : List Entry) × (w ≡ record v { list = v.list ++ between }) × NoneBy v.number between
    × (length (v.list ++ between) ≡ found) × IsLegal v.base (dones (v.list ++ between))

abbrev pub Looks : Step Entry → Me Entry View → ℕ → Me Entry View → Type 0
Looks s v found w = (w.1 ≡ v.1) × LooksTo v.0 found w.0

-- what the end knows goes on from what the pass has seen, by others' entries and one more
abbrev pub OthersThen : View → Type 0
OthersThen v = (pre : List Entry) × (e : Entry) × (v.known ≡ pre ++ e ∷ []) × Holds v.number v.list pre

-- all that the end has is known to be entered
abbrev pub IsConfirmed : View → Type 0
IsConfirmed v = length v.list ≤ v.sure

-- a pass was answered with a list that goes on by an entry of its own, at this place
abbrev pub CanEnter : View → ℕ → Type 0
CanEnter v at = (pre : List Entry) × (e : Entry) × (v.known ≡ pre ++ e ∷ []) × (e.pass ≡ v.number) × (length pre ≡ at)
    × (length v.list ≤ at) × (at ≤ v.sure)

-- the entry was named, and the mark stands below it
abbrev pub Names : Step Entry → Me Entry View → ℕ → Me Entry View → Type 0
Names s v found w = (w.1 ≡ v.1) × ((e : Entry) × (s.said ≡ some e) × (w.0 ≡ record v.0 { list = v.0.list ++ e ∷ [] })
    × IsPrefix v.0.known v.0.list × (length v.0.list ≡ found))

abbrev pub Enters : Step Entry → Me Entry View → ℕ → Me Entry View → Type 0
Enters s v found w = (w.1 ≡ v.1) × (w.0 ≡ record v.0 { list = v.0.known }) × (found ≡ s.first) × OthersThen v.0

abbrev pub Settles : Step Entry → Me Entry View → ℕ → Me Entry View → Type 0
Settles s v found w = (w.1 ≡ v.1) × (w.0 ≡ record v.0 { list = v.0.known }) × Holds v.0.number v.0.list v.0.known

abbrev pub Checks : Step Entry → Me Entry View → ℕ → Me Entry View → Type 0
Checks s v found w =
    (w ≡ v) × IsPrefix v.0.known v.0.list × (length v.0.list ≡ found) × IsFrom v.0.book v.0.made v.0.list

abbrev pub note : View → List Entry → ℕ → View
note v known sure = record v { keeps = false; sees = false; list = []; known = known; sure = sure }

abbrev pub end_note : View → View
end_note v = note v v.list v.sure

abbrev pub pass_note : View → View
pass_note v = note v v.list (length v.list)

abbrev pub one_more : View → View
one_more v = record v { made = v.made + 1 }

abbrev pub new_pass : View → View
new_pass v = record v { keeps = false; sees = true; number = v.made; known = []; sure = 0 }

abbrev pub heard : View → View → View
heard v w = record v { known = w.known; sure = max v.sure w.sure }

abbrev pub spent : View
spent = record {
  keeps = false;
  sees = false;
  number = 0;
  made = 0;
  list = [];
  known = [];
  sure = 0;
  base = record
      { relations = 0; rows = []; counters = [] };
  book = [];
}

-- its number and its base stay; only what a step shows it may change
abbrev pub SamePass : View → View → Type 0
SamePass v w = (w.number ≡ v.number) × (w.base ≡ v.base)

abbrev pub SameEnd : View → View → Type 0
SameEnd v w = (w.made ≡ v.made) × (w.base ≡ v.base) × (w.book ≡ v.book)
