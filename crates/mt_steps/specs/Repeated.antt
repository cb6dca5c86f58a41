-- What the records of a log make of pages: history repeated, and the pages with what is unfinished put back.
use Rattle.std.specs.Prelude.{◌≡◌, ◌⊎◌, ℕ, ◌==◌, if◌then◌else◌, not, List, [], ◌∷◌, ◌++◌, filter, length}
use Rattle.mt_base.specs.Edits.{splice, patched}
use Rattle.mt_base.specs.Ranges.{part}
use Rattle.mt_base.specs.declared.edits.Edit.{Edit}
use Rattle.mt_frame.specs.declared.records.Record.{Record}
use Rattle.mt_frame.specs.declared.records.Record.TheVariants.{Page, OpEnd, OpDropped, Commit, AbortEnd}
use Rattle.mt_space.specs.Changes.{PageBytes}
use Rattle.mt_space.specs.declared.changes.PageChange.{PageChange}

-- bytes of one page, as they were and as they become, and the operation that changes them
pub record Change : Type 0 where
  pub op : ℕ
  pub page : ℕ
  pub start : ℕ
  pub old : List ℕ
  pub new : List ℕ

-- a change made, and put back
abbrev pub made : Change → PageBytes → PageBytes
made c pages = λ p. if c.page == p then splice c.start c.new (pages p) else pages p

abbrev pub unmade : Change → PageBytes → PageBytes
unmade c pages = λ p. if c.page == p then splice c.start c.old (pages p) else pages p

-- changes made in their order, and put back, the last one first
abbrev pub redo : List Change → PageBytes → PageBytes
redo [] pages = pages
redo (c ∷ cs) pages = redo cs (made c pages)

abbrev pub put_back : List Change → PageBytes → PageBytes
put_back [] pages = pages
put_back (c ∷ cs) pages = unmade c (put_back cs pages)

-- an operation's changes, those of the others, and those of one page
abbrev pub by : ℕ → List Change → List Change
by o cs = filter (λ (c : Change). c.op == o) cs

abbrev pub but : ℕ → List Change → List Change
but o cs = filter (λ (c : Change). not (c.op == o)) cs

abbrev pub on : ℕ → List Change → List Change
on p cs = filter (λ (c : Change). c.page == p) cs

-- all are of one operation
abbrev pub AreBy : ℕ → List Change → Type 0
AreBy o [] = Unit {0}
AreBy o (c ∷ cs) = (c.op ≡ o) × AreBy o cs

-- pages, and the changes of unfinished operations in the order in which they were made
pub record Repeated : Type 0 where
  pub pages : PageBytes
  pub unfinished : List Change

-- the pages held: those with the changes of unfinished operations put back
abbrev pub held : Repeated → PageBytes
held r = put_back r.unfinished r.pages

-- an operation changes some pages, has ended, or is dropped
abbrev pub changed : Repeated → List Change → Repeated
changed r cs = record { pages = redo cs r.pages; unfinished = r.unfinished ++ cs }

abbrev pub finished : Repeated → ℕ → Repeated
finished r o = record { pages = r.pages; unfinished = but o r.unfinished }

abbrev pub dropped : Repeated → ℕ → Repeated
dropped r o = record { pages = put_back (by o r.unfinished) r.pages; unfinished = but o r.unfinished }

-- what a record makes of it; an image by itself, which is of no transaction, changes nothing
abbrev pub repeated : Repeated → Record → Repeated
repeated r (Page txn op page image start old new) =
    if txn == 0 then r else changed r (record { op = op; page = page; start = start; old = old; new = new } ∷ [])
repeated r (OpEnd txn op undoes done) = finished r op
repeated r (OpDropped txn op) = dropped r op
repeated r (Commit txn) = r
repeated r (AbortEnd txn) = r

abbrev pub repeat : Repeated → List Record → Repeated
repeat r [] = r
repeat r (x ∷ xs) = repeat (repeated r x) xs

-- the records of an area, over the pages as they were when it began
abbrev pub logged : PageBytes → List Record → Repeated
logged opening records = repeat (record { pages = opening; unfinished = [] }) records

-- each page that an operation has changed and not ended was changed by no other such
abbrev pub StandsAlone : ℕ → List Change → Type 0
StandsAlone o cs = (p : ℕ) → (on p (by o cs) ≡ []) ⊎ (on p (but o cs) ≡ [])

-- unfinished operations keep to their own pages, and their changes lead from the pages held to the present ones
pub record IsRepeated (r : Repeated) : Type 0 where
  pub apart : (o : ℕ) → StandsAlone o r.unfinished
  pub leads : (p : ℕ) → redo r.unfinished (held r) p ≡ r.pages p

-- the changes that an operation's edits of one page come to, a range each, if the page is `old` before and `new`
-- after them all
abbrev pub ranges_of : ℕ → ℕ → List ℕ → List ℕ → List Edit → List Change
ranges_of op p old new [] = []
ranges_of op p old new (e ∷ es) = record {
  op = op;
  page = p;
  start = e.start;
  old = part old e.start (length e.bytes);
  new = part new e.start (length e.bytes);
} ∷ ranges_of op p old new es

-- and those of some pages
abbrev pub changes_of : ℕ → List PageChange → PageBytes → List Change
changes_of op [] pages = []
changes_of op (c ∷ cs) pages =
    ranges_of op c.page (pages c.page) (patched c.edits.items (pages c.page)) c.edits.items ++ changes_of op cs pages
