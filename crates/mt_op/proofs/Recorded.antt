-- Each page that an operation has changed and not ended has a record.
use Rattle.std.proofs.Common.{◌≡◌, ◌⊎◌, ⊎_elim, ℕ, zero, suc, ◌≤◌, Bool, true, false, cond, ◌||◌, ◌==◌, List, [], ◌∷◌, ◌++◌, Contains, All, length, take, refl, sym, ap, ◌∙◌, arith}
use Rattle.std.proofs.lemmas.Bool.{cases_Bool, eq-eqb}
use Rattle.std.proofs.lemmas.List.Elements.{All-nil, All-cons, All-head, All-tail, All-take}
use Rattle.mt_base.specs.Edits.{patched}
use Rattle.mt_base.specs.declared.edits.Edit.{Edit}
use Rattle.mt_frame.specs.declared.records.Record.{Record}
use Rattle.mt_frame.specs.declared.records.Record.TheVariants.{Page, OpEnd, OpDropped, Commit, AbortEnd}
use Rattle.mt_area_rules.specs.History.{is_of_page, some_record}
use Rattle.mt_space.specs.Changes.{PageBytes, AreShort}
use Rattle.mt_space.specs.declared.changes.PageChange.{PageChange}
use Rattle.mt_steps.specs.Repeated.{Repeated, Change, by, but, on, changed, repeated, repeat, logged, ranges_of, changes_of}
use Rattle.mt_steps.proofs.Picking.{on_append, on_by, on_but}
use Rattle.mt_op.specs.World.{World, held_in, unfinished_in, IsWorld, looked_bytes, changes_in, IsUnderWay}
use Rattle.mt_op.specs.declared.scope.OpScope.{OpScope}
use Rattle.mt_op.specs.declared.scope.Stage.TheVariants.{Writing, Taking}
use Rattle.mt_op.proofs.Writing.{planned_held}
use Rattle.mt_op.proofs.Planned.{HasChanged, has_changed}

-- ---- what records leave unfinished

neither : (a b : Bool) → (a || b) ≡ false → (a ≡ false) × (b ≡ false)
neither true b is = absurd cc
neither false b is = (refl, is)

repeated_pages : (r : Repeated) (x : Record) (p : ℕ) → is_of_page p x ≡ false → on p r.unfinished ≡ [] → on p (repeated r x).unfinished ≡ []
repeated_pages r (Page txn op page image start old new) p other none = go (txn == 0)
  where
    c : Change
    c = record { op = op; page = page; start = start; old = old; new = new }

    go : (b : Bool) → on p (cond b r (changed r (c ∷ []))).unfinished ≡ []
    go true = none
    go false = on_append p r.unfinished (c ∷ []) ∙ ap (λ (cs : List Change). cs ++ on p (c ∷ [])) none ∙ ap (λ (b : Bool). cond b (c ∷ []) []) other
repeated_pages r (OpEnd txn op undoes done) p other none = on_but p op r.unfinished ∙ ap (but op) none
repeated_pages r (OpDropped txn op) p other none = on_but p op r.unfinished ∙ ap (but op) none
repeated_pages r (Commit txn) p other none = none
repeated_pages r (AbortEnd txn) p other none = none

repeat_pages : (records : List Record) (r : Repeated) (p : ℕ) → some_record (is_of_page p) records ≡ false → on p r.unfinished ≡ [] → on p (repeat r records).unfinished ≡ []
repeat_pages [] r p others none = none
repeat_pages (x ∷ xs) r p others none =
    let each = neither (is_of_page p x) (some_record (is_of_page p) xs) others in
    repeat_pages xs (repeated r x) p each.1 (repeated_pages r x p each.0 none)

-- a page without records has no unfinished changes
pub logged_pages : (f : PageBytes) (records : List Record) (p : ℕ) → some_record (is_of_page p) records ≡ false → on p (logged f records).unfinished ≡ []
logged_pages f records p others = repeat_pages records (record { pages = f; unfinished = [] }) p others refl

-- ---- what an operation changes

none_in : (xs ys : List Change) → xs ++ ys ≡ [] → (xs ≡ []) × (ys ≡ [])
none_in [] ys is = (refl, is)
none_in (x ∷ xs) ys is = absurd cc

ranges_here : (op p : ℕ) (old new : List ℕ) (es : List Edit) → 1 ≤ length es → on p (ranges_of op p old new es) ≡ [] → ⊥
ranges_here op p old new [] some none = absurd (omega arith)
ranges_here op p old new (e ∷ es) some none = let first = rw (eq-eqb p p refl) at none in cc

-- each page with an edit is changed
changes_here : (op : ℕ) (cs : List PageChange) (f : PageBytes) (c : PageChange) → All (λ (d : PageChange). 1 ≤ length d.edits.items) cs → Contains cs c → on c.page (changes_of op cs f) ≡ [] → ⊥
changes_here op [] f c some (k, lt, is) none = absurd (omega arith)
changes_here op (d ∷ ds) f c some (zero, lt, is) none =
    let rs = ranges_of op d.page (f d.page) (patched d.edits.items (f d.page)) d.edits.items in
    ranges_here op d.page (f d.page) (patched d.edits.items (f d.page)) d.edits.items (All-head (λ (e : PageChange). 1 ≤ length e.edits.items) d ds some)
    (ap (λ (e : PageChange). on e.page rs) is ∙ (none_in (on c.page rs) (on c.page (changes_of op ds f)) (sym (on_append c.page rs (changes_of op ds f)) ∙ none)).0)
changes_here op (d ∷ ds) f c some (suc k, lt, is) none =
    let rs = ranges_of op d.page (f d.page) (patched d.edits.items (f d.page)) d.edits.items in
    changes_here op ds f c (All-tail (λ (e : PageChange). 1 ≤ length e.edits.items) d ds some) (k, (omega arith), is)
    (none_in (on c.page rs) (on c.page (changes_of op ds f)) (sym (on_append c.page rs (changes_of op ds f)) ∙ none)).1

some_edits : (cs : List PageChange) (f : PageBytes) → AreShort cs f → All (λ (c : PageChange). 1 ≤ length c.edits.items) cs
some_edits [] f short = All-nil (λ (c : PageChange). 1 ≤ length c.edits.items)
some_edits (c ∷ cs) f short = All-cons (λ (d : PageChange). 1 ≤ length d.edits.items) c cs short.0.some (some_edits cs f short.2)

-- what it has written and not ended is in the log
pub has_record : (relations counters : ℕ) (w : World) (s : OpScope) → IsWorld relations counters w → IsUnderWay relations counters w s → (s.stage ≡ Writing) ⊎ (s.stage ≡ Taking) → (c : PageChange) → Contains (take s.written (changes_in s)) c
    → some_record (is_of_page c.page) w.records ≡ true
has_record relations counters w s h k stage c there = ⊎_elim
    (λ (is : some_record (is_of_page c.page) w.records ≡ true). is)
    (λ (others : some_record (is_of_page c.page) w.records ≡ false). absurd (changes_here s.number (take s.written (changes_in s)) (looked_bytes s) c
    (All-take (λ (d : PageChange). 1 ≤ length d.edits.items) s.written (changes_in s) (some_edits (changes_in s) (held_in w) (planned_held relations counters w s at.plan h k at.sees).short)) there
    (ap (on c.page) (sym at.done) ∙ on_by c.page s.number (unfinished_in w) ∙ ap (by s.number) (logged_pages w.opening w.records c.page others))))
    (cases_Bool (some_record (is_of_page c.page) w.records))
  where
    at : HasChanged relations counters w s
    at = has_changed relations counters w s k stage
