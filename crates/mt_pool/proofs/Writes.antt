-- The records of a change of one page: its images, the grammar, and the rules.
use Rattle.std.proofs.Common.{◌≡◌, ◌≢◌, ◌⊎◌, inl, inr, ⊎_elim, ℕ, suc, ◌+◌, ◌-◌, ◌<◌, ◌≤◌, List, [], ◌∷◌, ◌++◌, length, get_or, refl, sym, ◌∙◌, ap, subst, arith, false, true, Bool, Option, None, Some}
use Rattle.std.specs.Prelude.{All, ◌||◌, ◌&&◌, ◌==◌, not, if◌then◌else◌, cond, is_some}
use Rattle.std.specs.List.{AllByRecursion}
use Rattle.std.proofs.lemmas.Bool.{cases_eq, eqb-true, eq-eqb}
use Rattle.mt_disk.specs.declared.device.Device.{Ghosts}
use Rattle.mt_base.specs.Edits.{patched, log_size, IsShortest}
use Rattle.mt_base.specs.Ranges.{part}
use Rattle.mt_base.specs.declared.edits.Edit.{Edit}
use Rattle.mt_base.proofs.Places.{part_length}
use Rattle.mt_frame.specs.declared.records.Record.{Record}
use Rattle.mt_frame.specs.declared.records.Record.TheVariants.{Page, OpEnd, OpDropped, Commit, AbortEnd}
use Rattle.mt_frame.specs.Grammar.{IsRecord, IsTxn, IsOp, IsImage, IsPageRecord}
use Rattle.mt_area_rules.specs.History.{some_record, is_of_page, ends_txn, ends_op, MayFollow}
use Rattle.mt_frame.specs.Lengths.{image_length}
use Rattle.mt_log.specs.Holds.{HasItsPage}
use Rattle.mt_pool.specs.Images.{has_image, page_in, slot}
use Rattle.mt_pool.specs.Views.{IsPool, pages, IsThere, held, view, waits_for}
use Rattle.mt_pool.specs.declared.pool.Pool.{Pool}
use Rattle.mt_log.specs.Words.{appended}
use Rattle.mt_space.specs.Changes.{IsShort}
use Rattle.mt_space.specs.declared.changes.PageChange.{PageChange}
use Rattle.mt_pool.specs.Kept.{carried}
use Rattle.mt_pool.specs.declared.store.Store.{Store}
use Rattle.mt_frame.specs.PageRecords.{range_record, change_records}
use Rattle.mt_frame.proofs.Redone.{patched_length, shortest_within}
use Rattle.mt_pool.specs.Writes.{IsAsLeft, due_image, due_records, records_size, IsUnfinished}
use Rattle.std.proofs.lemmas.List.Elements.{recursion_from_All, All-weaker}
use Rattle.mt_pool.proofs.Safe.{bool_cases, has_all}
use Rattle.mt_pool.proofs.Logged.{AreImagesFirst, no_records}
use Rattle.mt_pool.proofs.Steady.{IsSteady}

-- a page in a frame is whole, and is there whatever its slot has
pub view_whole : (pool : Pool) (seen : List ℕ) (page : ℕ) → IsPool pool → IsThere pool page → length (view pool seen page) ≡ 4096
view_whole pool seen page ok there =
    let named = ok.names.there page there.0 there.1 in
    ap (λ (o : Option ℕ). length (held o pool.bytes.items (slot pool.place seen page))) there.1 ∙ ok.whole there.0 (omega (arith, named.0, ok.holds))

pub view_any : (pool : Pool) (seen seen2 : List ℕ) (page : ℕ) → IsThere pool page → view pool seen page ≡ view pool seen2 page
view_any pool seen seen2 page there =
    ap (λ (o : Option ℕ). held o pool.bytes.items (slot pool.place seen page)) there.1 ∙ sym (ap (λ (o : Option ℕ). held o pool.bytes.items (slot pool.place seen2 page)) there.1)

-- ---- the image that is due

pub due_cases : (pool : Pool) (page : ℕ) (bytes : List ℕ) → ((waits_for pool page ≡ 0) × (due_image pool page bytes ≡ Some bytes)) ⊎ ((waits_for pool page ≢ 0) × (due_image pool page bytes ≡ None))
due_cases pool page bytes = ⊎_elim
    (λ (none : waits_for pool page ≡ 0). inl (none, ap (λ b. cond b (Some bytes) None) (eq-eqb (waits_for pool page) 0 none)))
    (λ (some : waits_for pool page ≢ 0). inr (some, ⊎_elim (λ is. absurd (some (eqb-true (waits_for pool page) 0 is))) (λ other. ap (λ b. cond b (Some bytes) None) other) (bool_cases (waits_for pool page == 0))))
    (cases_eq (waits_for pool page) 0)

module _ (txn op page : ℕ) (old new : List ℕ) where
  -- ---- images

  bare : (es : List Edit) (q : ℕ) → has_image (carried (change_records txn op page None old new es)) q ≡ false
  bare [] q = refl
  bare (e ∷ es) q = bare es q

  pub length-changes : (image : Option (List ℕ)) (es : List Edit) → length (change_records txn op page image old new es) ≡ length es
  length-changes image [] = refl
  length-changes image (e ∷ es) = ap suc (length-changes None es)

  one_page : (p q : ℕ) (b : Bool) → p ≢ q → b ≡ false → (p == q) || b ≡ false
  one_page p q b differ is = ⊎_elim (λ same. absurd (differ (eqb-true p q same))) (λ other. ap (λ x. x || b) other ∙ is) (bool_cases (p == q))

  this_page : (p : ℕ) (b : Bool) → (p == p) || b ≡ true
  this_page p b = ap (λ x. x || b) (eq-eqb p p refl)

  image_first : (pool : Pool) (seen : List ℕ) (es : List Edit) (image : Option (List ℕ)) → 0 < length es → ((waits_for pool page ≡ 0) × (image ≡ Some (view pool seen page))) ⊎ ((waits_for pool page ≢ 0) × (image ≡ None))
      → AreImagesFirst pool seen page (carried (change_records txn op page image old new es))
  image_first pool seen [] image some due = absurd (omega arith)
  image_first pool seen (e ∷ es) None some due = record {
    others = λ q differ. bare es q;
    only = λ has. absurd (let t = bare es page in cc);
    due = λ none. ⊎_elim (λ d. absurd (let t = d.1 in cc)) (λ d. absurd (d.0 none)) due;
  }
  image_first pool seen (e ∷ es) (Some i) some due = record {
    others = λ q differ. one_page page q (has_image (carried (change_records txn op page None old new es)) q) (λ same. differ (sym same)) (bare es q);
    only = λ has d. ⊎_elim
        (λ is. (is.0, ap (λ b. cond b i (page_in (carried (change_records txn op page None old new es)) page d)) (eq-eqb page page refl) ∙ same_some i (view pool seen page) is.1))
        (λ is. absurd (let t = is.1 in cc)) due;
    due = λ none. this_page page (has_image (carried (change_records txn op page None old new es)) page);
  }
    where
      same_some : (a b : List ℕ) → Some a ≡ Some b → a ≡ b
      same_some a b e = ap (λ (x : Option (List ℕ)). elim x [ None ↦ a | Some y ↦ y ]) e

  pub changes_images : (pool : Pool) (seen : List ℕ) (es : List Edit) → 0 < length es → AreImagesFirst pool seen page (carried (change_records txn op page (due_image pool page (view pool seen page)) old new es))
  changes_images pool seen es some = image_first pool seen es (due_image pool page (view pool seen page)) some (due_cases pool page (view pool seen page))

  -- ---- pages

  pub other_pages : (image : Option (List ℕ)) (es : List Edit) (q : ℕ) → q ≢ page → some_record (is_of_page q) (change_records txn op page image old new es) ≡ false
  other_pages image [] q differ = refl
  other_pages image (e ∷ es) q differ = one_page page q (some_record (is_of_page q) (change_records txn op page None old new es)) (λ same. differ (sym same)) (other_pages None es q differ)

  pub own_pages : (pages : ℕ) → page < pages → (image : Option (List ℕ)) (es : List Edit) → AllByRecursion (HasItsPage pages) (change_records txn op page image old new es)
  own_pages pages lt image [] = tt
  own_pages pages lt image (e ∷ es) = (lt, own_pages pages lt None es)

  -- they end nothing
  none_of : (is : Record → Bool) → ((image : Option (List ℕ)) (e : Edit) → is (range_record txn op page image old new e) ≡ false) → (image : Option (List ℕ)) (es : List Edit) → some_record is (change_records txn op page image old new es) ≡ false
  none_of is never image [] = refl
  none_of is never image (e ∷ es) = ap (λ b. b || some_record is (change_records txn op page None old new es)) (never image e) ∙ none_of is never None es

  pub ends_nothing : (t o : ℕ) (earlier : List Record) (image : Option (List ℕ)) (es : List Edit) → IsUnfinished t o earlier → IsUnfinished t o (earlier ++ change_records txn op page image old new es)
  ends_nothing t o earlier image es u = record {
    transaction = no_records (ends_txn t) earlier (change_records txn op page image old new es) u.transaction (none_of (ends_txn t) (λ i e. refl) image es);
    operation = no_records (ends_op o) earlier (change_records txn op page image old new es) u.operation (none_of (ends_op o) (λ i e. refl) image es);
  }

  -- ---- the grammar

  module _ (is_txn : IsTxn txn) (is_op : IsOp op) (few : page < 4000) (old_size : length old ≡ 4096) (new_size : length new ≡ 4096) where
    is_record : (image : Option (List ℕ)) → IsImage image → (e : Edit) → IsShortest old new e → IsPageRecord txn op page image e.start (part old e.start (length e.bytes)) (part new e.start (length e.bytes))
    is_record image whole e short =
        let w = short.within in
        let some = short.some in
        let before = part_length old e.start (length e.bytes) w in
        let behind = part_length new e.start (length e.bytes) (omega (arith, w, old_size, new_size)) in
        let n = length e.bytes in
        record {
          txn_below = is_txn.1;
          op_below = is_op.1;
          page_below = few;
          whole = whole;
          same_length = behind.0 ∙ sym before.0;
          in_page = omega (arith, before.0, w, old_size);
          alone = λ none. absurd (let low = is_txn.0 in omega arith);
          change = λ real. record {
            operation = is_op.0;
            some_bytes = omega (arith, before.0, some);
            first_changes = λ same. short.first (ap (λ (x : ℕ). get_or old x 0) (omega arith) ∙ sym (before.1 0 (omega arith)) ∙ same ∙ behind.1 0 (omega arith) ∙ ap (λ (x : ℕ). get_or new x 0) (omega arith));
            last_changes = λ same. short.last (ap (λ (x : ℕ). get_or old x 0) (omega arith) ∙ sym (before.1 (n - 1) (omega arith)) ∙ ap (λ (x : ℕ). get_or (part old e.start n) (x - 1) 0) (sym before.0) ∙ same
                ∙ ap (λ (x : ℕ). get_or (part new e.start n) (x - 1) 0) behind.0 ∙ behind.1 (n - 1) (omega arith) ∙ ap (λ (x : ℕ). get_or new x 0) (omega arith));
          };
        }

    pub are_records : (image : Option (List ℕ)) → IsImage image → (es : List Edit) → AllByRecursion (IsShortest old new) es → AllByRecursion IsRecord (change_records txn op page image old new es)
    are_records image whole [] short = tt
    are_records image whole (e ∷ es) short = (is_record image whole e short.0, are_records None tt es short.1)

  -- ---- the size

  pub changes_size : (image : Option (List ℕ)) (es : List Edit) → AllByRecursion (IsShortest old new) es → length old ≡ length new → records_size (change_records txn op page image old new es) ≤ log_size es + image_length image
  changes_size image [] short same = omega arith
  changes_size image (e ∷ es) short same =
      let w = short.0.within in
      let before = part_length old e.start (length e.bytes) w in
      let behind = part_length new e.start (length e.bytes) (omega (arith, w, same)) in
      omega (arith, before.0, behind.0, changes_size None es short.1 same)

  -- ---- the rules

  stands : (a b c d : Bool) → a ≡ false → b ≡ false → c ≡ false → d ≡ true → not a && (not b && (not c && (true && d))) ≡ true
  stands a b c d fa fb fc td = ap (λ x. not x && (not b && (not c && (true && d)))) fa ∙ ap (λ x. not x && (not c && (true && d))) fb ∙ ap (λ x. not x && (true && d)) fc ∙ td

  module _ (is_txn : IsTxn txn) where
    not_zero : (txn == 0) ≡ false
    not_zero = ⊎_elim (λ is. absurd (let e = eqb-true txn 0 is in let low = is_txn.0 in omega arith)) (λ other. other) (bool_cases (txn == 0))

    later : (earlier : List Record) (r : Record) → IsUnfinished txn op earlier → some_record (ends_txn txn) (r ∷ []) ≡ false → some_record (ends_op op) (r ∷ []) ≡ false → IsUnfinished txn op (earlier ++ r ∷ [])
    later earlier r u t o = record {
      transaction = no_records (ends_txn txn) earlier (r ∷ []) u.transaction t;
      operation = no_records (ends_op op) earlier (r ∷ []) u.operation o;
    }

    some_behind : (is : Record → Bool) (xs ys : List Record) → some_record is ys ≡ true → some_record is (xs ++ ys) ≡ true
    some_behind is [] ys some = some
    some_behind is (x ∷ xs) ys some = or_true (is x) (some_record is (xs ++ ys)) (some_behind is xs ys some)
      where
        or_true : (b x : Bool) → x ≡ true → (b || x) ≡ true
        or_true true x h = refl
        or_true false x h = h

    follow_on : (earlier : List Record) (es : List Edit) → some_record (is_of_page page) earlier ≡ true → IsUnfinished txn op earlier → MayFollow false earlier (change_records txn op page None old new es)
    follow_on earlier [] named u = tt
    follow_on earlier (e ∷ es) named u = (
      stands (txn == 0) (some_record (ends_txn txn) earlier) (some_record (ends_op op) earlier) (some_record (is_of_page page) earlier) not_zero u.transaction u.operation named,
      follow_on (earlier ++ range_record txn op page None old new e ∷ []) es (some_behind (is_of_page page) earlier (range_record txn op page None old new e ∷ []) (this_page page false)) (later earlier (range_record txn op page None old new e) u refl refl),
    )

    pub changes_may : (earlier : List Record) (image : Option (List ℕ)) (es : List Edit) → (if is_some image then not (some_record (is_of_page page) earlier) else some_record (is_of_page page) earlier) ≡ true
        → IsUnfinished txn op earlier → MayFollow false earlier (change_records txn op page image old new es)
    changes_may earlier image [] first u = tt
    changes_may earlier image (e ∷ es) first u = (
      stands (txn == 0) (some_record (ends_txn txn) earlier) (some_record (ends_op op) earlier) (if is_some image then not (some_record (is_of_page page) earlier) else some_record (is_of_page page) earlier) not_zero u.transaction u.operation first,
      follow_on (earlier ++ range_record txn op page image old new e ∷ []) es (some_behind (is_of_page page) earlier (range_record txn op page image old new e ∷ []) (this_page page false)) (later earlier (range_record txn op page image old new e) u refl refl),
    )

-- an image of a page stands in a record of it
pub image_named : (p : ℕ) (rs : List Record) → has_image (carried rs) p ≡ true → some_record (is_of_page p) rs ≡ true
image_named p [] has = absurd (cc)
image_named p (Page txn op page None start old new ∷ rs) has = or_more (page == p) (some_record (is_of_page p) rs) (image_named p rs has)
  where
    or_more : (b x : Bool) → x ≡ true → (b || x) ≡ true
    or_more true x h = refl
    or_more false x h = h
image_named p (Page txn op page (Some i) start old new ∷ rs) has = either (page == p) (has_image (carried rs) p) (some_record (is_of_page p) rs) (image_named p rs) has
  where
    either : (b x y : Bool) → (x ≡ true → y ≡ true) → (b || x) ≡ true → (b || y) ≡ true
    either true x y f h = refl
    either false x y f h = f h
image_named p (OpEnd txn op undoes done ∷ rs) has = image_named p rs has
image_named p (OpDropped txn op ∷ rs) has = image_named p rs has
image_named p (Commit txn ∷ rs) has = image_named p rs has
image_named p (AbortEnd txn ∷ rs) has = image_named p rs has

-- ---- a change of a store's page

-- each of its ranges lies in the page
pub edits_within : (old : List ℕ) (c : PageChange) → length old ≡ 4096 → IsShort old c → All (λ (e : Edit). e.start + length e.bytes ≤ 4096) c.edits.items
edits_within old c whole short = All-weaker (IsShortest old (patched c.edits.items old)) (λ (e : Edit). e.start + length e.bytes ≤ 4096) (λ e range. let within = range.within in omega (arith, whole)) c.edits.items short.ranges

-- each has the bytes of the page as all of them leave it
pub edits_left : (old : List ℕ) (c : PageChange) → IsShort old c → All (IsAsLeft (patched c.edits.items old)) c.edits.items
edits_left old c short = All-weaker (IsShortest old (patched c.edits.items old)) (IsAsLeft (patched c.edits.items old)) (λ e range. range.bytes) c.edits.items short.ranges

module _ {D : Type 0} (g : Ghosts D) (s : Store D) (k : IsSteady g s) (txn op : ℕ) (change : PageChange)
    (there : IsThere s.pool change.page) (inside : change.page < pages s.pool) (short : IsShort (view s.pool (g.seen s.device) change.page) change) (numbers : IsTxn txn × IsOp op) where
  abbrev pub page_now : List ℕ
  page_now = view s.pool (g.seen s.device) change.page

  abbrev pub records_now : List Record
  records_now = due_records s.pool txn op change page_now

  -- whatever its slot has
  pub now_any : (other : List ℕ) → due_records s.pool txn op change (view s.pool other change.page) ≡ records_now
  now_any other = ap (due_records s.pool txn op change) (view_any s.pool other (g.seen s.device) change.page there)

  whole : length page_now ≡ 4096
  whole = view_whole s.pool (g.seen s.device) change.page k.frames there

  each : AllByRecursion (IsShortest page_now (patched change.edits.items page_now)) change.edits.items
  each = recursion_from_All (IsShortest page_now (patched change.edits.items page_now)) change.edits.items short.ranges

  new_size : length (patched change.edits.items page_now) ≡ 4096
  new_size = patched_length change.edits.items page_now (shortest_within page_now (patched change.edits.items page_now) change.edits.items each) ∙ whole

  image_whole : (due : Option (List ℕ)) → ((waits_for s.pool change.page ≡ 0) × (due ≡ Some page_now)) ⊎ ((waits_for s.pool change.page ≢ 0) × (due ≡ None)) → IsImage due × (image_length due ≤ 4096)
  image_whole due (inl is) = (subst IsImage (sym is.1) whole, omega (arith, ap image_length is.1, whole))
  image_whole due (inr is) = (subst IsImage (sym is.1) tt, omega (arith, ap image_length is.1))

  pub now_records : AllByRecursion IsRecord records_now
  now_records = are_records txn op change.page page_now (patched change.edits.items page_now) numbers.0 numbers.1 (let f = k.few in omega (arith, inside)) whole new_size (due_image s.pool change.page page_now)
      (image_whole _ (due_cases s.pool change.page page_now)).0 change.edits.items each

  pub now_some : 0 < length records_now
  now_some = let s2 = short.some in omega (arith, s2, length-changes txn op change.page page_now (patched change.edits.items page_now) (due_image s.pool change.page page_now) change.edits.items)

  pub now_size : records_size records_now ≤ log_size change.edits.items + 4096
  now_size = omega (arith, changes_size txn op change.page page_now (patched change.edits.items page_now) (due_image s.pool change.page page_now) change.edits.items each (whole ∙ sym new_size), (image_whole _ (due_cases s.pool change.page page_now)).1)

  pub now_pages : AllByRecursion (HasItsPage (pages s.pool)) records_now
  now_pages = own_pages txn op change.page page_now (patched change.edits.items page_now) (pages s.pool) inside (due_image s.pool change.page page_now) change.edits.items

  first : (due : Option (List ℕ)) → ((waits_for s.pool change.page ≡ 0) × (due ≡ Some page_now)) ⊎ ((waits_for s.pool change.page ≢ 0) × (due ≡ None))
      → (if is_some due then not (some_record (is_of_page change.page) (appended s.log)) else some_record (is_of_page change.page) (appended s.log)) ≡ true
  first due (inl is) = ap (λ (i : Option (List ℕ)). if is_some i then not (some_record (is_of_page change.page) (appended s.log)) else some_record (is_of_page change.page) (appended s.log)) is.1
      ∙ ap not (k.unnamed change.page inside is.0)
  first due (inr is) = ap (λ (i : Option (List ℕ)). if is_some i then not (some_record (is_of_page change.page) (appended s.log)) else some_record (is_of_page change.page) (appended s.log)) is.1
      ∙ image_named change.page (appended s.log) (has_all change.page (carried (appended s.log)) (waits_for s.pool change.page) (k.imaged change.page inside (let n = is.0 in omega (arith, n))))

  pub now_may : IsUnfinished txn op (appended s.log) → MayFollow false (appended s.log) records_now
  now_may u = changes_may txn op change.page page_now (patched change.edits.items page_now) numbers.0 (appended s.log) (due_image s.pool change.page page_now) change.edits.items (first _ (due_cases s.pool change.page page_now)) u
