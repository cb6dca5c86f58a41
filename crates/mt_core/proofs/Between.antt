-- A step of an operation that ends nothing: the pages held stay with each beginning of what it appends.
use Rattle.std.proofs.Common.{◌≡◌, ⊎_elim, ℕ, false, ◌==◌, List, [], ◌∷◌, ◌++◌, Option, None, Contains, length, take, zero, suc, refl, sym, ap, ◌∙◌, subst, append-nil, length-append, arith}
use Rattle.std.specs.Prelude.{IsSome, Result, Ok, Err}
use Rattle.mt_base.specs.declared.refusal.Refusal.{Refusal}
use Rattle.std.proofs.lemmas.Bool.{ne_eqb}
use Rattle.std.proofs.lemmas.List.Elements.{All-contains}
use Rattle.mt_base.specs.Edits.{patched}
use Rattle.mt_base.specs.declared.edits.Edit.{Edit}
use Rattle.mt_frame.specs.declared.records.Record.{Record}
use Rattle.mt_frame.specs.declared.records.Record.TheVariants.{OpDropped}
use Rattle.mt_space.specs.Changes.{PageBytes, IsShort, AreShort}
use Rattle.mt_frame.specs.PageRecords.{change_records}
use Rattle.mt_space.specs.declared.changes.PageChange.{PageChange}
use Rattle.mt_frame.proofs.Redone.{AreWithin, patched_length}
use Rattle.mt_steps.specs.Logged.{logged_of}
use Rattle.mt_steps.specs.Plans.{IsPlanned}
use Rattle.mt_steps.specs.Repeated.{Repeated, Change, held, by, but, on, redo, put_back, changed, repeat, logged, ranges_of, changes_of}
use Rattle.mt_steps.proofs.Picking.{by_append, but_append, on_append, by_own, on_absent}
use Rattle.mt_steps.proofs.Ranged.{ranges_by, records_repeated, short_within}
use Rattle.mt_steps.proofs.Repeating.{logged_more, held_alone, held_changed}
use Rattle.mt_op.specs.World.{World, repeated_in, held_in, unfinished_in, IsWorld, looked, looked_bytes, changes_in, HasNothing, IsPlanning, IsWriting, IsAt, IsUnderWay}
use Rattle.mt_op.specs.Operations.{Goes, Steps}
use Rattle.mt_op.specs.Records.{end_with, HasPageMore, KeepsRecords, ReportsDropped, dropped_with}
use Rattle.mt_op.specs.Work.{IsGoing, ComesTo}
use Rattle.mt_op.specs.declared.answers.Stepped.{Stepped}
use Rattle.mt_op.specs.declared.answers.Stepped.TheVariants as stepped
use Rattle.mt_op.specs.declared.answers.TakenBack.{TakenBack}
use Rattle.mt_op.specs.declared.answers.TakenBack.TheVariants as taken
use Rattle.mt_op.specs.declared.scope.OpScope.{OpScope}
use Rattle.mt_op.specs.declared.scope.Stage.TheVariants.{Planning, Writing}
use Rattle.mt_op.proofs.Alone.{looked_alone}
use Rattle.mt_op.proofs.Staying.{repeated_more}
use Rattle.mt_op.proofs.Writing.{held_as_seen, planned_held}
use Rattle.mt_replay.specs.Recoverable.{LeadsOn}
use Rattle.mt_replay.specs.Recorded.{Recorded, plus_records, calls_in}
use Rattle.mt_core.proofs.Leads.{acts_lead}
use Rattle.mt_core.specs.Consistent.{Origin}
use Rattle.mt_core.specs.Restartable.{IsQuiet, AppendsQuietly, Appends}
use Rattle.mt_core.proofs.Ranges.{ranges_undone, within_front, ranges_front, first_ranges, ranges_on, ranges_count, on_one}

-- ---- lists

none_in : (xs ys : List Change) → xs ++ ys ≡ [] → (xs ≡ []) × (ys ≡ [])
none_in [] ys is = (refl, is)
none_in (x ∷ xs) ys is = absurd cc

no_edits : (op p : ℕ) (old new : List ℕ) (es : List Edit) → ranges_of op p old new es ≡ [] → es ≡ []
no_edits op p old new [] is = refl
no_edits op p old new (e ∷ es) is = absurd cc

first_none : (es fs : List Edit) → es ++ fs ≡ [] → es ≡ []
first_none [] fs is = refl
first_none (e ∷ es) fs is = absurd cc

short_in : (cs : List PageChange) (c : PageChange) (h : PageBytes) → AreShort cs h → Contains cs c → IsShort (h c.page) c
short_in [] c h short (k, lt, is) = absurd (omega arith)
short_in (d ∷ ds) c h short (zero, lt, is) = subst (λ (e : PageChange). IsShort (h e.page) e) is short.0
short_in (d ∷ ds) c h short (suc k, lt, is) = short_in ds c h short.2 (k, (omega arith), is)

empty_by_length : (xs : List Change) → length xs ≡ 0 → xs ≡ []
empty_by_length [] is = refl
empty_by_length (x ∷ xs) is = absurd (omega arith)

-- a list before another of the length of both is empty
alone_in : (xs ys zs : List Change) → xs ++ ys ≡ zs → length ys ≡ length zs → (xs ≡ []) × (ys ≡ zs)
alone_in xs ys zs is size =
    let n = length-append xs ys in
    let m : length (xs ++ ys) ≡ length zs = ap length is in
    let none = empty_by_length xs (omega arith) in
    (none, sym (ap (λ (ws : List Change). ws ++ ys) none) ∙ is)

-- records of pages say nothing of operations
quiet_changes : (txn op p : ℕ) (image : Option (List ℕ)) (old new : List ℕ) (es : List Edit) → calls_in (change_records txn op p image old new es) ≡ []
quiet_changes txn op p image old new [] = refl
quiet_changes txn op p image old new (e ∷ es) = quiet_changes txn op p None old new es

unreported_changes : (txn op p : ℕ) (image : Option (List ℕ)) (old new : List ℕ) (es : List Edit) (x : Recorded) → plus_records x (change_records txn op p image old new es) ≡ x
unreported_changes txn op p image old new [] x = refl
unreported_changes txn op p image old new (e ∷ es) x = unreported_changes txn op p None old new es x

-- ---- what a step appends

no_front : (front back : List Record) → [] ≡ front ++ back → front ≡ []
no_front [] back is = refl
no_front (x ∷ xs) back is = absurd cc

pub quiet_none : (opening : PageBytes) (records : List Record) → IsQuiet opening records []
quiet_none opening records = record { held = ap (λ (rs : List Record). held (logged opening rs)) (append-nil records); calls = refl; outcome = λ x. refl }

pub appends_none : (opening : PageBytes) (old new : List Record) → new ≡ old → AppendsQuietly opening old new
appends_none opening old new same = record {
  more = [];
  is = same ∙ sym (append-nil old);
  quiet = λ front back is. subst (IsQuiet opening old) (sym (no_front front back is)) (quiet_none opening old);
}

module _ (relations counters : ℕ) (w z : World) (s t : OpScope) (hz : IsWorld relations counters z) (g : Goes relations counters w z s t) (opening : z.opening ≡ w.opening)
    (c : PageChange) (image : Option (List ℕ)) (bytes : List ℕ) (there : Contains (changes_in t) c)
    (more : z.records ≡ w.records ++ change_records t.txn t.number c.page image bytes (patched c.edits.items bytes) c.edits.items) where
  abbrev es : List Edit
  es = c.edits.items

  abbrev after_all : List ℕ
  after_all = patched c.edits.items bytes

  abbrev ranges : List Change
  ranges = ranges_of t.number c.page bytes after_all es

  named : (t.txn == 0) ≡ false
  named = ne_eqb t.txn 0 (λ e. let some = g.own.txn.0 in omega arith)

  grown : repeated_in z ≡ changed (repeated_in w) ranges
  grown =
      repeated_more w z (change_records t.txn t.number c.page image bytes after_all es) opening more
      ∙ records_repeated t.txn t.number c.page bytes after_all image es (repeated_in w) named

  by_grown : by t.number (unfinished_in z) ≡ by t.number (unfinished_in w) ++ ranges
  by_grown =
      ap (λ (r : Repeated). by t.number r.unfinished) grown ∙ by_append t.number (unfinished_in w) ranges
      ∙ ap (λ (cs : List Change). by t.number (unfinished_in w) ++ cs) (by_own t.number ranges (ranges_by t.number c.page bytes after_all es))

  -- the first ranges, made and put back over what the records made of the pages before
  abbrev Restores : Type 0
  Restores = (first rest : List Edit) → es ≡ first ++ rest → put_back (ranges_of t.number c.page bytes after_all first) (redo (ranges_of t.number c.page bytes after_all first) (repeated_in w).pages) ≡ (repeated_in w).pages

  none_restores : ranges ≡ [] → Restores
  none_restores none first rest is =
      let empty : first ≡ [] = first_none first rest (sym is ∙ no_edits t.number c.page bytes after_all es none) in
      ap (λ (fs : List Edit). put_back (ranges_of t.number c.page bytes after_all fs) (redo (ranges_of t.number c.page bytes after_all fs) (repeated_in w).pages)) empty

  while_planning : HasNothing z t → Restores
  while_planning nothing = none_restores (none_in (by t.number (unfinished_in w)) ranges (sym by_grown ∙ nothing)).1

  while_writing : IsWriting relations counters z t → Restores
  while_writing now = ⊎_elim
      (λ (none : on c.page (changes_of t.number (take t.written (changes_in t)) (looked_bytes t)) ≡ []). none_restores (none_in (on c.page (by t.number (unfinished_in w))) ranges (on_grown ∙ none)).1)
      (λ (some : on c.page (changes_of t.number (take t.written (changes_in t)) (looked_bytes t)) ≡ seen_ranges). written some)
      (on_one t.number (changes_in t) t.written c (looked_bytes t) (held_in z) planned.short there)
    where
      planned : IsPlanned relations counters z.total (looked t) (held_in z) (changes_in t) t.op t.split now.plan.reply
      planned = planned_held relations counters z t now.plan hz g.own now.sees

      some_there : IsSome (looked t c.page)
      some_there = All-contains (λ (d : PageChange). IsSome (looked t d.page)) (changes_in t) c now.plan.there there

      seen_before : List ℕ
      seen_before = looked_bytes t c.page

      seen_ranges : List Change
      seen_ranges = ranges_of t.number c.page (looked_bytes t c.page) (patched c.edits.items (looked_bytes t c.page)) es

      held_there : held_in z c.page ≡ seen_before
      held_there = held_as_seen z t c.page now.sees some_there

      within : AreWithin (length seen_before) es
      within = short_within seen_before c (subst (λ (x : List ℕ). IsShort x c) held_there (short_in (changes_in t) c (held_in z) planned.short there))

      on_grown : on c.page (by t.number (unfinished_in w)) ++ ranges ≡ on c.page (changes_of t.number (take t.written (changes_in t)) (looked_bytes t))
      on_grown =
          sym (ap (λ (cs : List Change). on c.page (by t.number (unfinished_in w)) ++ cs) (ranges_on t.number c.page bytes after_all es))
          ∙ sym (on_append c.page (by t.number (unfinished_in w)) ranges) ∙ ap (on c.page) (sym by_grown ∙ now.done)

      others_before : on c.page (but t.number (unfinished_in w)) ≡ []
      others_before = (none_in (on c.page (but t.number (unfinished_in w))) (on c.page (but t.number ranges))
          (sym (on_append c.page (but t.number (unfinished_in w)) (but t.number ranges)) ∙ ap (on c.page) (sym (but_append t.number (unfinished_in w) ranges))
          ∙ sym (ap (λ (r : Repeated). on c.page (but t.number r.unfinished)) grown) ∙ looked_alone relations counters z t c.page hz g.own some_there)).0

      written : on c.page (changes_of t.number (take t.written (changes_in t)) (looked_bytes t)) ≡ seen_ranges → Restores
      written some first rest is =
          let n = ranges_count t.number c.page bytes after_all es in
          let m = ranges_count t.number c.page seen_before (patched es seen_before) es in
          let alone = alone_in (on c.page (by t.number (unfinished_in w))) ranges seen_ranges (on_grown ∙ some) (n ∙ sym m) in
          let none : on c.page (unfinished_in w) ≡ [] = sym (on_absent c.page t.number (unfinished_in w) alone.0) ∙ others_before in
          let shown : (repeated_in w).pages c.page ≡ seen_before = sym (held_alone (repeated_in w) c.page none) ∙ sym (ap (λ (f : PageBytes). f c.page) g.held) ∙ held_there in
          let same : ranges_of t.number c.page bytes after_all first ≡ ranges_of t.number c.page seen_before (patched es seen_before) first =
          ranges_front t.number c.page bytes after_all seen_before (patched es seen_before) first rest
          (subst (λ (fs : List Edit). ranges_of t.number c.page bytes after_all fs ≡ ranges_of t.number c.page seen_before (patched es seen_before) fs) is alone.1) in
          ap (λ (cs : List Change). put_back cs (redo cs (repeated_in w).pages)) same
          ∙ ranges_undone t.number c.page seen_before (patched es seen_before) first (repeated_in w).pages
          (within_front (length seen_before) first rest (subst (λ (fs : List Edit). AreWithin (length seen_before) fs) is within)) (patched_length es seen_before within) shown

  restores : IsGoing t.stage → Restores
  restores = ⊎_elim
      (λ (is : t.stage ≡ Planning). let now : IsPlanning z t = subst (IsAt relations counters z t) is g.own.at in while_planning now.nothing)
      (λ (is : t.stage ≡ Writing). while_writing (subst (IsAt relations counters z t) is g.own.at))

  appends_page : IsGoing t.stage → AppendsQuietly w.opening w.records z.records
  appends_page going = record {
    more = change_records t.txn t.number c.page image bytes after_all es;
    is = more;
    quiet = λ front back is.
        let k = first_ranges t.txn t.number c.page image bytes after_all es front back is in
        record {
          held = ap held (logged_more w.opening w.records front
              ∙ ap (repeat (repeated_in w)) k.records
              ∙ records_repeated t.txn t.number c.page bytes after_all image k.first (repeated_in w) named)
              ∙ held_changed (repeated_in w) (ranges_of t.number c.page bytes after_all k.first) (restores going k.first k.rest k.is);
          calls = ap calls_in k.records ∙ quiet_changes t.txn t.number c.page image bytes after_all k.first;
          outcome = λ x. ap (plus_records x) k.records ∙ unreported_changes t.txn t.number c.page image bytes after_all k.first x;
        };
  }

pub appends : (relations counters : ℕ) (w z : World) (s t : OpScope) → IsWorld relations counters z → Goes relations counters w z s t → z.opening ≡ w.opening → IsGoing t.stage → HasPageMore t w.records z.records → AppendsQuietly w.opening w.records z.records
appends relations counters w z s t hz g opening going = ⊎_elim
    (λ (same : z.records ≡ w.records). appends_none w.opening w.records z.records same)
    (λ (m : (c : PageChange) × (image : Option (List ℕ)) × (bytes : List ℕ) × Contains (changes_in t) c × (z.records ≡ w.records ++ change_records t.txn t.number c.page image bytes (patched c.edits.items bytes) c.edits.items)).
    appends_page relations counters w z s t hz g opening m.0 m.1 m.2 m.3 m.4 going)

-- ---- by its answers

pub step_appends : (origin : Origin) (w z : World) (s t : OpScope) (result : Result Stepped Refusal) → z.opening ≡ w.opening → w.opening ≡ origin.pages → z.total ≡ w.total → IsWorld origin.relations origin.counters z
    → Steps origin.relations origin.counters w z s t result → KeepsRecords t w.records z.records result → ComesTo t.stage result → Appends origin w.total w.records z.records t result
step_appends origin w z s t (Ok stepped.Went) same is total hz g more stage = subst (λ (p : PageBytes). AppendsQuietly p w.records z.records) is (appends origin.relations origin.counters w z s t hz g same stage more)
step_appends origin w z s t (Ok (stepped.Wait holder)) same is total hz g more stage = appends_none origin.pages w.records z.records more
step_appends origin w z s t (Ok (stepped.Again holder)) same is total hz g more stage = appends_none origin.pages w.records z.records more
step_appends origin w z s t (Ok stepped.Flush) same is total hz g more stage = appends_none origin.pages w.records z.records more
step_appends origin w z s t (Ok (stepped.Ready first second)) same is total hz a more stage = record {
  is = a.0.ended ∙ ap (λ (rs : List Record). w.records ++ rs) (λ i. end_with (sym a.0.same.txn i) (sym a.0.same.number i) (sym a.0.same.undoes i) (logged_of (sym a.0.same.op i) first));
  leads = subst (λ (p : PageBytes). LeadsOn origin.relations origin.counters w.total p w.records → LeadsOn origin.relations origin.counters w.total p z.records) is
      (acts_lead origin.relations origin.counters w z s t first same total hz a.0);
}
step_appends origin w z s t (Err why) same is total hz g more stage = appends_none origin.pages w.records z.records more

-- of as many pages
pub goes_total : (relations counters : ℕ) (w z : World) (s t : OpScope) → IsUnderWay relations counters w s → Goes relations counters w z s t → z.total ≡ w.total
goes_total relations counters w z s t k g = sym g.own.total ∙ g.same.total ∙ k.total

pub step_total : (relations counters : ℕ) (w z : World) (s t : OpScope) (result : Result Stepped Refusal) → IsUnderWay relations counters w s → Steps relations counters w z s t result → z.total ≡ w.total
step_total relations counters w z s t (Ok stepped.Went) k g = goes_total relations counters w z s t k g
step_total relations counters w z s t (Ok (stepped.Wait holder)) k g = goes_total relations counters w z s t k g
step_total relations counters w z s t (Ok (stepped.Again holder)) k g = goes_total relations counters w z s t k g
step_total relations counters w z s t (Ok stepped.Flush) k g = goes_total relations counters w z s t k g
step_total relations counters w z s t (Ok (stepped.Ready first second)) k a = sym a.0.own.total ∙ a.0.same.total ∙ k.total
step_total relations counters w z s t (Err why) k g = goes_total relations counters w z s t k g

-- ---- a taking back

pub back_appends : (relations counters : ℕ) (w z : World) (s t : OpScope) (result : Result TakenBack Refusal) → z.opening ≡ w.opening → Goes relations counters w z s t → ReportsDropped s w.records z.records result → AppendsQuietly w.opening w.records z.records
back_appends relations counters w z s t (Ok taken.Clear) opening g more = go s.standing refl
  where
    go : (n : ℕ) → s.standing ≡ n → AppendsQuietly w.opening w.records z.records
    go zero is = appends_none w.opening w.records z.records (more ∙ ap (λ (n : ℕ). w.records ++ dropped_with s.txn s.number n) is ∙ append-nil w.records)
    go (suc n) is =
        let now : z.records ≡ w.records ++ OpDropped s.txn s.number ∷ [] = more ∙ ap (λ (n : ℕ). w.records ++ dropped_with s.txn s.number n) is in
        record { more = OpDropped s.txn s.number ∷ []; is = now; quiet = each now }
      where
        heads : (x y : Record) (xs ys : List Record) → x ∷ xs ≡ y ∷ ys → x ≡ y
        heads x y xs ys is = cc

        tails : (x y : Record) (xs ys : List Record) → x ∷ xs ≡ y ∷ ys → xs ≡ ys
        tails x y xs ys is = cc

        whole : (x : Record) (xs back : List Record) → OpDropped s.txn s.number ∷ [] ≡ x ∷ xs ++ back → OpDropped s.txn s.number ∷ [] ≡ x ∷ xs
        whole x xs back same =
            let head : OpDropped s.txn s.number ≡ x = heads (OpDropped s.txn s.number) x [] (xs ++ back) same in
            let tail : [] ≡ xs ++ back = tails (OpDropped s.txn s.number) x [] (xs ++ back) same in
            λ i. head i ∷ sym (no_front xs back tail) i

        each : z.records ≡ w.records ++ OpDropped s.txn s.number ∷ [] → (front back : List Record) → OpDropped s.txn s.number ∷ [] ≡ front ++ back → IsQuiet w.opening w.records front
        each now [] back same = quiet_none w.opening w.records
        each now (x ∷ xs) back same = subst (IsQuiet w.opening w.records) (whole x xs back same) (record { held = sym (λ i. held (logged (opening i) (now i))) ∙ g.held; calls = refl; outcome = λ y. refl })
back_appends relations counters w z s t (Ok taken.More) opening g more = appends_none w.opening w.records z.records more
back_appends relations counters w z s t (Ok taken.Flush) opening g more = appends_none w.opening w.records z.records more
back_appends relations counters w z s t (Err why) opening g more = appends_none w.opening w.records z.records more
