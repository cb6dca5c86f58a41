-- What records leave unfinished, put back from the last record on.
use Rattle.std.proofs.Common.{◌≡◌, ℕ, zero, suc, ◌+◌, ◌<◌, Bool, true, false, not, cond, ◌==◌, ◌&&◌, ◌||◌, List, [], ◌∷◌, ◌++◌, length, get_or, set, drop, Option, None, Some, is_some, Vec, Global, map, refl, sym, ap, ◌∙◌, subst, arith, append_assoc}
use Rattle.std.specs.BTreeMap.{get, is_at}
use Rattle.std.specs.BTreeSet.{BTreeSet, contains, UpdatesBy}
use Rattle.std.specs.Map.{keys_of, lookup}
use Rattle.std.specs.Ordering.{eq_by_cmp, nat_cmp}
use Rattle.std.specs.Set.{is_member}
use Rattle.std.proofs.lemmas.Bool.{eq-eqb}
use Rattle.std.proofs.lemmas.List.{append-nil}
use Rattle.std.proofs.lemmas.List.Elements.{filter-append}
use Rattle.mt_base.specs.Edits.{splice}
use Rattle.mt_area_rules.specs.History.{some_record}
use Rattle.mt_area_rules.proofs.RuleLaws.{is_at_number}
use Rattle.mt_frame.specs.declared.records.Record.{Record}
use Rattle.mt_frame.specs.declared.records.Record.TheVariants.{Page, OpEnd, OpDropped, Commit, AbortEnd}
use Rattle.mt_log.specs.Batch.{joined}
use Rattle.mt_log.specs.Found.{records_of}
use Rattle.mt_log.specs.declared.batch.Batch.{Batch}
use Rattle.mt_space.specs.Changes.{PageBytes}
use Rattle.mt_steps.specs.Repeated.{Change, Repeated, by, held, logged, put_back, repeat, repeated}
use Rattle.mt_space.specs.PageLists.{AreWhole}
use Rattle.mt_replay.specs.Memory.{AreFirst}
use Rattle.mt_replay.specs.Passes.{AreKnown, Backs, IsBackTo, IsShown, before, change_by, replaced_in, ends_it, left, stays}
use Rattle.mt_replay.specs.declared.repeat.Repeating.{Repeating}
use Rattle.mt_replay.specs.declared.repeat.TakingBack.{TakingBack}
use Rattle.mt_replay.specs.declared.repeat.Unfinished.{Unfinished}
use Rattle.mt_replay.proofs.Imaged.{record_at}
use Rattle.mt_replay.proofs.Restoring.{first_placed}
use Rattle.mt_replay.proofs.Walking.{filter_all, filter_alike, filter_both, same_sides}
use Rattle.std.specs.Prelude.{filter}

left_ended : (a s : Bool) → (not a && not s) ≡ not (a || s)
left_ended true s = refl
left_ended false s = refl

-- ---- the changes that the records leave, and those before them

step_end : (op : ℕ) (rs : List Record) (cs : List Change) → filter (stays rs) (filter (λ (c : Change). not (c.op == op)) cs) ≡ filter (λ (c : Change). not ((op == c.op) || some_record (ends_it c.op) rs)) cs ++ []
step_end op rs cs =
    filter_both (stays rs) (λ (c : Change). not (c.op == op)) cs
    ∙ filter_alike (λ (c : Change). not (c.op == op) && stays rs c) (λ (c : Change). not ((op == c.op) || some_record (ends_it c.op) rs))
    (λ c. left_ended (c.op == op) (some_record (ends_it c.op) rs) ∙ ap (λ (a : Bool). not (a || some_record (ends_it c.op) rs)) (same_sides c.op op)) cs
    ∙ sym (append-nil (filter (λ (c : Change). not ((op == c.op) || some_record (ends_it c.op) rs)) cs))

step_page : (x : Repeated) (c : Change) (rs : List Record) (b : Bool)
    → filter (stays rs) (cond b x (record { pages = x.pages; unfinished = x.unfinished ++ c ∷ [] })).unfinished ≡ filter (stays rs) x.unfinished ++ filter (stays rs) (cond b [] (c ∷ []))
step_page x c rs true = sym (append-nil (filter (stays rs) x.unfinished))
step_page x c rs false = filter-append (stays rs) x.unfinished (c ∷ [])

step_open : (b : Bool) (x y : Repeated) → (cond b x y).unfinished ≡ cond b x.unfinished y.unfinished
step_open true x y = refl
step_open false x y = refl

step : (x : Repeated) (r : Record) (rs : List Record) → filter (stays rs) (repeated x r).unfinished ≡ filter (stays (r ∷ rs)) x.unfinished ++ filter (stays rs) (change_by r)
step x (Page txn op page image start old new) rs =
    ap (filter (stays rs)) (step_open (txn == 0) x _)
    ∙ sym (ap (filter (stays rs)) (step_open (txn == 0) x (record { pages = x.pages; unfinished = x.unfinished ++ record { op = op; page = page; start = start; old = old; new = new } ∷ [] })))
    ∙ step_page x (record { op = op; page = page; start = start; old = old; new = new }) rs (txn == 0)
step x (OpEnd txn op undoes done) rs = step_end op rs x.unfinished
step x (OpDropped txn op) rs = step_end op rs x.unfinished
step x (Commit txn) rs = sym (append-nil (filter (stays rs) x.unfinished))
step x (AbortEnd txn) rs = sym (append-nil (filter (stays rs) x.unfinished))

unfinished_is : (x : Repeated) (rs : List Record) → (repeat x rs).unfinished ≡ filter (stays rs) x.unfinished ++ left rs
unfinished_is x [] = sym (append-nil (filter (stays []) x.unfinished) ∙ filter_all x.unfinished)
unfinished_is x (r ∷ rs) =
    unfinished_is (repeated x r) rs
    ∙ ap (λ (cs : List Change). cs ++ left rs) (step x r rs)
    ∙ append_assoc (filter (stays (r ∷ rs)) x.unfinished) (filter (stays rs) (change_by r)) (left rs)

pub held_is : (f : PageBytes) (rs : List Record) → held (logged f rs) ≡ put_back (left rs) (logged f rs).pages
held_is f rs = ap (λ (cs : List Change). put_back cs (logged f rs).pages) (unfinished_is (record { pages = f; unfinished = [] }) rs)

-- ---- what is known of the changes

known_behind : (known : ℕ → Bool) (cs ds : List Change) → AreKnown known (cs ++ ds) → AreKnown known ds
known_behind known [] ds all = all
known_behind known (c ∷ cs) ds all = known_behind known cs ds all.1

known_suffix : (known : ℕ → Bool) (xs ys : List Record) → AreKnown known (left (xs ++ ys)) → AreKnown known (left ys)
known_suffix known [] ys all = all
known_suffix known (x ∷ xs) ys all = known_suffix known xs ys (known_behind known (filter (stays (xs ++ ys)) (change_by x)) (left (xs ++ ys)) all)

pub known_drop : (known : ℕ → Bool) (bs : List Batch) (i : ℕ) → AreKnown known (left (joined (records_of bs))) → AreKnown known (left (joined (records_of (drop i bs))))
known_drop known bs zero all = all
known_drop known [] (suc i) all = all
known_drop known (b ∷ bs) (suc i) all = known_drop known bs i (known_suffix known b.records.items (joined (records_of bs)) all)

some_items : (c : Change) (cs : List Change) → c ∷ cs ≡ [] → ⊥
some_items c cs is = let longer : length (c ∷ cs) ≡ 0 = ap length is in omega arith

pub known_all : (known : ℕ → Bool) (cs : List Change) → ((o : ℕ) → known o ≡ false → by o cs ≡ []) → AreKnown known cs
known_all known [] none = tt
known_all known (c ∷ cs) none = (first (known c.op) refl, known_all known cs (λ o other. rest o (c.op == o) (none o other)))
  where
    first : (b : Bool) → known c.op ≡ b → known c.op ≡ true
    first true is = is
    first false is = absurd (some_items c (by c.op cs) (sym (ap (λ (b : Bool). cond b (c ∷ by c.op cs) (by c.op cs)) (eq-eqb c.op c.op refl)) ∙ none c.op is))

    rest : (o : ℕ) (b : Bool) → cond b (c ∷ by o cs) (by o cs) ≡ [] → by o cs ≡ []
    rest o true is = absurd (some_items c (by o cs) is)
    rest o false is = is

none_in : (v : Option (Vec Unfinished Global)) → is_some v ≡ false → replaced_in v ≡ []
none_in None is = refl
none_in (Some list) is = let no : true ≡ false = is in cc

none_before : (cs : List Change) → map before cs ≡ [] → cs ≡ []
none_before [] is = refl
none_before (c ∷ cs) is = absurd (let longer : length (map before (c ∷ cs)) ≡ 0 = ap length is in omega arith)

-- what is in memory is known, and no more
pub known_shown : (r : Repeating) (f : PageBytes) (rs : List Record) → IsShown r (logged f rs) → AreKnown (λ o. is_some (get nat_cmp r.unfinished o)) (left rs)
known_shown r f rs shown = known_all (λ o. is_some (get nat_cmp r.unfinished o)) (left rs) (λ o other.
    sym (ap (by o) (unfinished_is (record { pages = f; unfinished = [] }) rs)) ∙ none_before (by o (logged f rs).unfinished) (sym (shown.unfinished o) ∙ none_in (get nat_cmp r.unfinished o) other))

-- ---- one record before those that were passed

and_true : (a : Bool) → a ≡ (a && true)
and_true true = refl
and_true false = refl

and_right : (k s : Bool) → (k && s) ≡ true → s ≡ true
and_right true s is = is
and_right false s is = let no : false ≡ true = is in cc

and_not : (k s : Bool) → (k && s) ≡ false → (s ≡ true → k ≡ true) → s ≡ false
and_not true s is known = is
and_not false true is known = sym (known refl)
and_not false false is known = refl

closed : (b k s : Bool) → cond b false (k && not s) ≡ (k && not (b || s))
closed true true s = refl
closed true false s = refl
closed false k s = refl

some_left : (m n : BTreeSet ℕ) (k : ℕ) → UpdatesBy nat_cmp (nat_cmp k) m n false → (o : ℕ) → contains nat_cmp n o ≡ cond (k == o) false (contains nat_cmp m o)
some_left m n k u o = u.0 o ∙ ap (λ (b : Bool). cond b false (contains nat_cmp m o)) (is_at_number k o)

-- the keys of a map are what is in it
pub keys_are : (es : List (ℕ × Vec Unfinished Global)) (q : ℕ) → is_member (eq_by_cmp nat_cmp) (keys_of es) q ≡ is_some (lookup (is_at (nat_cmp q)) es)
keys_are [] q = refl
keys_are (e ∷ es) q = ap (λ (b : Bool). is_at (nat_cmp q) e.0 || b) (keys_are es q) ∙ go (is_at (nat_cmp q) e.0) e.1 (lookup (is_at (nat_cmp q)) es)
  where
    go : (b : Bool) (v : Vec Unfinished Global) (w : Option (Vec Unfinished Global)) → (b || is_some w) ≡ is_some (cond b (Some v) w)
    go true v w = refl
    go false v w = refl

pub backs_same : (r : Record) (t : TakingBack) → AreWhole t.pages.items → change_by r ≡ [] → ((o : ℕ) → ends_it o r ≡ false) → Backs (r ∷ []) t t
backs_same r t whole gone ends = record {
  whole = whole;
  count = refl;
  back = λ known behind f all h. record {
    pages = subst (λ (cs : List Change). AreFirst t.pages.items (put_back (filter (stays behind) cs ++ left behind) f)) (sym gone) h.pages;
    open_ones = λ o. h.open_ones o ∙ sym (ap (λ (a : Bool). known o && not (a || some_record (ends_it o) behind)) (ends o));
  };
}

pub backs_end : (r : Record) (op : ℕ) (old new : TakingBack) → AreWhole old.pages.items → change_by r ≡ [] → ((o : ℕ) → ends_it o r ≡ (op == o)) → new.pages ≡ old.pages
    → UpdatesBy nat_cmp (nat_cmp op) old.«open» new.«open» false → Backs (r ∷ []) old new
backs_end r op old new whole gone ends same u = record {
  whole = subst (λ (pages : _). AreWhole pages.items) (sym same) whole;
  count = λ i. length (same i).items;
  back = λ known behind f all h. record {
    pages = subst (λ (pages : _). AreFirst pages.items (put_back (filter (stays behind) (change_by r) ++ left behind) f)) (sym same)
        (subst (λ (cs : List Change). AreFirst old.pages.items (put_back (filter (stays behind) cs ++ left behind) f)) (sym gone) h.pages);
    open_ones = λ o.
        some_left old.«open» new.«open» op u o ∙ ap (λ (a : Bool). cond (op == o) false a) (h.open_ones o)
        ∙ closed (op == o) (known o) (some_record (ends_it o) behind)
        ∙ ap (λ (a : Bool). known o && not (a || some_record (ends_it o) behind)) (sym (ends o));
  };
}

-- a change, whose operation ends behind it
pub backs_over : (r : Record) (c : Change) (t : TakingBack) → AreWhole t.pages.items → change_by r ≡ c ∷ [] → ((o : ℕ) → ends_it o r ≡ false) → contains nat_cmp t.«open» c.op ≡ false → Backs (r ∷ []) t t
backs_over r c t whole own ends over = record {
  whole = whole;
  count = refl;
  back = λ known behind f all h.
      let mine : AreKnown known (cond (stays behind c) (c ∷ []) [] ++ left behind) = subst (λ (cs : List Change). AreKnown known (filter (stays behind) cs ++ left behind)) own all in
      let first : stays behind c ≡ true → known c.op ≡ true = λ is. (subst (λ (b : Bool). AreKnown known (cond b (c ∷ []) [] ++ left behind)) is mine).0 in
      let ended : stays behind c ≡ false = and_not (known c.op) (stays behind c) (sym (h.open_ones c.op) ∙ over) first in
      record {
        pages = subst (λ (cs : List Change). AreFirst t.pages.items (put_back (filter (stays behind) cs ++ left behind) f)) (sym own)
            (subst (λ (b : Bool). AreFirst t.pages.items (put_back (cond b (c ∷ []) [] ++ left behind) f)) (sym ended) h.pages);
        open_ones = λ o. h.open_ones o ∙ sym (ap (λ (a : Bool). known o && not (a || some_record (ends_it o) behind)) (ends o));
      };
}

-- another, which is put back
pub backs_change : (r : Record) (c : Change) (old new : TakingBack) → change_by r ≡ c ∷ [] → ((o : ℕ) → ends_it o r ≡ false) → contains nat_cmp old.«open» c.op ≡ true
    → c.page < length old.pages.items → AreWhole new.pages.items → new.pages.items ≡ set old.pages.items c.page (splice c.start c.old (get_or old.pages.items c.page [])) → length new.pages.items ≡ length old.pages.items
    → new.«open» ≡ old.«open» → Backs (r ∷ []) old new
backs_change r c old new own ends there inside whole is count same = record {
  whole = whole;
  count = count;
  back = λ known behind f all h.
      let stay : stays behind c ≡ true = and_right (known c.op) (stays behind c) (sym (h.open_ones c.op) ∙ there) in
      record {
        pages = subst (λ (cs : List Change). AreFirst new.pages.items (put_back (filter (stays behind) cs ++ left behind) f)) (sym own)
            (subst (λ (b : Bool). AreFirst new.pages.items (put_back (cond b (c ∷ []) [] ++ left behind) f)) (sym stay)
            (subst (λ (items : List (List ℕ)). AreFirst items (put_back (c ∷ left behind) f)) (sym is) (first_placed old.pages.items c.page c.start c.old (put_back (left behind) f) inside h.pages)));
        open_ones = λ o. (λ i. contains nat_cmp (same i) o) ∙ h.open_ones o ∙ sym (ap (λ (a : Bool). known o && not (a || some_record (ends_it o) behind)) (ends o));
      };
}

-- ---- one before the other

pub back_none : (t : TakingBack) (known : ℕ → Bool) (f : PageBytes) → AreFirst t.pages.items f → ((o : ℕ) → contains nat_cmp t.«open» o ≡ known o) → IsBackTo known t [] f
back_none t known f first all = record { pages = first; open_ones = λ o. all o ∙ and_true (known o) }

pub behind_all : (bs : List Batch) → joined (records_of (drop (length bs) bs)) ≡ []
behind_all [] = refl
behind_all (b ∷ bs) = behind_all bs

pub backs_none : (t : TakingBack) → AreWhole t.pages.items → Backs [] t t
backs_none t whole = record { whole = whole; count = refl; back = λ known behind f all h. h }

pub backs_then : (rs : List Record) (i : ℕ) (r : Record) (old mid new : TakingBack) → i < length rs → r ≡ get_or rs i r → Backs (drop (i + 1) rs) old mid → Backs (r ∷ []) mid new → Backs (drop i rs) old new
backs_then rs i r old mid new lt is first second = record {
  whole = second.whole;
  count = second.count ∙ first.count;
  back = λ known behind f all h.
      let own : AreKnown known (left (r ∷ (drop (i + 1) rs ++ behind))) = subst (λ (qs : List Record). AreKnown known (left (qs ++ behind))) (record_at rs i r lt is) all in
      let later : AreKnown known (left (drop (i + 1) rs ++ behind)) = known_behind known (filter (stays (drop (i + 1) rs ++ behind)) (change_by r)) (left (drop (i + 1) rs ++ behind)) own in
      subst (λ (qs : List Record). IsBackTo known new (qs ++ behind) f) (sym (record_at rs i r lt is)) (second.back known (drop (i + 1) rs ++ behind) f own (first.back known behind f later h));
}
