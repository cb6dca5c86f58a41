-- Which pages change their kind, and how many free ones are taken.
use Rattle.std.proofs.Common.{◌≡◌, ◌≢◌, ◌⊎◌, inl, inr, ⊎_elim, ℕ, ◌≤◌, ◌<◌, ◌+◌, Bool, true, false, cond, List, [], Option, None, Some, length, get_or, refl, ap, sym, subst, ◌∙◌, arith}
use Rattle.std.specs.Prelude.{IsSome}
use Rattle.std.proofs.lemmas.Bool.{cases_eq, both_ways}
use Rattle.mt_base.specs.declared.numbers.RecordName.{RecordName}
use Rattle.mt_bucket.specs.Entries.{Entry}
use Rattle.mt_slots.specs.Page.{Row}
use Rattle.mt_space.specs.declared.changes.PageChange.{PageChange}
use Rattle.mt_space.specs.Changes.{PageBytes, after}
use Rattle.mt_space.specs.Kinds.{kind}
use Rattle.mt_space.specs.Rooms.{mapped, free_in}
use Rattle.mt_space.proofs.Counting.{none_free, none_mapped, one_mapped, free_stay, free_but_one, free_but_two}
use Rattle.mt_file.specs.File.{record_in, IsFile, Puts, Drops, Touches}
use Rattle.mt_file.specs.Plans.{IsTooFull}
use Rattle.mt_file.proofs.Filed.{record_kind}
use Rattle.mt_index.specs.Index.{State}
use Rattle.mt_index.specs.Rule.{Way, Here, Chained, SplitHere, SplitChained}
use Rattle.mt_index.specs.Maps.{Map}
use Rattle.mt_index.specs.Pages.{state_of, AreMap}
use Rattle.mt_index.specs.Answers.{Added, Shortage}
use Rattle.mt_steps.specs.Held.{AreRows}
use Rattle.mt_steps.proofs.Apart.{StaysFile, records_stay, add_stays}
use Rattle.mt_steps.proofs.Acting.{amends_file}
use Rattle.mt_steps.specs.Acts.{IsPlaced, IsTaken, IsKept, IsMoved}
use Rattle.mt_steps.specs.Plans.{free_pages, IsTight, HasNoRecord, IsGivenBack, IsModest}

-- ---- pages without a record

pub file_empties : (pages pages2 : PageBytes) → StaysFile pages pages2 → (p : ℕ) → HasNoRecord pages2 p → HasNoRecord pages p
file_empties pages pages2 st p none = (st.back p none.0, λ s. sym (records_stay pages pages2 st p s) ∙ none.1 s)

no_row : (row : Row) → None ≡ Some row → ⊥
no_row row e = cc

-- one name holds a record, and the other pages stay
puts_empties : (old new : PageBytes) (p s : ℕ) (row : Row) → Puts old new p s (Some row) → ((q : ℕ) → q ≢ p → kind new q ≡ kind old q) → (q : ℕ) → HasNoRecord new q → HasNoRecord old q
puts_empties old new p s row puts kinds q none = ⊎_elim {C = HasNoRecord old q}
    (λ (here : q ≡ p). absurd (no_row row (sym (none.1 s) ∙ ap (λ (x : ℕ). record_in new x s) here ∙ puts.here)))
    (λ (away : q ≢ p). (sym (kinds q away) ∙ none.0, λ t. sym (puts.elsewhere q t (inl away)) ∙ none.1 t))
    (cases_eq q p)

-- a page whose last record goes is given back
drops_empties : (old new : PageBytes) (p s : ℕ) → Drops old new p s → (q : ℕ) → HasNoRecord new q → HasNoRecord old q
drops_empties old new p s drops q none = ⊎_elim {C = HasNoRecord old q}
    (λ (here : q ≡ p).
    let gone : kind new p ≡ 0 = drops.last (λ t ne. sym (drops.puts.elsewhere p t (inr ne)) ∙ ap (λ (x : ℕ). record_in new x t) (sym here) ∙ none.1 t) in
    let three : kind new p ≡ 3 = ap (λ (x : ℕ). kind new x) (sym here) ∙ none.0 in
    absurd (omega (arith, gone, three)))
    (λ (away : q ≢ p). (sym (drops.touches.kinds q away) ∙ none.0, λ t. sym (drops.puts.elsewhere q t (inl away)) ∙ none.1 t))
    (cases_eq q p)

-- a page that loses a record still holds records, or is free
pub drops_left : (old new : PageBytes) (p s : ℕ) → Drops old new p s → (kind new p ≡ 3) ⊎ (kind new p ≡ 0)
drops_left old new p s drops = ⊎_elim {C = (kind new p ≡ 3) ⊎ (kind new p ≡ 0)}
    (λ (three : kind new p ≡ 3). inl three)
    (λ (other : kind new p ≢ 3). inr (drops.last (λ t ne. go t ne (record_in old p t) refl other)))
    (cases_eq (kind new p) 3)
  where
    go : (t : ℕ) → t ≢ s → (o : Option Row) → record_in old p t ≡ o → kind new p ≢ 3 → record_in old p t ≡ None
    go t ne None is other = is
    go t ne (Some row) is other = absurd (other (drops.more t ne (λ none. no_row row (sym none ∙ is))))

-- ---- one step, and more

-- the map stays
pub modest_same : (at_hand : ℕ → Option (List ℕ)) (total n : ℕ) (split : Bool) (pages pages2 : PageBytes) → ((p : ℕ) → HasNoRecord pages2 p → HasNoRecord pages p) → pages2 0 ≡ pages 0 → pages2 1 ≡ pages 1 → IsModest at_hand total n split pages pages2
modest_same at_hand total n split pages pages2 empties same directory = record {
  kinds = λ p none. ap (λ (map : List ℕ). get_or map p 0) same;
  takes = let free = ap (λ (map : List ℕ). free_in (mapped map total)) same in omega (arith, free);
  gives = λ none p. inl (ap (λ (map : List ℕ). get_or map p 0) same);
  directory = λ none. directory;
  empties = empties;
}

pub modest_nothing : (at_hand : ℕ → Option (List ℕ)) (total n : ℕ) (split : Bool) (pages : PageBytes) (changes : List PageChange) → changes ≡ [] → IsModest at_hand total n split pages (after changes pages)
modest_nothing at_hand total n split pages changes none = modest_same at_hand total n split pages (after changes pages) (λ p empty. subst (λ (l : List PageChange). HasNoRecord (after l pages) p) none empty) (ap (λ (l : List PageChange). after l pages 0) none) (ap (λ (l : List PageChange). after l pages 1) none)

given_twice : (a b c : ℕ) → IsGivenBack a b → IsGivenBack b c → IsGivenBack a c
given_twice a b c (inl one) (inl two) = inl (two ∙ one)
given_twice a b c (inl one) (inr two) = inr (sym one ∙ two.0, two.1)
given_twice a b c (inr one) (inl two) = inr (one.0, two ∙ one.1)
given_twice a b c (inr one) (inr two) = let zero = one.1 in let three = two.0 in absurd (omega (arith, zero, three))

pub modest_trans : (at_hand : ℕ → Option (List ℕ)) (total n k : ℕ) (split : Bool) (a b c : PageBytes) → IsModest at_hand total n split a b → IsModest at_hand total k split b c → IsModest at_hand total (n + k) split a c
modest_trans at_hand total n k split a b c x y = record {
  kinds = λ p none. y.kinds p none ∙ x.kinds p none;
  takes = let first = x.takes in let second = y.takes in omega (arith, first, second);
  gives = λ none p. given_twice (kind a p) (kind b p) (kind c p) (x.gives (omega (arith, none)) p) (y.gives (omega (arith, none)) p);
  directory = λ none. y.directory none ∙ x.directory none;
  empties = λ p none. x.empties p (y.empties p none);
}

pub modest_more : (at_hand : ℕ → Option (List ℕ)) (total n k : ℕ) (split : Bool) (a b : PageBytes) → n ≤ k → IsModest at_hand total n split a b → IsModest at_hand total k split a b
modest_more at_hand total n k split a b le x = record { kinds = x.kinds; takes = let takes = x.takes in omega (arith, takes, le); gives = λ none p. x.gives (omega (arith, none, le)) p; directory = x.directory; empties = x.empties }

-- what is so without a split is so
pub modest_any : (at_hand : ℕ → Option (List ℕ)) (total n : ℕ) (split : Bool) (a b : PageBytes) → IsModest at_hand total n false a b → IsModest at_hand total n split a b
modest_any at_hand total n split a b x = record { kinds = x.kinds; takes = x.takes; gives = x.gives; directory = λ none. x.directory refl; empties = x.empties }

seen_none : (at_hand : ℕ → Option (List ℕ)) (p : ℕ) → IsSome (at_hand p) → at_hand p ≡ None → ⊥
seen_none at_hand p some none = go (at_hand p) some none
  where
    go : (o : Option (List ℕ)) → IsSome o → o ≡ None → ⊥
    go None some none = absurd (cc)
    go (Some b) some none = cc

apart : (at_hand : ℕ → Option (List ℕ)) (p q : ℕ) → IsSome (at_hand q) → at_hand p ≡ None → p ≢ q
apart at_hand p q some none same = seen_none at_hand q some (ap at_hand (sym same) ∙ none)

-- one page at hand changes its kind
touches_modest : (at_hand : ℕ → Option (List ℕ)) (total : ℕ) (split : Bool) (pages mid : PageBytes) (q : ℕ) → length (mid 0) ≡ length (pages 0) → Touches pages mid q → ((p : ℕ) → HasNoRecord mid p → HasNoRecord pages p) → 1 ≢ q → IsSome (at_hand q) → IsModest at_hand total 1 split pages mid
touches_modest at_hand total split pages mid q size t empties off some = record {
  kinds = λ p none. t.kinds p (apart at_hand p q some none);
  takes = free_but_one (pages 0) (mid 0) total q size (λ p ne free. t.kinds p ne ∙ free);
  gives = λ none p. absurd (omega (arith, none));
  directory = λ none. t.others 1 off (omega arith);
  empties = empties;
}

-- and it was not free
drops_modest : (at_hand : ℕ → Option (List ℕ)) (total : ℕ) (split : Bool) (pages mid : PageBytes) (q : ℕ) → length (mid 0) ≡ length (pages 0) → Touches pages mid q → ((p : ℕ) → HasNoRecord mid p → HasNoRecord pages p) → 1 ≢ q → kind pages q ≡ 3 → (kind mid q ≡ 3) ⊎ (kind mid q ≡ 0) → IsSome (at_hand q) → IsModest at_hand total 0 split pages mid
drops_modest at_hand total split pages mid q size t empties off three left some = record {
  kinds = λ p none. t.kinds p (apart at_hand p q some none);
  takes = let fewer = free_stay (pages 0) (mid 0) total size (λ p free. t.kinds p (not_here p free) ∙ free) in omega (arith, fewer);
  gives = λ none p. ⊎_elim
      (λ (here : p ≡ q).
      let was : kind pages p ≡ 3 = ap (λ (x : ℕ). kind pages x) here ∙ three in
      let now : kind mid p ≡ kind mid q = ap (λ (x : ℕ). kind mid x) here in
      ⊎_elim {C = IsGivenBack (kind pages p) (kind mid p)} (λ still. inl (now ∙ still ∙ sym was)) (λ gone. inr (was, now ∙ gone)) left)
      (λ (away : p ≢ q). inl (t.kinds p away))
      (cases_eq p q);
  directory = λ none. t.others 1 off (omega arith);
  empties = empties;
}
  where
    not_here : (p : ℕ) → kind pages p ≡ 0 → p ≢ q
    not_here p free same = let k : kind pages p ≡ kind pages q = ap (λ (x : ℕ). kind pages x) same in omega (arith, free, three, k)

-- ---- records

sizes : (pages mid : PageBytes) → IsFile pages → IsFile mid → length (mid 0) ≡ length (pages 0)
sizes pages mid a b = b.whole ∙ sym a.whole

-- the directory is no page of another kind
off_directory : (total : ℕ) (pages : PageBytes) (m : Map) (q n : ℕ) → AreMap total pages m → kind pages q ≡ n → n ≢ 1 → 1 ≢ q
off_directory total pages m q n a is other same = other (sym is ∙ sym (ap (λ (x : ℕ). kind pages x) same) ∙ a.directory_fixed)

pub placed_modest : (at_hand : ℕ → Option (List ℕ)) (relations total : ℕ) (split : Bool) (pages : PageBytes) (m : Map) (changes : List PageChange) (name : RecordName) (row : Row) → AreRows relations total pages m → IsSome (at_hand name.page)
    → IsPlaced total pages changes name row → IsModest at_hand total 1 split pages (after changes pages)
placed_modest at_hand relations total split pages m changes name row rows seen placed =
    touches_modest at_hand total split pages (after changes pages) name.page (sizes pages (after changes pages) rows.file placed.adds.file) placed.adds.touches (puts_empties pages (after changes pages) name.page name.slot row placed.adds.puts placed.adds.touches.kinds) (⊎_elim {C = 1 ≢ name.page}
    (λ (three : kind pages name.page ≡ 3). off_directory total pages m name.page 3 rows.index three (omega arith))
    (λ (free : kind pages name.page ≡ 0). off_directory total pages m name.page 0 rows.index free (omega arith)) placed.was) seen

pub taken_modest : (at_hand : ℕ → Option (List ℕ)) (relations total : ℕ) (split : Bool) (pages : PageBytes) (m : Map) (changes : List PageChange) (n : RecordName) (row : Row) → AreRows relations total pages m → IsSome (at_hand n.page)
    → IsTaken pages changes n row → IsModest at_hand total 0 split pages (after changes pages)
taken_modest at_hand relations total split pages m changes n row rows seen taken =
    let three = record_kind pages n.page n.slot row taken.stood in
    drops_modest at_hand total split pages (after changes pages) n.page (sizes pages (after changes pages) rows.file taken.drops.file) taken.drops.touches (drops_empties pages (after changes pages) n.page n.slot taken.drops) (off_directory total pages m n.page 3 rows.index three (omega arith)) three (drops_left pages (after changes pages) n.page n.slot taken.drops) seen

pub kept_modest : (at_hand : ℕ → Option (List ℕ)) (relations total : ℕ) (split : Bool) (pages : PageBytes) (m : Map) (changes : List PageChange) (n : RecordName) (old row : Row) → AreRows relations total pages m
    → IsKept pages changes n old row → IsModest at_hand total 1 split pages (after changes pages)
kept_modest at_hand relations total split pages m changes n old row rows kept =
    let three = record_kind pages n.page n.slot old kept.stood in
    let fixed = rows.index.space_fixed in
    modest_same at_hand total 1 split pages (after changes pages) (puts_empties pages (after changes pages) n.page n.slot row kept.stays.puts (λ q away. kept.stays.kinds q)) (kept.stays.others 0 (λ e. let k : kind pages 0 ≡ kind pages n.page = ap (λ (x : ℕ). kind pages x) e in omega (arith, fixed, three, k)))
    (kept.stays.others 1 (off_directory total pages m n.page 3 rows.index three (omega arith)))

pub moved_modest : (at_hand : ℕ → Option (List ℕ)) (relations total : ℕ) (split : Bool) (pages : PageBytes) (m : Map) (changes : List PageChange) (n to : RecordName) (old row : Row) → AreRows relations total pages m → IsSome (at_hand n.page) → IsSome (at_hand to.page)
    → IsMoved total pages changes n to old row → IsModest at_hand total 1 split pages (after changes pages)
moved_modest at_hand relations total split pages m changes n to old row rows from_seen to_seen moved =
    let between = moved.moves.between in
    let last = after changes pages in
    let three = record_kind pages n.page n.slot old moved.stood in
    let off : 1 ≢ n.page = off_directory total pages m n.page 3 rows.index three (omega arith) in
    let first = drops_modest at_hand total split pages between n.page (sizes pages between rows.file moved.moves.drops.file) moved.moves.drops.touches (drops_empties pages between n.page n.slot moved.moves.drops) off three (drops_left pages between n.page n.slot moved.moves.drops) from_seen in
    let second = touches_modest at_hand total split between last to.page (sizes between last moved.moves.drops.file moved.moves.adds.file) moved.moves.adds.touches (puts_empties between last to.page to.slot row moved.moves.adds.puts moved.moves.adds.touches.kinds) (⊎_elim {C = 1 ≢ to.page}
    (λ (same : to.page ≡ n.page). λ e. off (e ∙ same))
    (λ away. ⊎_elim {C = 1 ≢ to.page}
    (λ (three : kind pages to.page ≡ 3). off_directory total pages m to.page 3 rows.index three (omega arith))
    (λ (free : kind pages to.page ≡ 0). off_directory total pages m to.page 0 rows.index free (omega arith)) away.0) moved.was) to_seen in
    modest_more at_hand total (0 + 1) 1 split pages last (omega arith) (modest_trans at_hand total 0 1 split pages between last first second)

-- ---- the index

-- all pages but two keep their kind
record AllButTwo (s t : State) : Type 0 where
  one : ℕ
  two : ℕ
  others : (p : ℕ) → p ≢ one → p ≢ two → t.kind p ≡ s.kind p

way_kinds : (split : Bool) (e : Entry) (s t : State) → Way split e s t → AllButTwo s t
way_kinds split e s t (Here p first) = record { one = 0; two = 0; others = λ n a b. ap (λ (f : ℕ → ℕ). f n) first.puts.change.kind }
way_kinds split e s t (Chained z q not_due small last) = record { one = q; two = q; others = λ n a b. last.puts.takes.others n a }
way_kinds split e s t (SplitHere u q l p may due small halves first) = record {
  one = q;
  two = q;
  others = λ n a b. ap (λ (f : ℕ → ℕ). f n) first.puts.change.kind ∙ ⊎_elim (λ (h : _). h.1.takes.others n a) (λ (h : _). h.1.takes.others n a) halves;
}
way_kinds split e s t (SplitChained u q l z q2 may due small halves small2 last) = record {
  one = q;
  two = q2;
  others = λ n a b. last.puts.takes.others n b ∙ ⊎_elim (λ (h : _). h.1.takes.others n a) (λ (h : _). h.1.takes.others n a) halves;
}

-- all but one, where nothing splits
record AllButOne (s t : State) : Type 0 where
  one : ℕ
  others : (p : ℕ) → p ≢ one → t.kind p ≡ s.kind p

unsplit_kinds : (split : Bool) (e : Entry) (s t : State) → split ≡ false → Way split e s t → AllButOne s t
unsplit_kinds split e s t whole (Here p first) = record { one = 0; others = λ n a. ap (λ (f : ℕ → ℕ). f n) first.puts.change.kind }
unsplit_kinds split e s t whole (Chained z q not_due small last) = record { one = q; others = λ n a. last.puts.takes.others n a }
unsplit_kinds split e s t whole (SplitHere u q l p may due small halves first) = absurd (both_ways split whole may)
unsplit_kinds split e s t whole (SplitChained u q l z q2 may due small halves small2 last) = absurd (both_ways split whole may)

added_takes : (split : Bool) (total : ℕ) (e : Entry) (mid last : PageBytes) → Added split total e mid last → free_pages total mid ≤ free_pages total last + cond split 2 1
added_takes true total e mid last added =
    let k = way_kinds true e (state_of mid) (state_of last) added.way in
    free_but_two (mid 0) (last 0) total k.one k.two added.stays.size (λ p a b free. k.others p a b ∙ free)
added_takes false total e mid last added =
    let k = unsplit_kinds false e (state_of mid) (state_of last) refl added.way in
    free_but_one (mid 0) (last 0) total k.one added.stays.size (λ p a free. k.others p a ∙ free)

-- with the page of the record
pub insert_needs : (split : Bool) → 1 + cond split 2 1 ≤ cond split 3 2
insert_needs true = omega arith
insert_needs false = omega arith

takes_some : (split : Bool) → cond {A = ℕ} split 2 1 ≡ 0 → ⊥
takes_some true none = omega (arith, none)
takes_some false none = omega (arith, none)

pub added_modest : (at_hand : ℕ → Option (List ℕ)) (split : Bool) (total : ℕ) (e : Entry) (mid last : PageBytes) (m : Map) → AreMap total mid m → ((p : ℕ) → kind mid p ≡ 0 → kind last p ≢ 0 → IsSome (at_hand p)) → Added split total e mid last → IsModest at_hand total (cond split 2 1) split mid last
added_modest at_hand split total e mid last m a seen added =
    record {
      kinds = λ p none. ⊎_elim
          (λ (free : kind mid p ≡ 0). ⊎_elim
          (λ (still : kind last p ≡ 0). still ∙ sym free)
          (λ (some : kind last p ≢ 0). absurd (seen_none at_hand p (seen p free some) none))
          (cases_eq (kind last p) 0))
          (λ (some : kind mid p ≢ 0). added.stays.kinds p some)
          (cases_eq (kind mid p) 0);
      takes = added_takes split total e mid last added;
      gives = λ none p. absurd (takes_some split none);
      directory = added.directory;
      empties = file_empties mid last (add_stays total mid last a.space_fixed a.directory_fixed added.stays);
    }

pub amended_modest : (at_hand : ℕ → Option (List ℕ)) (total : ℕ) (split : Bool) (mid last : PageBytes) (m : Map) → AreMap total mid m → ((p : ℕ) → kind mid p ≢ 2 → last p ≡ mid p) → IsModest at_hand total 0 split mid last
amended_modest at_hand total split mid last m a others =
    let space = a.space_fixed in
    let directory = a.directory_fixed in
    modest_same at_hand total 0 split mid last (file_empties mid last (amends_file mid last space others)) (others 0 (λ two. let k : kind mid 0 ≡ 2 = two in omega (arith, space, k))) (others 1 (λ two. let k : kind mid 1 ≡ 2 = two in omega (arith, directory, k)))

-- ---- too few pages

-- no page is free, or the named one is too full
pub too_full : (room : Option ℕ) (total bytes : ℕ) (pages : PageBytes) → IsTooFull room total pages bytes → (free_pages total pages ≡ 0) ⊎ IsTight room pages bytes
too_full (Some q) total bytes pages full = inr (q, refl, full)
too_full None total bytes pages full = inl (none_free (mapped (pages 0) total) (λ p lt. full p))

-- the index finds none, or one at most where it may split
pub shortage_few : (split : Bool) (total : ℕ) (e : Entry) (pages : PageBytes) → length (pages 0) ≡ 4096 → total ≤ 4096 → Shortage split total e pages → free_pages total pages < cond split 2 1
shortage_few split total e pages whole few short = ⊎_elim
    (λ none. let zero = none_mapped (pages 0) total whole few none in let some = some_free split in omega (arith, zero, some))
    (λ rest.
    let one = rest.1.1.0.1 in
    let within = one.within in
    let most = one_mapped (pages 0) total rest.1.1.0.0 whole few (omega (arith, within, few)) one.others in
    let two : cond {A = ℕ} split 2 1 ≡ 2 = ap (λ (b : Bool). cond {A = ℕ} b 2 1) rest.0 in
    omega (arith, most, two))
    short.free
  where
    some_free : (b : Bool) → 0 < cond b 2 1
    some_free true = omega arith
    some_free false = omega arith
