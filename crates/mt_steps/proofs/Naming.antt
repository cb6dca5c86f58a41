-- Which pages an operation takes and gives back, and where its record stands then.
use Rattle.std.proofs.Common.{◌≡◌, ◌≢◌, ◌⊎◌, inl, inr, ⊎_elim, ℕ, List, [], Bool, Option, None, Some, get_or, refl, ap, sym, ◌∙◌, subst, arith}
use Rattle.std.proofs.lemmas.Bool.{cases_eq}
use Rattle.mt_base.specs.declared.numbers.RecordName.{RecordName}
use Rattle.mt_slots.specs.Page.{Row}
use Rattle.mt_space.specs.declared.changes.PageChange.{PageChange}
use Rattle.mt_space.specs.Changes.{PageBytes, after}
use Rattle.mt_space.specs.Kinds.{kind}
use Rattle.mt_file.specs.declared.step.Step.{Step}
use Rattle.mt_file.specs.declared.step.Step.TheVariants as step
use Rattle.mt_file.specs.declared.step.Plan.{Plan}
use Rattle.mt_file.specs.File.{record_in}
use Rattle.mt_file.specs.Plans.{IsPut, IsNamed, IsChosen, IsOutgrown, IsReplacement}
use Rattle.mt_file.proofs.Filed.{record_kind}
use Rattle.mt_index.specs.Answers.{Added}
use Rattle.mt_index.specs.Maps.{Map}
use Rattle.mt_index.specs.Pages.{state_of, AreMap, LeavesIndex}
use Rattle.mt_model.specs.declared.operations.Op.{Op}
use Rattle.mt_model.specs.declared.operations.Op.TheVariants.{Insert, Update}
use Rattle.mt_steps.specs.Held.{AreNamed, AreRows}
use Rattle.mt_steps.specs.declared.act.Act.{Act}
use Rattle.mt_steps.specs.Acts.{IsPlaced, IsTaken, IsKept, IsMoved, IfMade, InGood, InRoomy}
use Rattle.mt_steps.specs.Plans.{HasStood, IsInto, NeedsPlace, NeedsEntry, TakesPages, IsGivenBack, InPages}
use Rattle.mt_steps.specs.PlanAnswers.{TakesNone, TakesAlone}
use Rattle.mt_steps.proofs.Apart.{StaysFile, records_stay, add_stays}
use Rattle.mt_steps.proofs.Crowding.{way_crowded, crowded_before}
use Rattle.mt_steps.proofs.Entering.{made_weaker, free_chosen}
use Rattle.mt_steps.proofs.Modest.{drops_left}
use Rattle.mt_steps.proofs.Rows.{name_cases, some_row, some_name}

no_row : (row : Row) → None ≡ Some row → ⊥
no_row row e = cc

-- ---- no page is taken

-- where pages are only given back, and each record stands where its key's record stood
pub given_none : (pages pages2 : PageBytes) → ((p : ℕ) → IsGivenBack (kind pages p) (kind pages2 p)) → ((p s : ℕ) (row : Row) → record_in pages2 p s ≡ Some row → HasStood pages p row.relation row.key) → TakesNone pages pages2
given_none pages pages2 gives stands = record {
  stands = stands;
  free = λ p zero. ⊎_elim {C = kind pages2 p ≡ 0} (λ same. same ∙ zero) (λ gone. gone.1) (gives p);
  given = λ p some. gives p;
}

-- where the records are the same
pub same_none : (pages pages2 : PageBytes) → ((p : ℕ) → IsGivenBack (kind pages p) (kind pages2 p)) → ((p s : ℕ) → record_in pages2 p s ≡ record_in pages p s) → TakesNone pages pages2
same_none pages pages2 gives same = given_none pages pages2 gives (λ p s row is. (s, row.value, sym (same p s) ∙ is))

pub quiet_none : (pages : PageBytes) (changes : List PageChange) → changes ≡ [] → TakesNone pages (after changes pages)
quiet_none pages changes none = subst (λ (l : List PageChange). TakesNone pages (after l pages)) (sym none) (same_none pages pages (λ p. inl refl) (λ p s. refl))

-- a record less, and its entry
pub taken_none : (pages mid last : PageBytes) (n : RecordName) (changes : List PageChange) (row : Row) → mid ≡ after changes pages → IsTaken pages changes n row → StaysFile mid last → ((p : ℕ) → IsGivenBack (kind pages p) (kind last p)) → TakesNone pages last
taken_none pages mid last n changes row is taken kept gives = given_none pages last gives (λ p s other stands.
    let at_mid : record_in (after changes pages) p s ≡ Some other = ap (λ (f : PageBytes). record_in f p s) (sym is) ∙ sym (records_stay mid last kept p s) ∙ stands in
    ⊎_elim {C = HasStood pages p other.relation other.key}
    (λ here. absurd (no_row other (sym taken.drops.puts.here ∙ (λ i. record_in (after changes pages) (sym here.0 i) (sym here.1 i)) ∙ at_mid)))
    (λ away. (s, other.value, sym (taken.drops.puts.elsewhere p s away) ∙ at_mid))
    (name_cases p s n.page n.slot))

stood_as : (pages : PageBytes) (p q r r2 : ℕ) (k k2 : List ℕ) → p ≡ q → r2 ≡ r → k2 ≡ k → HasStood pages q r k → HasStood pages p r2 k2
stood_as pages p q r r2 k k2 page relation key stood =
    (stood.0, stood.1, (λ i. record_in pages (page i) stood.0) ∙ stood.2 ∙ (λ i. Some (record { relation = sym relation i; key = sym key i; value = stood.1 })))

-- another record under the same name
pub kept_none : (pages : PageBytes) (changes : List PageChange) (n : RecordName) (r : ℕ) (k v w : List ℕ) → IsKept pages changes n (record { relation = r; key = k; value = v }) (record { relation = r; key = k; value = w }) → TakesNone pages (after changes pages)
kept_none pages changes n r k v w kept = given_none pages (after changes pages) (λ p. inl (kept.stays.kinds p)) (λ p s other stands. ⊎_elim {C = HasStood pages p other.relation other.key}
    (λ here.
    let same = some_row (record { relation = r; key = k; value = w }) other (sym kept.stays.puts.here ∙ (λ i. record_in (after changes pages) (sym here.0 i) (sym here.1 i)) ∙ stands) in
    stood_as pages p n.page r other.relation k other.key here.0 (sym (ap (λ (x : Row). x.relation) same)) (sym (ap (λ (x : Row). x.key) same)) (n.slot, v, kept.stood))
    (λ away. (s, other.value, sym (kept.stays.puts.elsewhere p s away) ∙ stands))
    (name_cases p s n.page n.slot))

pub none_takes : (room : Option ℕ) (op : Op) (pages pages2 : PageBytes) → TakesNone pages pages2 → TakesPages room op pages pages2
none_takes room op pages pages2 none = record {
  stands = λ p s row is. inr (none.stands p s row is);
  taken = λ p zero some. absurd (some (none.free p zero));
  given = none.given;
}

-- ---- one page is

pub placed_kinds : (total : ℕ) (pages : PageBytes) (changes : List PageChange) (name : RecordName) (row : Row) → IsPlaced total pages changes name row → (p : ℕ) → kind pages p ≢ 0 → kind (after changes pages) p ≡ kind pages p
placed_kinds total pages changes name row placed p some = ⊎_elim {C = kind (after changes pages) p ≡ kind pages p}
    (λ (here : p ≡ name.page).
    ap (λ (x : ℕ). kind (after changes pages) x) here ∙ placed.adds.own
    ∙ sym (⊎_elim {C = kind pages p ≡ 3} (λ three. ap (λ (x : ℕ). kind pages x) here ∙ three) (λ zero. absurd (some (ap (λ (x : ℕ). kind pages x) here ∙ zero))) placed.was))
    (λ (away : p ≢ name.page). placed.adds.touches.kinds p away)
    (cases_eq p name.page)

pub placed_alone : (total : ℕ) (pages : PageBytes) (changes : List PageChange) (name : RecordName) (row : Row) (op : Op) → IsPlaced total pages changes name row → TakesAlone name.page row.relation row.key op pages (after changes pages)
placed_alone total pages changes name row op placed = record {
  stands = λ p s other stands. ⊎_elim {C = ((p ≡ name.page) × (other.relation ≡ row.relation) × (other.key ≡ row.key)) ⊎ HasStood pages p other.relation other.key}
      (λ here.
      let same = some_row row other (sym placed.adds.puts.here ∙ (λ i. record_in mid (sym here.0 i) (sym here.1 i)) ∙ stands) in
      inl (here.0, sym (ap (λ (x : Row). x.relation) same), sym (ap (λ (x : Row). x.key) same)))
      (λ away. inr (s, other.value, sym (placed.adds.puts.elsewhere p s away) ∙ stands))
      (name_cases p s name.page name.slot);
  taken = λ p zero some. ⊎_elim {C = ((kind mid p ≡ 3) × (p ≡ name.page)) ⊎ ((kind mid p ≡ 2) × NeedsEntry op pages)}
      (λ (here : p ≡ name.page). inl (ap (λ (x : ℕ). kind mid x) here ∙ placed.adds.own, here))
      (λ (away : p ≢ name.page). absurd (some (placed.adds.touches.kinds p away ∙ zero)))
      (cases_eq p name.page);
  given = λ p some. inl (placed_kinds total pages changes name row placed p some);
}
  where
    mid : PageBytes
    mid = after changes pages

pub moved_alone : (total : ℕ) (pages : PageBytes) (changes : List PageChange) (n to : RecordName) (old row : Row) (op : Op) → IsMoved total pages changes n to old row → TakesAlone to.page row.relation row.key op pages (after changes pages)
moved_alone total pages changes n to old row op moved = record {
  stands = λ p s other stands. ⊎_elim {C = ((p ≡ to.page) × (other.relation ≡ row.relation) × (other.key ≡ row.key)) ⊎ HasStood pages p other.relation other.key}
      (λ here.
      let same = some_row row other (sym moved.moves.adds.puts.here ∙ (λ i. record_in mid (sym here.0 i) (sym here.1 i)) ∙ stands) in
      inl (here.0, sym (ap (λ (x : Row). x.relation) same), sym (ap (λ (x : Row). x.key) same)))
      (λ away.
      let before : record_in between p s ≡ Some other = sym (moved.moves.adds.puts.elsewhere p s away) ∙ stands in
      ⊎_elim {C = ((p ≡ to.page) × (other.relation ≡ row.relation) × (other.key ≡ row.key)) ⊎ HasStood pages p other.relation other.key}
      (λ gone. absurd (no_row other (sym moved.moves.drops.puts.here ∙ (λ i. record_in between (sym gone.0 i) (sym gone.1 i)) ∙ before)))
      (λ apart. inr (s, other.value, sym (moved.moves.drops.puts.elsewhere p s apart) ∙ before))
      (name_cases p s n.page n.slot))
      (name_cases p s to.page to.slot);
  taken = λ p zero some. ⊎_elim {C = ((kind mid p ≡ 3) × (p ≡ to.page)) ⊎ ((kind mid p ≡ 2) × NeedsEntry op pages)}
      (λ (here : p ≡ to.page). inl (ap (λ (x : ℕ). kind mid x) here ∙ moved.moves.adds.own, here))
      (λ (away : p ≢ to.page). absurd (some (moved.moves.adds.touches.kinds p away ∙ moved.moves.drops.touches.kinds p (not_from p zero) ∙ zero)))
      (cases_eq p to.page);
  given = λ p some. ⊎_elim {C = IsGivenBack (kind pages p) (kind mid p)}
      (λ (here : p ≡ to.page). inl (ap (λ (x : ℕ). kind mid x) here ∙ moved.moves.adds.own ∙ sym (into p here some)))
      (λ (away : p ≢ to.page). ⊎_elim {C = IsGivenBack (kind pages p) (kind mid p)}
      (λ (own : p ≡ n.page). from p own (moved.moves.adds.touches.kinds p away))
      (λ (other : p ≢ n.page). inl (moved.moves.adds.touches.kinds p away ∙ moved.moves.drops.touches.kinds p other))
      (cases_eq p n.page))
      (cases_eq p to.page);
}
  where
    mid : PageBytes
    mid = after changes pages

    between : PageBytes
    between = moved.moves.between

    three : kind pages n.page ≡ 3
    three = record_kind pages n.page n.slot old moved.stood

    not_from : (p : ℕ) → kind pages p ≡ 0 → p ≢ n.page
    not_from p zero same = let k : kind pages p ≡ kind pages n.page = ap (λ (x : ℕ). kind pages x) same in omega (arith, zero, three, k)

    into : (p : ℕ) → p ≡ to.page → kind pages p ≢ 0 → kind pages p ≡ 3
    into p here some = ⊎_elim {C = kind pages p ≡ 3}
        (λ (same : to.page ≡ n.page). ap (λ (x : ℕ). kind pages x) (here ∙ same) ∙ three)
        (λ other. ⊎_elim {C = kind pages p ≡ 3}
        (λ (is : kind pages to.page ≡ 3). ap (λ (x : ℕ). kind pages x) here ∙ is)
        (λ (zero : kind pages to.page ≡ 0). absurd (some (ap (λ (x : ℕ). kind pages x) here ∙ zero)))
        other.0)
        moved.was

    from : (p : ℕ) → p ≡ n.page → kind mid p ≡ kind between p → IsGivenBack (kind pages p) (kind mid p)
    from p own same =
        let was : kind pages p ≡ 3 = ap (λ (x : ℕ). kind pages x) own ∙ three in
        let now : kind mid p ≡ kind between n.page = same ∙ ap (λ (x : ℕ). kind between x) own in
        ⊎_elim {C = IsGivenBack (kind pages p) (kind mid p)} (λ still. inl (now ∙ still ∙ sym was)) (λ gone. inr (was, now ∙ gone)) (drops_left pages between n.page n.slot moved.moves.drops)

-- and the index takes others where the key's bucket is full
pub added_alone : (split : Bool) (total relations q r : ℕ) (k v : List ℕ) (to : RecordName) (pages mid last : PageBytes) (m : Map) → AreRows relations total pages m → LeavesIndex total pages mid → AreMap total mid m → ((p : ℕ) → kind pages p ≢ 0 → kind mid p ≡ kind pages p)
    → Added split total (record { relation = r; key = k; name = to }) mid last → TakesAlone q r k (Insert r k v) pages mid → TakesAlone q r k (Insert r k v) pages last
added_alone split total relations q r k v to pages mid last m rows leaves between same_kinds added alone = record {
  stands = λ p s other stands. alone.stands p s other (sym (records_stay mid last kept p s) ∙ stands);
  taken = λ p zero some. ⊎_elim {C = ((kind last p ≡ 3) × (p ≡ q)) ⊎ ((kind last p ≡ 2) × NeedsEntry (Insert r k v) pages)}
      (λ (free : kind mid p ≡ 0). inr (
        (added.stays.taken p free some).0,
        crowded_before total pages mid m k rows.index leaves (way_crowded split (record { relation = r; key = k; name = to }) (state_of mid) (state_of last) added.way p free some),
      ))
      (λ (filled : kind mid p ≢ 0).
      let same = added.stays.kinds p filled in
      ⊎_elim {C = ((kind last p ≡ 3) × (p ≡ q)) ⊎ ((kind last p ≡ 2) × NeedsEntry (Insert r k v) pages)}
      (λ own. inl (same ∙ own.0, own.1))
      (λ entry. inr (same ∙ entry.0, entry.1))
      (alone.taken p zero filled))
      (cases_eq (kind mid p) 0);
  given = λ p some. inl (added.stays.kinds p (λ (zero : kind mid p ≡ 0). some (sym (same_kinds p some) ∙ zero)) ∙ same_kinds p some);
}
  where
    kept : StaysFile mid last
    kept = add_stays total mid last between.space_fixed between.directory_fixed added.stays

pub amended_alone : (q r : ℕ) (k : List ℕ) (op : Op) (pages mid last : PageBytes) → kind mid 0 ≡ 1 → StaysFile mid last → ((p : ℕ) → kind mid p ≢ 2 → last p ≡ mid p) → TakesAlone q r k op pages mid → TakesAlone q r k op pages last
amended_alone q r k op pages mid last space kept others alone =
    let map : last 0 ≡ mid 0 = others 0 (λ two. let k : kind mid 0 ≡ 2 = two in omega (arith, space, k)) in
    let kinds : (p : ℕ) → kind mid p ≡ kind last p = λ p. sym (ap (λ (bytes : List ℕ). get_or bytes p 0) map) in
    record {
      stands = λ p s other stands. alone.stands p s other (sym (records_stay mid last kept p s) ∙ stands);
      taken = λ p zero some. subst (λ (n : ℕ). ((n ≡ 3) × (p ≡ q)) ⊎ ((n ≡ 2) × NeedsEntry op pages)) (kinds p) (alone.taken p zero (λ (none : kind mid p ≡ 0). some (sym (kinds p) ∙ none)));
      given = λ p some. subst (IsGivenBack (kind pages p)) (kinds p) (alone.given p some);
    }

-- ---- that page is the one for the record

pub alone_takes : (room : Option ℕ) (op : Op) (q r : ℕ) (k : List ℕ) (pages last : PageBytes) → IsNamed room pages → (IsInto room pages q × NeedsPlace op pages) ⊎ HasStood pages q r k → TakesAlone q r k op pages last → TakesPages room op pages last
alone_takes room op q r k pages last named place alone = record {
  stands = λ p s row is. ⊎_elim {C = (IsInto room pages p × NeedsPlace op pages) ⊎ HasStood pages p row.relation row.key}
      (λ here. ⊎_elim {C = (IsInto room pages p × NeedsPlace op pages) ⊎ HasStood pages p row.relation row.key}
      (λ into. inl (subst (IsInto room pages) (sym here.0) into.0, into.1))
      (λ stood. inr (stood_as pages p q r row.relation k row.key here.0 here.1 here.2 stood))
      place)
      (λ stood. inr stood)
      (alone.stands p s row is);
  taken = λ p zero some. ⊎_elim {C = ((kind last p ≡ 3) × (room ≡ None) × NeedsPlace op pages) ⊎ ((kind last p ≡ 2) × NeedsEntry op pages)}
      (λ own. let new = newly room named (ap (λ (x : ℕ). kind pages x) (sym own.1) ∙ zero) place in inl (own.0, new.0, new.1))
      (λ entry. inr entry)
      (alone.taken p zero some);
  given = alone.given;
}
  where
    newly : (o : Option ℕ) → IsNamed o pages → kind pages q ≡ 0 → (IsInto o pages q × NeedsPlace op pages) ⊎ HasStood pages q r k → (o ≡ None) × NeedsPlace op pages
    newly None is zero (inl into) = (refl, into.1)
    newly (Some x) is zero (inl into) = absurd (let three : kind pages q ≡ 3 = ap (λ (y : ℕ). kind pages y) into.0 ∙ is x refl in omega (arith, zero, three))
    newly o is zero (inr stood) = absurd (let three : kind pages q ≡ 3 = record_kind pages q stood.0 (record { relation = r; key = k; value = stood.1 }) stood.2 in omega (arith, zero, three))

into_chosen : (room : Option ℕ) (total : ℕ) (pages : PageBytes) (p : ℕ) → IsChosen room total pages p → IsInto room pages p
into_chosen (Some q) total pages p is = is
into_chosen None total pages p is = free_chosen total pages p is

-- of a put
pub put_place : (at_hand : ℕ → Option (List ℕ)) (room : Option ℕ) (total : ℕ) (pages : PageBytes) (row : Row) (answer : Step) (plan : Plan) → answer ≡ step.Done plan → IsPut at_hand room total [] pages row answer
    → IsInto room pages plan.name.page
put_place at_hand room total pages row answer plan is outcome = into_chosen room total pages plan.name.page (subst (λ (s : Step). IsPut at_hand room total [] pages row s) is outcome).1

-- of a replacement
pub needs_place : (pages : PageBytes) (m : Map) (n : RecordName) (r : ℕ) (k v w : List ℕ) → AreNamed pages m → m r k ≡ Some n → record_in pages n.page n.slot ≡ Some (record { relation = r; key = k; value = v })
    → IsOutgrown pages n.page (record { relation = r; key = k; value = v }) (record { relation = r; key = k; value = w }) → NeedsPlace (Update r k w) pages
needs_place pages m n r k v w named is stood outgrown p s old there =
    let same = some_name n (record { page = p; slot = s }) (sym is ∙ named.named p s (record { relation = r; key = k; value = old }) there) in
    let page : n.page ≡ p = ap (λ (x : RecordName). x.page) same in
    let slot : n.slot ≡ s = ap (λ (x : RecordName). x.slot) same in
    let row = some_row (record { relation = r; key = k; value = v }) (record { relation = r; key = k; value = old }) (sym stood ∙ (λ i. record_in pages (page i) (slot i)) ∙ there) in
    subst (λ (x : Row). IsOutgrown pages p x (record { relation = r; key = k; value = w })) row (subst (λ (x : ℕ). IsOutgrown pages x (record { relation = r; key = k; value = v }) (record { relation = r; key = k; value = w })) page outgrown)

pub moved_place : (at_hand : ℕ → Option (List ℕ)) (room : Option ℕ) (relations total : ℕ) (pages : PageBytes) (m : Map) (n : RecordName) (r : ℕ) (k v w : List ℕ) (answer : Step) (plan : Plan) → answer ≡ step.Done plan → AreRows relations total pages m → m r k ≡ Some n
    → record_in pages n.page n.slot ≡ Some (record { relation = r; key = k; value = v }) → IsReplacement at_hand room total pages n.page n.slot (record { relation = r; key = k; value = v }) (record { relation = r; key = k; value = w }) answer
    → (IsInto room pages plan.name.page × NeedsPlace (Update r k w) pages) ⊎ HasStood pages plan.name.page r k
moved_place at_hand room relations total pages m n r k v w answer plan is rows names stood outcome =
    let own : plan.name.page ≡ n.page → HasStood pages plan.name.page r k = λ same. (n.slot, v, ap (λ (x : ℕ). record_in pages x n.slot) same ∙ stood) in
    ⊎_elim {C = (IsInto room pages plan.name.page × NeedsPlace (Update r k w) pages) ⊎ HasStood pages plan.name.page r k}
    (λ same. inr (own same.0))
    (λ moved. ⊎_elim {C = (IsInto room pages plan.name.page × NeedsPlace (Update r k w) pages) ⊎ HasStood pages plan.name.page r k}
    (λ here. inr (own here))
    (λ to. inl (into_chosen room total pages plan.name.page to.0, needs_place pages m n r k v w rows.named names stood moved.0))
    moved.1)
    (subst (λ (s : Step). IsReplacement at_hand room total pages n.page n.slot (record { relation = r; key = k; value = v }) (record { relation = r; key = k; value = w }) s) is outcome).0

-- ---- of an answer

abbrev Takes : ℕ → ℕ → ℕ → (ℕ → Option (List ℕ)) → Option ℕ → Op → Act → Type 0
Takes relations counters total at_hand room op act = IfMade act (λ changes reply. InPages at_hand room relations counters total (λ pages. TakesPages room op pages (after changes pages)))

pub roomy_reported : (relations counters total : ℕ) (at_hand : ℕ → Option (List ℕ)) (room : Option ℕ) (op known : Op) (act : Act) → known ≡ op → IfMade act (λ changes reply. InRoomy at_hand room relations total (λ pages m. TakesPages room known pages (after changes pages)))
    → Takes relations counters total at_hand room op act
roomy_reported relations counters total at_hand room op known act same outcome = made_weaker act _ _ (λ changes reply outcome pages agrees good named. subst (λ (o : Op). TakesPages room o pages (after changes pages)) same (outcome pages agrees good.meaning good.rows named)) outcome

pub none_reported : (relations counters total : ℕ) (at_hand : ℕ → Option (List ℕ)) (room : Option ℕ) (op : Op) (act : Act) → IfMade act (λ changes reply. InGood at_hand relations total (λ pages m. TakesNone pages (after changes pages))) → Takes relations counters total at_hand room op act
none_reported relations counters total at_hand room op act outcome = made_weaker act _ _ (λ changes reply outcome pages agrees good named. none_takes room op pages (after changes pages) (outcome pages agrees good.meaning good.rows)) outcome

pub quiet_reported : (relations counters total : ℕ) (at_hand : ℕ → Option (List ℕ)) (room : Option ℕ) (op : Op) (act : Act) → IfMade act (λ changes reply. changes ≡ []) → Takes relations counters total at_hand room op act
quiet_reported relations counters total at_hand room op act outcome = made_weaker act _ _ (λ changes reply none pages agrees good named. none_takes room op pages (after changes pages) (quiet_none pages changes none)) outcome
