-- A record that has been put, and its entry.
use Rattle.mt_steps.proofs.Counted.{StaysCounters, counters_refl, counters_trans, touches_counters, add_counters, row_act}
use Rattle.std.proofs.Common.{◌≡◌, ◌⊎◌, inl, inr, ℕ, ◌<◌, List, [], ◌∷◌, zero, suc, Option, None, Some, Bool, true, ◌==◌, length, refl, ap, sym, ◌∙◌, subst, arith}
use Rattle.std.proofs.lemmas.Bool.Decides.{Decides-eqb}
use Rattle.mt_base.specs.declared.limits.TheConstants.{MAX_VALUE_BYTES}
use Rattle.mt_base.specs.declared.numbers.RecordName.{RecordName}
use Rattle.mt_slots.specs.Page.{Row, Fits}
use Rattle.mt_space.specs.declared.changes.PageChange.{PageChange}
use Rattle.mt_space.specs.Changes.{PageBytes, after}
use Rattle.mt_space.specs.Kinds.{kind}
use Rattle.mt_space.specs.Rooms.{mapped, IsFirstFree}
use Rattle.mt_space.proofs.Maps.{mapped_at}
use Rattle.mt_file.specs.declared.step.Step.{Step}
use Rattle.mt_file.specs.declared.step.Step.TheVariants as step
use Rattle.mt_file.specs.declared.step.Plan.{Plan}
use Rattle.mt_file.specs.Plans.{IsPut, IsShortPlan, IsNamed, IsChosen}
use Rattle.mt_space.specs.declared.changes.Changes.{Changes}
use Rattle.mt_index.specs.declared.answers.Add.{Add}
use Rattle.mt_index.specs.declared.answers.Add.TheVariants as add
use Rattle.mt_index.specs.Answers.{IfAdded, AddFull, AddEndless, Added}
use Rattle.mt_index.specs.Maps.{Map, alter}
use Rattle.mt_index.specs.Pages.{AreMap, AreFormed, LeavesIndex}
use Rattle.mt_index.proofs.Witness.{index_stays, form_stays}
use Rattle.mt_file.specs.File.{record_in}
use Rattle.mt_steps.specs.Held.{HoldsRows, AreRows}
use Rattle.mt_model.specs.declared.operations.Op.TheVariants.{Insert}
use Rattle.mt_model.specs.declared.operations.Reply.{Reply}
use Rattle.mt_model.specs.declared.operations.Reply.TheVariants.{Done, Exists}
use Rattle.mt_model.specs.Model.{Base, done_unless, alter_row, inserted}
use Rattle.mt_steps.specs.declared.act.Act.{Act}
use Rattle.mt_steps.specs.declared.act.Act.TheVariants.{Lock, Made, Full, Broken}
use Rattle.mt_steps.specs.Acts.{IsPlaced, IfMade, IsAct}
use Rattle.mt_steps.proofs.Rows.{none_held, inserted_again}
use Rattle.mt_steps.proofs.Apart.{StaysFile, add_stays}
use Rattle.mt_steps.proofs.Acting.{touches_index, inserts_good, inserts_base, base_same, value_held}

-- the index stays while the record is put
pub placed_leaves : (relations total : ℕ) (pages : PageBytes) (m : Map) (changes : List PageChange) (name : RecordName) (row : Row) → AreRows relations total pages m → IsPlaced total pages changes name row → LeavesIndex total pages (after changes pages)
placed_leaves relations total pages m changes name row rows placed = touches_index total pages (after changes pages) m name.page rows.index placed.adds.touches placed.was placed.inside
    (λ two. let a : kind (after changes pages) name.page ≡ 3 = placed.adds.own in let b : kind (after changes pages) name.page ≡ 2 = two in omega (arith, a, b))

pub placed_map : (relations total : ℕ) (pages : PageBytes) (m : Map) (changes : List PageChange) (name : RecordName) (row : Row) → AreRows relations total pages m → IsPlaced total pages changes name row → AreMap total (after changes pages) m
placed_map relations total pages m changes name row rows placed = index_stays total pages (after changes pages) m rows.index (placed_leaves relations total pages m changes name row rows placed)

pub placed_form : (relations total : ℕ) (pages : PageBytes) (m : Map) (changes : List PageChange) (name : RecordName) (row : Row) → AreRows relations total pages m → IsPlaced total pages changes name row → AreFormed relations total (after changes pages)
placed_form relations total pages m changes name row rows placed = form_stays relations total pages (after changes pages) m rows.index rows.formed (placed_leaves relations total pages m changes name row rows placed)

-- what holds of an answer that is known
pub added_is : (P : List PageChange → Type 0) (a : Add) (changes : Changes) → a ≡ add.Changes changes → IfAdded a P → P changes.list.items
added_is P a changes is outcome = subst (λ (x : Add). IfAdded x P) is outcome

pub full_is : (P : Type 0) (a : Add) → a ≡ add.Full → AddFull a P → P
full_is P a is outcome = subst (λ (x : Add). AddFull x P) is outcome

pub endless_is : (P : Type 0) (a : Add) → a ≡ add.Endless → AddEndless a P → P
endless_is P a is outcome = subst (λ (x : Add). AddEndless x P) is outcome

-- what a plan made, if it made anything
pub made_weaker : (act : Act) (P Q : List PageChange → Reply → Type 0) → ((changes : List PageChange) (reply : Reply) → P changes reply → Q changes reply) → IfMade act P → IfMade act Q
made_weaker (Lock p mode) P Q f outcome = outcome
made_weaker (Made changes reply) P Q f outcome = f changes.list.items reply outcome
made_weaker Full P Q f outcome = outcome
made_weaker Broken P Q f outcome = outcome

-- both plans together are one act
pub entered : (relations total : ℕ) (split : Bool) (pages last : PageBytes) (m : Map) (first : List PageChange) (name : RecordName) (r : ℕ) (k v : List ℕ) (reply : Reply) → AreRows relations total pages m → m r k ≡ None
    → Fits relations MAX_VALUE_BYTES (record { relation = r; key = k; value = v }) → IsPlaced total pages first name (record { relation = r; key = k; value = v })
    → AreMap total last (alter m r k (Some name)) → Added split total (record { relation = r; key = k; name = name }) (after first pages) last → reply ≡ Done → IsAct relations total pages last (Insert r k v) reply
entered relations total split pages last m first name r k v reply rows none fits placed map added is =
    row_act relations total pages last (alter m r k (Some name)) (Insert r k v) reply counters (λ b. refl)
    (λ b held. ap done_unless (none_held pages m b r k rows.named held none) ∙ sym is)
    (λ b held. inserts_base relations total pages mid last m b name.page name.slot r k v rows held none placed.adds kept)
    (inserts_good relations total pages mid last m name.page name.slot r k v rows none fits placed.adds kept map formed counters.map)
  where
    mid : PageBytes
    mid = after first pages

    row : Row
    row = record { relation = r; key = k; value = v }

    between : AreMap total mid m
    between = placed_map relations total pages m first name row rows placed

    at_mid : StaysCounters total pages mid
    at_mid = touches_counters total pages mid name.page rows.map placed.was placed.inside (inl placed.adds.own) placed.adds.touches

    counters : StaysCounters total pages last
    counters = counters_trans total pages mid last at_mid (add_counters total mid last at_mid.map added.stays)

    kept : StaysFile mid last
    kept = add_stays total mid last between.space_fixed between.directory_fixed added.stays

    formed : AreFormed relations total last
    formed = added.formed relations (record { relation = fits.relation; some = fits.key.0; place = placed.inside }) (placed_form relations total pages m first name row rows placed)

-- ---- where a put goes

mapped_inside : (kinds : List ℕ) (total p : ℕ) → p < length (mapped kinds total) → (p < total) × (p < length kinds)
mapped_inside [] zero p lt = absurd (omega (arith, lt))
mapped_inside [] (suc total) p lt = absurd (omega (arith, lt))
mapped_inside (k ∷ kinds) zero p lt = absurd (omega (arith, lt))
mapped_inside (k ∷ kinds) (suc total) zero lt = (omega arith, omega arith)
mapped_inside (k ∷ kinds) (suc total) (suc p) lt = let r = mapped_inside kinds total p (omega (arith, lt)) in let a = r.0 in let b = r.1 in (omega arith, omega arith)

is_zero : (n : ℕ) → true ≡ (n == 0) → n ≡ 0
is_zero n e = (Decides-eqb n 0).0 (sym e)

-- the free page of the smallest number is one of them
pub first_inside : (total : ℕ) (pages : PageBytes) (p : ℕ) → IsFirstFree (mapped (pages 0) total) p → p < total
first_inside total pages p first = (mapped_inside (pages 0) total p first.within).0

pub free_chosen : (total : ℕ) (pages : PageBytes) (p : ℕ) → IsFirstFree (mapped (pages 0) total) p → kind pages p ≡ 0
free_chosen total pages p is =
    let inside = mapped_inside (pages 0) total p is.within in
    is_zero (kind pages p) (sym is.free ∙ mapped_at (pages 0) total p inside.0 inside.1)

-- the page is one of records, or a free one
pub chosen : (room : Option ℕ) (relations total : ℕ) (pages : PageBytes) (m : Map) (p : ℕ) → AreRows relations total pages m → IsNamed room pages → IsChosen room total pages p → ((kind pages p ≡ 3) ⊎ (kind pages p ≡ 0)) × (p < total)
chosen (Some q) relations total pages m p rows named is =
    let three : kind pages p ≡ 3 = ap (λ (n : ℕ). kind pages n) is ∙ named q refl in
    (inl three, rows.index.within p (λ z. let w : kind pages p ≡ 0 = z in omega (arith, three, w)))
chosen None relations total pages m p rows named is = (inr (free_chosen total pages p is), first_inside total pages p is)

pub placed_is : (at_hand : ℕ → Option (List ℕ)) (room : Option ℕ) (relations total : ℕ) (pages : PageBytes) (m : Map) (row : Row) (answer : Step) (plan : Plan) → answer ≡ step.Done plan → AreRows relations total pages m → IsNamed room pages
    → IsPut at_hand room total [] pages row answer → IsShortPlan pages answer → IsPlaced total pages plan.changes.list.items plan.name row
placed_is at_hand room relations total pages m row answer plan is rows named put short =
    let outcome = subst (λ (s : Step). IsPut at_hand room total [] pages row s) is put in
    let where_to = chosen room relations total pages m plan.name.page rows named outcome.1 in
    record { adds = outcome.0; was = where_to.0; inside = where_to.1; short = subst (λ (s : Step). IsShortPlan pages s) is short }

-- a key that has a value keeps it
pub found_already : (relations total : ℕ) (pages : PageBytes) (m : Map) (n : RecordName) (r : ℕ) (k v : List ℕ) → AreRows relations total pages m → m r k ≡ Some n → IsAct relations total pages pages (Insert r k v) Exists
found_already relations total pages m n r k v rows is =
    row_act relations total pages pages m (Insert r k v) Exists (counters_refl total pages rows.map) (λ b. refl)
    (λ b held. ap done_unless (there b held))
    (λ b held. base_same pages b (alter_row b r k (inserted v)) (λ q l. sym (row_again b q l (there b held))) held)
    rows
  where
    named : (u : List ℕ) × (record_in pages n.page n.slot ≡ Some (record { relation = r; key = k; value = u }))
    named = rows.named.names r k n is

    there : (b : Base) → HoldsRows pages b → b.rows r k ≡ Some named.0
    there b held = value_held pages m b n r k named.0 held named.1

    row_again : (b : Base) (q : ℕ) (l : List ℕ) → b.rows r k ≡ Some named.0 → (alter_row b r k (inserted v)).rows q l ≡ b.rows q l
    row_again b q l held = inserted_again b r k v named.0 held q l
