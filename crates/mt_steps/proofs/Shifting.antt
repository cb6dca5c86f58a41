-- A record that has another value, under its name or a new one, and its entry.
use Rattle.mt_steps.proofs.Counted.{StaysCounters, counters_refl, counters_trans, touches_counters, stays_counters, amends_counters, row_act}
use Rattle.std.proofs.Common.{◌≡◌, ◌≢◌, ◌⊎◌, inl, inr, ⊎_elim, ℕ, ◌<◌, List, Option, None, Some, refl, ap, sym, ◌∙◌, subst, arith}
use Rattle.std.proofs.lemmas.Bool.{cases_eq}
use Rattle.mt_base.specs.declared.limits.TheConstants.{MAX_VALUE_BYTES}
use Rattle.mt_base.specs.declared.numbers.RecordName.{RecordName}
use Rattle.mt_slots.specs.Page.{Row, Fits, row_length}
use Rattle.mt_space.specs.declared.changes.PageChange.{PageChange}
use Rattle.mt_space.specs.Changes.{PageBytes, after, AreShort}
use Rattle.mt_space.specs.Kinds.{kind}
use Rattle.mt_file.specs.File.{record_in, Drops}
use Rattle.mt_file.specs.declared.step.Step.{Step}
use Rattle.mt_file.specs.declared.step.Step.TheVariants as step
use Rattle.mt_file.specs.declared.step.Plan.{Plan}
use Rattle.mt_file.specs.Plans.{IsReplacement, IsReplaced, IsShortPlan, IsNamed, IsChosen, IsRoomy}
use Rattle.mt_file.proofs.Filed.{record_kind}
use Rattle.mt_index.specs.Maps.{Map, alter}
use Rattle.mt_index.specs.Pages.{AreMap, AreFormed, LeavesIndex}
use Rattle.mt_index.proofs.Witness.{index_stays, form_stays}
use Rattle.mt_model.specs.declared.operations.Op.TheVariants.{Update}
use Rattle.mt_model.specs.declared.operations.Reply.{Reply}
use Rattle.mt_model.specs.declared.operations.Reply.TheVariants.{Was, Missing}
use Rattle.mt_model.specs.Model.{Base, was, alter_row, updated}
use Rattle.mt_steps.specs.Held.{HoldsRows, AreRows}
use Rattle.mt_steps.specs.Acts.{IsKept, IsMoved, IsAct}
use Rattle.mt_steps.proofs.Rows.{none_held, alter_same, updated_again}
use Rattle.mt_steps.proofs.Apart.{StaysFile}
use Rattle.mt_steps.proofs.Acting.{touches_index, amends_file, updates_good, updates_base, moves_good, moves_base, base_same, value_held}
use Rattle.mt_steps.proofs.Crowding.{leaves_both}
use Rattle.mt_steps.proofs.Leaving.{not_bucket, zero_or_three}
use Rattle.mt_steps.proofs.Entering.{chosen}

-- the index stays while the record is taken away
between_leaves : (relations total : ℕ) (pages between : PageBytes) (m : Map) (n : RecordName) (old : Row) → AreRows relations total pages m → record_in pages n.page n.slot ≡ Some old → Drops pages between n.page n.slot → LeavesIndex total pages between
between_leaves relations total pages between m n old rows stood drops =
    let three : kind pages n.page ≡ 3 = record_kind pages n.page n.slot old stood in
    touches_index total pages between m n.page rows.index drops.touches (inl three) (rows.index.within n.page (λ z. let w : kind pages n.page ≡ 0 = z in omega (arith, three, w))) (not_bucket pages between n.page n.slot drops)

-- the page that it moves to is then one of records or a free one
to_kind : (relations total : ℕ) (pages between : PageBytes) (m : Map) (n to : RecordName) (old : Row) → AreRows relations total pages m → record_in pages n.page n.slot ≡ Some old → Drops pages between n.page n.slot
    → (to.page ≡ n.page) ⊎ (((kind pages to.page ≡ 3) ⊎ (kind pages to.page ≡ 0)) × (to.page < total)) → ((kind between to.page ≡ 3) ⊎ (kind between to.page ≡ 0)) × (to.page < total)
to_kind relations total pages between m n to old rows stood drops to_is = ⊎_elim
    (λ (same : to.page ≡ n.page). here same)
    (λ (differs : to.page ≢ n.page). ⊎_elim
    (λ (same : to.page ≡ n.page). here same)
    (λ (other : ((kind pages to.page ≡ 3) ⊎ (kind pages to.page ≡ 0)) × (to.page < total)). (
      ⊎_elim
          (λ (three : kind pages to.page ≡ 3). inl (drops.touches.kinds to.page differs ∙ three))
          (λ (zero : kind pages to.page ≡ 0). inr (drops.touches.kinds to.page differs ∙ zero))
          other.0,
      other.1,
    ))
    to_is)
    (cases_eq to.page n.page)
  where
    three : kind pages n.page ≡ 3
    three = record_kind pages n.page n.slot old stood

    here : to.page ≡ n.page → ((kind between to.page ≡ 3) ⊎ (kind between to.page ≡ 0)) × (to.page < total)
    here same = subst (λ (q : ℕ). ((kind between q ≡ 3) ⊎ (kind between q ≡ 0)) × (q < total)) (sym same)
        (zero_or_three pages between n.page n.slot drops, rows.index.within n.page (λ z. let w : kind pages n.page ≡ 0 = z in omega (arith, three, w)))

pub moved_leaves : (relations total : ℕ) (pages : PageBytes) (m : Map) (changes : List PageChange) (n to : RecordName) (old row : Row) → AreRows relations total pages m → IsMoved total pages changes n to old row → LeavesIndex total pages (after changes pages)
moved_leaves relations total pages m changes n to old row rows moved = leaves_both total pages moved.moves.between mid first second
  where
    mid : PageBytes
    mid = after changes pages

    first : LeavesIndex total pages moved.moves.between
    first = between_leaves relations total pages moved.moves.between m n old rows moved.stood moved.moves.drops

    second : LeavesIndex total moved.moves.between mid
    second =
        let to_is = to_kind relations total pages moved.moves.between m n to old rows moved.stood moved.moves.drops moved.was in
        touches_index total moved.moves.between mid m to.page (index_stays total pages moved.moves.between m rows.index first) moved.moves.adds.touches to_is.0 to_is.1
        (λ two. let a : kind mid to.page ≡ 3 = moved.moves.adds.own in let b : kind mid to.page ≡ 2 = two in omega (arith, a, b))

pub moved_map : (relations total : ℕ) (pages : PageBytes) (m : Map) (changes : List PageChange) (n to : RecordName) (old row : Row) → AreRows relations total pages m → IsMoved total pages changes n to old row
    → AreMap total (after changes pages) m × AreFormed relations total (after changes pages)
moved_map relations total pages m changes n to old row rows moved =
    let leaves = moved_leaves relations total pages m changes n to old row rows moved in
    (index_stays total pages (after changes pages) m rows.index leaves, form_stays relations total pages (after changes pages) m rows.index rows.formed leaves)

-- ---- the acts

pub updates_reported : (relations total : ℕ) (pages : PageBytes) (m : Map) (b : Base) (n : RecordName) (r : ℕ) (k v : List ℕ) (reply : Reply) → HoldsRows pages b → record_in pages n.page n.slot ≡ Some (record { relation = r; key = k; value = v }) → reply ≡ Was v → was (b.rows r k) ≡ reply
updates_reported relations total pages m b n r k v reply held stood outcome = ap was (value_held pages m b n r k v held stood) ∙ sym outcome

pub kept_act : (relations total : ℕ) (pages : PageBytes) (m : Map) (changes : List PageChange) (n : RecordName) (r : ℕ) (k v w : List ℕ) (reply : Reply) → AreRows relations total pages m → m r k ≡ Some n → Fits relations MAX_VALUE_BYTES (record { relation = r; key = k; value = w })
    → IsKept pages changes n (record { relation = r; key = k; value = v }) (record { relation = r; key = k; value = w }) → reply ≡ Was v → IsAct relations total pages (after changes pages) (Update r k w) reply
kept_act relations total pages m changes n r k v w reply rows is fits kept outcome =
    let counters = stays_counters total pages (after changes pages) n.page n.slot (record { relation = r; key = k; value = w }) rows.map (record_kind pages n.page n.slot (record { relation = r; key = k; value = v }) kept.stood) kept.stays in
    row_act relations total pages (after changes pages) m (Update r k w) reply counters (λ b. refl)
    (λ b held. updates_reported relations total pages m b n r k v reply held kept.stood outcome)
    (λ b held. updates_base relations total pages (after changes pages) m b n r k v w rows held is kept.stood kept.stays)
    (updates_good relations total pages (after changes pages) m n r k v w rows is kept.stood fits kept.stays counters.map)

pub moved_act : (relations total : ℕ) (pages last : PageBytes) (m : Map) (changes : List PageChange) (n to : RecordName) (r : ℕ) (k v w : List ℕ) (reply : Reply) → AreRows relations total pages m → m r k ≡ Some n → Fits relations MAX_VALUE_BYTES (record { relation = r; key = k; value = w })
    → IsMoved total pages changes n to (record { relation = r; key = k; value = v }) (record { relation = r; key = k; value = w }) → AreMap total last (alter m r k (Some to)) → ((p : ℕ) → kind (after changes pages) p ≢ 2 → last p ≡ after changes pages p)
    → AreFormed relations total last → reply ≡ Was v → IsAct relations total pages last (Update r k w) reply
moved_act relations total pages last m changes n to r k v w reply rows is fits moved map others formed outcome =
    row_act relations total pages last (alter m r k (Some to)) (Update r k w) reply counters (λ b. refl)
    (λ b held. updates_reported relations total pages m b n r k v reply held moved.stood outcome)
    (λ b held. moves_base relations total pages mid last m b n to r k v w rows held is moved.stood moved.moves kept)
    (moves_good relations total pages mid last m n to r k v w rows is moved.stood fits moved.moves kept map formed counters.map)
  where
    mid : PageBytes
    mid = after changes pages

    old : Row
    old = record { relation = r; key = k; value = v }

    space : kind mid 0 ≡ 1
    space = (moved_map relations total pages m changes n to old (record { relation = r; key = k; value = w }) rows moved).0.space_fixed

    at_between : StaysCounters total pages moved.moves.between
    at_between =
        let three : kind pages n.page ≡ 3 = record_kind pages n.page n.slot old moved.stood in
        touches_counters total pages moved.moves.between n.page rows.map (inl three) (rows.index.within n.page (λ z. let w : kind pages n.page ≡ 0 = z in omega (arith, three, w))) (zero_or_three pages moved.moves.between n.page n.slot moved.moves.drops) moved.moves.drops.touches

    at_mid : StaysCounters total pages mid
    at_mid =
        let to_is = to_kind relations total pages moved.moves.between m n to old rows moved.stood moved.moves.drops moved.was in
        counters_trans total pages moved.moves.between mid at_between (touches_counters total moved.moves.between mid to.page at_between.map to_is.0 to_is.1 (inl moved.moves.adds.own) moved.moves.adds.touches)

    counters : StaysCounters total pages last
    counters = counters_trans total pages mid last at_mid (amends_counters total mid last at_mid.map others)

    kept : StaysFile mid last
    kept = amends_file mid last space others

-- it moved within its page, and has its name still
pub moved_here : (relations total : ℕ) (pages : PageBytes) (m : Map) (changes : List PageChange) (n : RecordName) (r : ℕ) (k v w : List ℕ) (reply : Reply) → AreRows relations total pages m → m r k ≡ Some n → Fits relations MAX_VALUE_BYTES (record { relation = r; key = k; value = w })
    → IsMoved total pages changes n n (record { relation = r; key = k; value = v }) (record { relation = r; key = k; value = w }) → reply ≡ Was v → IsAct relations total pages (after changes pages) (Update r k w) reply
moved_here relations total pages m changes n r k v w reply rows is fits moved outcome =
    let both = moved_map relations total pages m changes n n (record { relation = r; key = k; value = v }) (record { relation = r; key = k; value = w }) rows moved in
    moved_act relations total pages (after changes pages) m changes n n r k v w reply rows is fits moved
    (subst (AreMap total (after changes pages)) (λ i q l. sym (alter_same m r k n is q l) i) both.0) (λ p ne. refl) both.1 outcome

-- a key without a value stays so
pub update_misses : (relations total : ℕ) (pages : PageBytes) (m : Map) (r : ℕ) (k w : List ℕ) → AreRows relations total pages m → m r k ≡ None → IsAct relations total pages pages (Update r k w) Missing
update_misses relations total pages m r k w rows none =
    row_act relations total pages pages m (Update r k w) Missing (counters_refl total pages rows.map) (λ b. refl)
    (λ b held. ap was (none_held pages m b r k rows.named held none))
    (λ b held. base_same pages b (alter_row b r k (updated w)) (λ q l. sym (updated_again b r k w (none_held pages m b r k rows.named held none) q l)) held)
    rows

-- ---- a replacement

abbrev Replacement : (ℕ → Option (List ℕ)) → Option ℕ → ℕ → PageBytes → RecordName → Row → List ℕ → Step → Type 0
Replacement at_hand room total pages n r w answer = IsReplacement at_hand room total pages n.page n.slot r (record r { value = w }) answer

-- what was replaced stays under its name, or has moved
pub replacement_is : (at_hand : ℕ → Option (List ℕ)) (room : Option ℕ) (relations total : ℕ) (pages : PageBytes) (m : Map) (n : RecordName) (r : Row) (w : List ℕ) (answer : Step) (plan : Plan) → answer ≡ step.Done plan → AreRows relations total pages m → IsNamed room pages
    → Replacement at_hand room total pages n r w answer → IsShortPlan pages answer → record_in pages n.page n.slot ≡ Some r
    → (((plan.name.page ≡ n.page) × (plan.name.slot ≡ n.slot)) × IsKept pages plan.changes.list.items n r (record r { value = w })) ⊎ IsMoved total pages plan.changes.list.items n plan.name r (record r { value = w })
replacement_is at_hand room relations total pages m n r w answer plan is rows named outcome short stood = go (subst (λ (x : Step). Replacement at_hand room total pages n r w x) is outcome).0
  where
    shorts : AreShort plan.changes.list.items pages
    shorts = subst (λ (x : Step). IsShortPlan pages x) is short

    go : IsReplaced room total pages (after plan.changes.list.items pages) n.page n.slot r (record r { value = w }) plan.name.page plan.name.slot
        → (((plan.name.page ≡ n.page) × (plan.name.slot ≡ n.slot)) × IsKept pages plan.changes.list.items n r (record r { value = w })) ⊎ IsMoved total pages plan.changes.list.items n plan.name r (record r { value = w })
    go (inl same) = inl ((same.0, same.1), record { stood = stood; stays = same.2; short = shorts })
    go (inr moved) = inr (record { stood = stood; moves = moved.2; outgrown = moved.0; was = ⊎_elim (λ (e : plan.name.page ≡ n.page). inl e) (λ (c : IsChosen room total pages plan.name.page × IsRoomy room pages (row_length (record r { value = w }))). inr (chosen room relations total pages m plan.name.page rows named c.0)) moved.1; short = shorts })

-- the page that it moves to is one of them
pub to_inside : (relations total : ℕ) (pages : PageBytes) (m : Map) (changes : List PageChange) (n to : RecordName) (old row : Row) → AreRows relations total pages m → IsMoved total pages changes n to old row → to.page < total
to_inside relations total pages m changes n to old row rows moved = (to_kind relations total pages moved.moves.between m n to old rows moved.stood moved.moves.drops moved.was).1

-- a record with another name has moved
pub has_moved : (total : ℕ) (pages : PageBytes) (plan : Plan) (n : RecordName) (r : Row) (w : List ℕ) → (plan.name.page ≢ n.page) ⊎ (plan.name.slot ≢ n.slot)
    → (((plan.name.page ≡ n.page) × (plan.name.slot ≡ n.slot)) × IsKept pages plan.changes.list.items n r (record r { value = w })) ⊎ IsMoved total pages plan.changes.list.items n plan.name r (record r { value = w })
    → IsMoved total pages plan.changes.list.items n plan.name r (record r { value = w })
has_moved total pages plan n r w (inl page) (inl kept) = absurd (page kept.0.0)
has_moved total pages plan n r w (inr slot) (inl kept) = absurd (slot kept.0.1)
has_moved total pages plan n r w differ (inr moved) = moved
