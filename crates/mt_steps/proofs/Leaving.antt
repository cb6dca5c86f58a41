-- A record that has been taken away, and its entry.
use Rattle.mt_steps.proofs.Counted.{StaysCounters, counters_refl, counters_trans, touches_counters, amends_counters, row_act}
use Rattle.std.proofs.Common.{◌≡◌, ◌≢◌, inl, ℕ, List, Option, None, Some, refl, ap, sym, ◌∙◌, subst, arith, ◌⊎◌, inr, ⊎_elim}
use Rattle.std.proofs.lemmas.Bool.{cases_eq}
use Rattle.mt_base.specs.declared.numbers.RecordName.{RecordName}
use Rattle.mt_slots.specs.Page.{Row}
use Rattle.mt_space.specs.declared.changes.PageChange.{PageChange}
use Rattle.mt_space.specs.declared.changes.Changes.{Changes}
use Rattle.mt_space.specs.Changes.{PageBytes, after}
use Rattle.mt_space.specs.Kinds.{kind}
use Rattle.mt_file.specs.File.{record_in, Drops}
use Rattle.mt_file.specs.declared.step.Step.{Step}
use Rattle.mt_file.specs.declared.step.Step.TheVariants as step
use Rattle.mt_file.specs.declared.step.Plan.{Plan}
use Rattle.mt_file.specs.Plans.{IsRemoval, IsShortPlan}
use Rattle.mt_file.proofs.Filed.{record_kind}
use Rattle.mt_index.specs.declared.answers.Amend.{Amend}
use Rattle.mt_index.specs.declared.answers.Amend.TheVariants as amend
use Rattle.mt_index.specs.Answers.{IfAmended, AmendMissing, AmendEndless}
use Rattle.mt_index.specs.Maps.{Map, alter}
use Rattle.mt_index.specs.Pages.{AreMap, AreFormed, LeavesIndex}
use Rattle.mt_index.proofs.Witness.{index_stays, form_stays}
use Rattle.mt_model.specs.declared.operations.Op.TheVariants.{Delete}
use Rattle.mt_model.specs.declared.operations.Reply.{Reply}
use Rattle.mt_model.specs.declared.operations.Reply.TheVariants.{Was, Missing}
use Rattle.mt_model.specs.Model.{was, alter_row, deleted}
use Rattle.mt_steps.specs.Held.{AreRows}
use Rattle.mt_steps.specs.Acts.{IsTaken, IsAct}
use Rattle.mt_steps.proofs.Rows.{none_held, deleted_again}
use Rattle.mt_steps.proofs.Apart.{StaysFile}
use Rattle.mt_steps.proofs.Acting.{touches_index, amends_file, deletes_good, deletes_base, base_same, value_held}

-- what holds of an answer that is known
pub amended_is : (P : List PageChange → Type 0) (a : Amend) (changes : Changes) → a ≡ amend.Changes changes → IfAmended a P → P changes.list.items
amended_is P a changes is outcome = subst (λ (x : Amend). IfAmended x P) is outcome

pub amend_missing_is : (P : Type 0) (a : Amend) → a ≡ amend.Missing → AmendMissing a P → P
amend_missing_is P a is outcome = subst (λ (x : Amend). AmendMissing x P) is outcome

pub amend_endless_is : (P : Type 0) (a : Amend) → a ≡ amend.Endless → AmendEndless a P → P
amend_endless_is P a is outcome = subst (λ (x : Amend). AmendEndless x P) is outcome

-- a page from which a record is taken is one of records still, or a free one
pub zero_or_three : (pages mid : PageBytes) (p s : ℕ) → Drops pages mid p s → (kind mid p ≡ 3) ⊎ (kind mid p ≡ 0)
zero_or_three pages mid p s drops = ⊎_elim
    (λ (three : kind mid p ≡ 3). inl three)
    (λ (not_three : kind mid p ≢ 3). inr (drops.last (λ t ne. none_of (record_in pages p t) (λ some. not_three (drops.more t ne some)))))
    (cases_eq (kind mid p) 3)
  where
    none_of : (o : Option Row) → (o ≢ None → ⊥) → o ≡ None
    none_of None h = refl
    none_of (Some r) h = absurd (h (λ e. cc))

-- so no bucket's
pub not_bucket : (pages mid : PageBytes) (p s : ℕ) → Drops pages mid p s → kind mid p ≢ 2
not_bucket pages mid p s drops two = ⊎_elim
    (λ (three : kind mid p ≡ 3). let b : kind mid p ≡ 2 = two in omega (arith, three, b))
    (λ (zero : kind mid p ≡ 0). let b : kind mid p ≡ 2 = two in omega (arith, zero, b))
    (zero_or_three pages mid p s drops)

pub taken_leaves : (relations total : ℕ) (pages : PageBytes) (m : Map) (changes : List PageChange) (n : RecordName) (row : Row) → AreRows relations total pages m → IsTaken pages changes n row → LeavesIndex total pages (after changes pages)
taken_leaves relations total pages m changes n row rows taken =
    let three : kind pages n.page ≡ 3 = record_kind pages n.page n.slot row taken.stood in
    touches_index total pages (after changes pages) m n.page rows.index taken.drops.touches (inl three) (rows.index.within n.page (λ z. let w : kind pages n.page ≡ 0 = z in omega (arith, three, w))) (not_bucket pages (after changes pages) n.page n.slot taken.drops)

pub taken_map : (relations total : ℕ) (pages : PageBytes) (m : Map) (changes : List PageChange) (n : RecordName) (row : Row) → AreRows relations total pages m → IsTaken pages changes n row → AreMap total (after changes pages) m
taken_map relations total pages m changes n row rows taken = index_stays total pages (after changes pages) m rows.index (taken_leaves relations total pages m changes n row rows taken)

pub taken_form : (relations total : ℕ) (pages : PageBytes) (m : Map) (changes : List PageChange) (n : RecordName) (row : Row) → AreRows relations total pages m → IsTaken pages changes n row → AreFormed relations total (after changes pages)
taken_form relations total pages m changes n row rows taken = form_stays relations total pages (after changes pages) m rows.index rows.formed (taken_leaves relations total pages m changes n row rows taken)

-- both plans together are one act
pub left : (relations total : ℕ) (pages last : PageBytes) (m : Map) (first : List PageChange) (n : RecordName) (r : ℕ) (k v : List ℕ) (reply : Reply) → AreRows relations total pages m → m r k ≡ Some n
    → IsTaken pages first n (record { relation = r; key = k; value = v }) → AreMap total last (alter m r k None) → ((p : ℕ) → kind (after first pages) p ≢ 2 → last p ≡ after first pages p) → AreFormed relations total last
    → reply ≡ Was v → IsAct relations total pages last (Delete r k) reply
left relations total pages last m first n r k v reply rows is taken map others formed outcome =
    row_act relations total pages last (alter m r k None) (Delete r k) reply counters (λ b. refl)
    (λ b held. ap was (value_held pages m b n r k v held taken.stood) ∙ sym outcome)
    (λ b held. deletes_base relations total pages (after first pages) last m b n r k v rows held is taken.stood taken.drops kept)
    (deletes_good relations total pages (after first pages) last m n r k v rows is taken.stood taken.drops kept map formed counters.map)
  where
    space : kind (after first pages) 0 ≡ 1
    space = (taken_map relations total pages m first n (record { relation = r; key = k; value = v }) rows taken).space_fixed

    at_mid : StaysCounters total pages (after first pages)
    at_mid =
        let three : kind pages n.page ≡ 3 = record_kind pages n.page n.slot (record { relation = r; key = k; value = v }) taken.stood in
        touches_counters total pages (after first pages) n.page rows.map (inl three) (rows.index.within n.page (λ z. let w : kind pages n.page ≡ 0 = z in omega (arith, three, w))) (zero_or_three pages (after first pages) n.page n.slot taken.drops) taken.drops.touches

    counters : StaysCounters total pages last
    counters = counters_trans total pages (after first pages) last at_mid (amends_counters total (after first pages) last at_mid.map others)

    kept : StaysFile (after first pages) last
    kept = amends_file (after first pages) last space others

-- a key without a value stays so
pub missing_already : (relations total : ℕ) (pages : PageBytes) (m : Map) (r : ℕ) (k : List ℕ) → AreRows relations total pages m → m r k ≡ None → IsAct relations total pages pages (Delete r k) Missing
missing_already relations total pages m r k rows none =
    row_act relations total pages pages m (Delete r k) Missing (counters_refl total pages rows.map) (λ b. refl)
    (λ b held. ap was (none_held pages m b r k rows.named held none))
    (λ b held. base_same pages b (alter_row b r k deleted) (λ q l. sym (deleted_again b r k (none_held pages m b r k rows.named held none) q l)) held)
    rows

-- ---- a removal

pub removal_fits : (at_hand : ℕ → Option (List ℕ)) (pages : PageBytes) (p s : ℕ) (answer : Step) → answer ≡ step.Full → IsRemoval at_hand pages p s answer → ⊥
removal_fits at_hand pages p s answer is outcome = subst (λ (x : Step). IsRemoval at_hand pages p s x) is outcome

pub removal_takes : (at_hand : ℕ → Option (List ℕ)) (pages : PageBytes) (n : RecordName) (row : Row) (answer : Step) (plan : Plan) → answer ≡ step.Done plan → IsRemoval at_hand pages n.page n.slot answer → IsShortPlan pages answer
    → record_in pages n.page n.slot ≡ Some row → IsTaken pages plan.changes.list.items n row
removal_takes at_hand pages n row answer plan is outcome short stood = record {
  stood = stood;
  drops = (subst (λ (x : Step). IsRemoval at_hand pages n.page n.slot x) is outcome).0;
  short = subst (λ (x : Step). IsShortPlan pages x) is short;
}
