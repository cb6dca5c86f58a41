-- Pages that a plan asks for, and that they are among those that there are.
use Rattle.std.proofs.Common.{◌≡◌, ◌≢◌, inl, inr, ⊎_elim, Bool, ℕ, ◌<◌, ◌≤◌, ◌+◌, List, [], Option, None, Some, refl, ap, sym, ◌∙◌, subst, arith}
use mathlib.Core.Logic.{∥∥₁_elim}
use Rattle.std.proofs.Props.{props}
use Rattle.mt_base.specs.declared.modes.Mode.{Mode}
use Rattle.mt_base.specs.declared.modes.Mode.TheVariants.{Read, Write}
use Rattle.mt_base.specs.declared.numbers.RecordName.{RecordName}
use Rattle.mt_slots.specs.Page.{Row}
use Rattle.mt_space.specs.declared.changes.PageChange.{PageChange}
use Rattle.mt_space.specs.Changes.{Agrees, PageBytes}
use Rattle.mt_space.specs.Kinds.{kind}
use Rattle.mt_file.specs.File.{record_in}
use Rattle.mt_file.specs.declared.step.Plan.{Plan}
use Rattle.mt_file.specs.declared.step.Step.{Step}
use Rattle.mt_file.specs.declared.step.Step.TheVariants as step
use Rattle.mt_file.specs.Plans.{IsNamed, IsLooked, IsPut, IsRemoval, IsReplacement, IsSeen}
use Rattle.mt_file.proofs.Filed.{record_kind}
use Rattle.mt_index.specs.Maps.{Map}
use Rattle.mt_index.specs.Pages.{AreMap}
use Rattle.mt_index.specs.declared.answers.Add.{Add}
use Rattle.mt_index.specs.declared.answers.Add.TheVariants as add
use Rattle.mt_index.specs.declared.answers.Amend.{Amend}
use Rattle.mt_index.specs.declared.answers.Amend.TheVariants as amend
use Rattle.mt_index.specs.Answers.{IsInBucket, IsInAdd, AddNeeds, AmendNeeds, AreSeen}
use Rattle.mt_overlay.specs.declared.overlay.PageCopy.{PageCopy}
use Rattle.mt_overlay.specs.Overlays.{AreAtHand, AreCopies, shown}
use Rattle.mt_steps.specs.Held.{AreRows}
use Rattle.mt_model.specs.declared.operations.Op.{Op}
use Rattle.mt_model.specs.declared.operations.Op.TheVariants as of
use Rattle.mt_steps.specs.Plans.{CanPlan, HasStood, IsReading}
use Rattle.mt_steps.specs.Asks.{AsksFor, IsForDelete, IsForUpdate}
use Rattle.mt_overlay.proofs.Overlaid.{all_at_hand, none_shown}
use Rattle.mt_steps.proofs.Entering.{first_inside}
use Rattle.mt_steps.proofs.Naming.{needs_place}

-- ---- by its kind

pub kind_inside : (total : ℕ) (pages : PageBytes) (m : Map) (p n : ℕ) → AreMap total pages m → kind pages p ≡ n → n ≢ 0 → p < total
kind_inside total pages m p n a is some = a.within p (λ z. some (sym is ∙ z))

-- the directory, or a page of a bucket
pub bucket_inside : (total : ℕ) (key : List ℕ) (pages : PageBytes) (m : Map) (in_bucket : Mode) (p : ℕ) (mode : Mode) → AreMap total pages m → IsInBucket key in_bucket pages p mode → p < total
bucket_inside total key pages m in_bucket p mode a = ⊎_elim
    (λ d. subst (λ (q : ℕ). q < total) (sym d.0) (kind_inside total pages m 1 1 a a.directory_fixed (omega arith)))
    (λ b. kind_inside total pages m p 2 a b.0 (omega arith))

-- a page of a bucket that was looked for to read is asked for to write
pub looks_to_write : (key : List ℕ) (total : ℕ) (pages : PageBytes) (m : Map) (p : ℕ) (asked : Mode) → AreMap total pages m → (p ≡ 1 → asked ≡ Read) → (p ≢ 1 → asked ≡ Write) → IsInBucket key Read pages p Read → IsInBucket key Write pages p asked
looks_to_write key total pages m p asked a directory others role = ⊎_elim
    (λ d. inl (d.0, directory d.0))
    (λ b. inr (b.0, others (λ one. let here : kind pages p ≡ kind pages 1 = ap (λ (n : ℕ). kind pages n) one in let fixed = a.directory_fixed in let two = b.0 in absurd (omega (arith, here, fixed, two))), b.2))
    role

-- what an add to the index asks for
pub add_inside : (total : ℕ) (split : Bool) (key : List ℕ) (pages : PageBytes) (m : Map) (p : ℕ) (mode : Mode) → AreMap total pages m → IsInAdd split key total pages p mode → p < total
add_inside total split key pages m p mode a role = elim role [
  | inl bucket ↦ bucket_inside total key pages m _ p mode a bucket
  | inr other ↦ elim other.0 [
    | inl space ↦ subst (λ (q : ℕ). q < total) (sym space) (kind_inside total pages m 0 1 a a.space_fixed (omega arith))
    | inr rest ↦ elim rest [
      | inl directory ↦ subst (λ (q : ℕ). q < total) (sym directory.0) (kind_inside total pages m 1 1 a a.directory_fixed (omega arith))
      | inr free ↦ free.1
    ]
  ]
]

-- what a put asks for
pub looked_inside : (room : Option ℕ) (total : ℕ) (pages : PageBytes) (m : Map) (p : ℕ) → AreMap total pages m → IsNamed room pages → IsLooked room total pages p → p < total
looked_inside (Some q) total pages m p a named is = kind_inside total pages m p 3 a (ap (λ (n : ℕ). kind pages n) is ∙ named q refl) (omega arith)
looked_inside None total pages m p a named is = ⊎_elim
    (λ (space : p ≡ 0). subst (λ (q : ℕ). q < total) (sym space) (kind_inside total pages m 0 1 a a.space_fixed (omega arith)))
    (λ first. first_inside total pages p first)
    is

-- ---- what the plans of records ask for

pub put_needs : (at_hand : ℕ → Option (List ℕ)) (room : Option ℕ) (total : ℕ) (pages : PageBytes) (m : Map) (row : Row) (q : ℕ) (answer : Step) → answer ≡ step.Need q → AreMap total pages m → IsNamed room pages
    → IsPut at_hand room total [] pages row answer → (at_hand q ≡ None) × (q < total) × IsLooked room total pages q
put_needs at_hand room total pages m row q answer is a named outcome =
    let t = subst (λ (x : Step). IsPut at_hand room total [] pages row x) is outcome in
    (t.0, looked_inside room total pages m q a named t.1, t.1)

-- the page of the key's record
pub stands_in : (relations total : ℕ) (pages : PageBytes) (m : Map) (n : RecordName) (r : ℕ) (k : List ℕ) (q : ℕ) → AreRows relations total pages m → m r k ≡ Some n → q ≡ n.page → (q < total) × HasStood pages q r k
stands_in relations total pages m n r k q rows is here =
    let named = rows.named.names r k n is in (
      subst (λ (x : ℕ). x < total) (sym here) (kind_inside total pages m n.page 3 rows.index (record_kind pages n.page n.slot _ named.1) (omega arith)),
      (n.slot, named.0, ap (λ (x : ℕ). record_in pages x n.slot) here ∙ named.1),
    )

pub removal_needs : (at_hand : ℕ → Option (List ℕ)) (relations total : ℕ) (pages : PageBytes) (m : Map) (n : RecordName) (r : ℕ) (k v : List ℕ) (q : ℕ) (answer : Step) → answer ≡ step.Need q → AreRows relations total pages m → m r k ≡ Some n
    → record_in pages n.page n.slot ≡ Some (record { relation = r; key = k; value = v }) → IsRemoval at_hand pages n.page n.slot answer → (at_hand q ≡ None) × (q < total) × IsForDelete r k pages q Write
removal_needs at_hand relations total pages m n r k v q answer is rows named stood outcome =
    let t = subst (λ (x : Step). IsRemoval at_hand pages n.page n.slot x) is outcome in
    ⊎_elim {C = (at_hand q ≡ None) × (q < total) × IsForDelete r k pages q Write}
    (λ (here : q ≡ n.page). let own = stands_in relations total pages m n r k q rows named here in (t.0, own.0, inr (refl, inl own.1)))
    (λ space. (
      t.0,
      subst (λ (x : ℕ). x < total) (sym space.0) (kind_inside total pages m 0 1 rows.index rows.index.space_fixed (omega arith)),
      inr (refl, inr (space.0, (n.page, n.slot, v, stood, space.1))),
    ))
    t.1

pub replacement_needs : (at_hand : ℕ → Option (List ℕ)) (room : Option ℕ) (relations total : ℕ) (pages : PageBytes) (m : Map) (n : RecordName) (r : ℕ) (k v w : List ℕ) (q : ℕ) (answer : Step) → answer ≡ step.Need q → AreRows relations total pages m
    → IsNamed room pages → m r k ≡ Some n → record_in pages n.page n.slot ≡ Some (record { relation = r; key = k; value = v })
    → IsReplacement at_hand room total pages n.page n.slot (record { relation = r; key = k; value = v }) (record { relation = r; key = k; value = w }) answer → (at_hand q ≡ None) × (q < total) × IsForUpdate room total r k w pages q Write
replacement_needs at_hand room relations total pages m n r k v w q answer is rows room_named named stood outcome =
    let t = subst (λ (x : Step). IsReplacement at_hand room total pages n.page n.slot (record { relation = r; key = k; value = v }) (record { relation = r; key = k; value = w }) x) is outcome in
    ⊎_elim {C = (at_hand q ≡ None) × (q < total) × IsForUpdate room total r k w pages q Write}
    (λ (here : q ≡ n.page). let own = stands_in relations total pages m n r k q rows named here in (t.0, own.0, inl (refl, own.1)))
    (λ away. (
      t.0,
      looked_inside room total pages m q rows.index room_named away.1,
      inr (needs_place pages m n r k v w rows.named named stood away.0, inl (refl, away.1)),
    ))
    t.1

-- ---- what the plans of the index ask for

pub add_needs : (P : ℕ → Mode → Type 0) (a : Add) (p : ℕ) (mode : Mode) → a ≡ add.Need p mode → AddNeeds a P → P p mode
add_needs P a p mode is outcome = subst (λ (x : Add). AddNeeds x P) is outcome

pub amend_needs : (P : ℕ → Mode → Type 0) (a : Amend) (p : ℕ) (mode : Mode) → a ≡ amend.Need p mode → AmendNeeds a P → P p mode
amend_needs P a p mode is outcome = subst (λ (x : Amend). AmendNeeds x P) is outcome

-- ---- by what is read

-- an operation that only reads asks to read
pub asks_to_read : (at_hand : ℕ → Option (List ℕ)) (room : Option ℕ) (total : ℕ) (split : Bool) (op : Op) (p : ℕ) (mode : Mode) → CanPlan at_hand room total op → IsReading op
    → AsksFor at_hand room total split op p mode → mode ≡ Read
asks_to_read at_hand room total split op p mode can reads asks =
    ∥∥₁_elim can (hlevel props) (λ (relations, counters, has, within, few). on_map op has.0 has.1 has.2.meaning has.2.rows.index reads asks)
  where
    in_bucket : (k : List ℕ) (pages : PageBytes) → IsInBucket k Read pages p mode → mode ≡ Read
    in_bucket k pages role = ⊎_elim (λ directory. directory.1) (λ bucket. bucket.1) role

    on_map : (op : Op) (pages : PageBytes) → Agrees at_hand pages → (m : Map) → AreMap total pages m → IsReading op → AsksFor at_hand room total split op p mode → mode ≡ Read
    on_map (of.Get r k) pages agrees m map reads asks = ⊎_elim (λ looks. in_bucket k pages (looks pages agrees m map)) (λ named. named.2) asks
    on_map (of.Scan r) pages agrees m map reads asks = ⊎_elim (λ in_index. (in_index pages agrees m map).1) (λ named. named.1) asks
    on_map (of.Read c) pages agrees m map reads asks = asks.1
    on_map (of.Insert r k v) pages agrees m map reads asks = absurd reads
    on_map (of.Update r k v) pages agrees m map reads asks = absurd reads
    on_map (of.Delete r k) pages agrees m map reads asks = absurd reads
    on_map (of.Add c d) pages agrees m map reads asks = absurd reads

-- ---- all changes at hand

-- over copies of pages at hand, too
pub shown_at_hand : (copies : List PageCopy) (at_hand : ℕ → Option (List ℕ)) (cs : List PageChange) → AreCopies at_hand copies → AreSeen (shown copies at_hand) cs → AreAtHand at_hand cs
shown_at_hand copies at_hand cs sound seen = all_at_hand at_hand cs (λ p none. seen p (none_shown at_hand copies p sound none ∙ none))

-- those of a plan of a record
pub step_at_hand : (at_hand : ℕ → Option (List ℕ)) (answer : Step) (plan : Plan) → answer ≡ step.Done plan → IsSeen at_hand [] answer → AreAtHand at_hand plan.changes.list.items
step_at_hand at_hand answer plan is seen = let outcome = subst (λ (x : Step). IsSeen at_hand [] x) is seen in all_at_hand at_hand plan.changes.list.items (λ p none. outcome p none tt)

-- ---- few of them

pub few_more : (n a b x y z : ℕ) → n ≤ a + b → a ≤ x → b ≤ y → x + y ≤ z → n ≤ z
few_more n a b x y z few one two all = omega (arith, few, one, two, all)
