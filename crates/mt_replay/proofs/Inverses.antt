-- One inverse on pages in memory, and one behind others.
use mathlib.Core.Logic.{∥∥₁_elim, ∥∥₁_map}
use Rattle.std.proofs.Props.{props}
use Rattle.std.proofs.Common.{◌≡◌, ◌⊎◌, inl, inr, ⊎_elim, ℕ, ℤ, zero, suc, ◌<◌, ◌≤◌, false, List, [], ◌∷◌, ◌++◌, Option, Some, None, neg_ℤ, length, take, drop, get_or, refl, sym, ap, ◌∙◌, subst, arith}
use Rattle.std.specs.List.{AllByRecursion}
use Rattle.std.proofs.lemmas.Int.{ints}
use Rattle.std.proofs.lemmas.List.{length-append}
use Rattle.std.proofs.lemmas.Option.{slice_get-get_or}
use Rattle.mt_base.specs.Limits.{IsStep}
use Rattle.mt_frame.specs.Grammar.{IsOperation}
use Rattle.mt_frame.specs.declared.records.LoggedOp.{LoggedOp}
use Rattle.mt_frame.specs.declared.records.LoggedOp.TheVariants as logged
use Rattle.mt_file.specs.Plans.{IsNamed}
use Rattle.mt_file.proofs.Shaped.{shaped_of}
use Rattle.mt_inverse.specs.Steps.{IsWithinSteps}
use Rattle.mt_model.specs.Model.{IsWithin, inverse_of}
use Rattle.mt_slots.specs.Page.{IsShaped}
use Rattle.mt_space.specs.Changes.{PageBytes}
use Rattle.mt_space.specs.Kinds.{kind}
use Rattle.mt_model.specs.declared.operations.Op.{Op}
use Rattle.mt_model.specs.declared.operations.Reply.{Reply}
use Rattle.mt_space.specs.Changes.{after}
use Rattle.mt_space.specs.declared.changes.PageChange.{PageChange}
use Rattle.mt_counters.specs.Counters.{AreCounters}
use Rattle.mt_overlay.specs.Overlays.{AreAtHand}
use Rattle.mt_counters.specs.declared.counters.SchemaSizes.{SchemaSizes}
use Rattle.mt_steps.specs.Plans.{IsGood, HasPages, InPages, IsPlanned, IsTight, TakesPages, free_pages, own_needs, record_bytes}
use Rattle.mt_page_rules.proofs.Checked.{at_any}
use Rattle.mt_replay.proofs.Making.{first_agrees, inside_all, same_but_both}
use Rattle.std.specs.Prelude.{slice_get}
use Rattle.mt_replay.specs.Losers.{HasUndone}
use Rattle.mt_replay.specs.declared.losers.Loser.{Loser}
use Rattle.mt_replay.specs.Memory.{AreFirst, AreGood}
use Rattle.mt_replay.specs.Recoverable.{IsOf}
use Rattle.mt_replay.specs.Recorded.{op_of, reply_in, undo_of, reply_back}
use Rattle.mt_replay.specs.Undoing.{IsRoom, IsUndoing, Misses, Undoes, UndoesOne}

-- ---- good pages in memory

-- what is read of a page in memory is its bytes
pub read_is : (items : List (List ℕ)) (f : PageBytes) (p : ℕ) (page : List ℕ) → AreFirst items f → p < length items → page ≡ get_or items p page → page ≡ f p
read_is items f p page first lt is = is ∙ at_any items p page [] lt ∙ first p lt

pub two_inside : (relations counters total : ℕ) (f : PageBytes) → IsGood relations counters total f → 2 < total
two_inside relations counters total f good = good.rows.index.within 2 (λ free. let fixed = (good.rows.map 2).fixed (omega arith) in absurd (omega (arith, free, fixed)))

pub three_pages : (items : List (List ℕ)) → AreGood items → 2 < length items
three_pages items good = ∥∥₁_elim good (hlevel props) (λ (f, relations, counters, first, fine, few). two_inside relations counters (length items) f fine)

-- none is asked for
pub all_there : (items : List (List ℕ)) (p : ℕ) → (slice_get items p ≡ None) × (p < length items) → ⊥
all_there items p e = let there = slice_get-get_or items p [] e.1 in let none = e.0 in cc

-- the relations are as many as page 2 says
reported_is : (items : List (List ℕ)) (relations counters : ℕ) (f : PageBytes) → AreFirst items f → IsGood relations counters (length items) f → get_or (get_or items 2 []) 0 0 ≡ relations
reported_is items relations counters f first good = ap (λ (page : List ℕ). get_or page 0 0) (first 2 (two_inside relations counters (length items) f good)) ∙ good.counts.relations_reported

pub few_relations : (items : List (List ℕ)) (relations counters : ℕ) (f : PageBytes) → AreGood items → AreFirst items f → IsGood relations counters (length items) f → relations ≤ 64
few_relations items relations counters f some first good = ∥∥₁_elim some (hlevel props) (λ (g, others, more, same, fine, few).
    omega (arith, few, reported_is items relations counters f first good, reported_is items others more g same fine))

pub shaped_in : (items : List (List ℕ)) (map page : List ℕ) (p : ℕ) → AreGood items → p < length items → map ≡ get_or items 0 map → page ≡ get_or items p page → get_or map p 0 ≡ 3 → IsShaped page
shaped_in items map page p some lt is_map is_page records = shaped_of page (∥∥₁_map some (λ (f, relations, counters, first, good, few).
    subst IsShaped (sym (read_is items f p page first lt is_page))
    (good.rows.file.each p (ap (λ (bytes : List ℕ). get_or bytes p 0) (sym (read_is items f 0 map first (omega (arith, lt)) is_map)) ∙ records))))

-- ---- what an inverse asks

step_back : (d : ℤ) → IsStep d → IsStep (neg_ℤ d)
step_back d (inl up) = inr (omega (arith, ints, up.1), omega (arith, ints, up.0))
step_back d (inr down) = inl (omega (arith, ints, down.1), omega (arith, ints, down.0))

pub undo_within : (relations counters : ℕ) (d : LoggedOp) → IsOperation d → IsOf relations counters d → IsWithin relations counters (undo_of d)
undo_within relations counters (logged.Insert r k v) fine of = (of, fine.1)
undo_within relations counters (logged.Update r k v old) fine of = (of, fine.1, fine.3)
undo_within relations counters (logged.Delete r k old) fine of = (of, fine.1, fine.2)
undo_within relations counters (logged.Add c s) fine of = (of, step_back s fine.1)

undo_same : (d : LoggedOp) → inverse_of (op_of d) (reply_in d) ≡ Some (undo_of d)
undo_same (logged.Insert r k v) = refl
undo_same (logged.Update r k v old) = refl
undo_same (logged.Delete r k old) = refl
undo_same (logged.Add c s) = refl

some_same : (a b : Op) → Some a ≡ Some b → a ≡ b
some_same a b is = cc

-- the inverse of the effect that is logged
pub inverse_is : (d : LoggedOp) (op : Op) (reply : Reply) (i : Op) → op ≡ op_of d → reply ≡ reply_in d → inverse_of op reply ≡ Some i → i ≡ undo_of d
inverse_is d op reply i is says inverse = some_same i (undo_of d) (sym inverse ∙ (λ j. inverse_of (is j) (says j)) ∙ undo_same d)

pub steps_within : (d : LoggedOp) → IsOperation d → IsWithinSteps (op_of d)
steps_within (logged.Insert r k v) fine = tt
steps_within (logged.Update r k v old) fine = tt
steps_within (logged.Delete r k old) fine = tt
steps_within (logged.Add c s) fine = fine.1

pub undo_short : (d : LoggedOp) → IsOperation d → record_bytes (undo_of d) ≤ 4096
undo_short (logged.Insert r k v) fine = omega arith
undo_short (logged.Update r k v old) fine = let key = fine.1.1 in let value = fine.3 in omega arith
undo_short (logged.Delete r k old) fine = let key = fine.1.1 in let value = fine.2 in omega arith
undo_short (logged.Add c s) fine = omega arith

-- the page for its record holds records, and takes it
pub room_named : (total bytes : ℕ) (pages : PageBytes) (room : Option ℕ) → IsRoom total bytes pages room → IsNamed room pages
room_named total bytes pages None is p named = absurd cc
room_named total bytes pages (Some q) is p named = let same : q ≡ p = cc in subst (λ (x : ℕ). kind pages x ≡ 3) same is.records

pub room_takes : (total bytes : ℕ) (pages : PageBytes) (room : Option ℕ) → IsRoom total bytes pages room → IsTight room pages bytes → ⊥
room_takes total bytes pages None is tight = let e = tight.1 in cc
room_takes total bytes pages (Some q) is tight = let same : q ≡ tight.0 = let e = tight.1 in cc in let low = tight.2 in let high = is.fits in let moved = ap (λ (x : ℕ). Rattle.mt_file.specs.Rooms.fits_of (pages x)) same in omega (arith, low, high, moved)

-- ---- a plan of an inverse

-- the pages that the plan asks for: all of them are at hand
module _ (items : List (List ℕ)) (d : LoggedOp) (good : AreGood items) (fine : IsOperation d) (room : Option ℕ)
    (roomy : (f : PageBytes) → AreFirst items f → IsRoom (length items) (record_bytes (undo_of d)) f room) where
  abbrev hand : ℕ → Option (List ℕ)
  hand p = slice_get items p

  -- a schema of which the relation or counter is
  abbrev IsOfAll : Type 0
  IsOfAll = (relations counters : ℕ) (f : PageBytes) → AreFirst items f → IsGood relations counters (length items) f → IsOf relations counters d

  pub plan_good : IsOfAll → (op : Op) → op ≡ undo_of d → ∥ ((relations : ℕ) × (counters : ℕ) × HasPages hand room relations counters (length items) × IsWithin relations counters op × (relations ≤ 64)) ∥₁
  plan_good of op is = ∥∥₁_map good (λ (f, relations, counters, first, g, few). (
    relations,
    counters,
    (f, first_agrees items f first, g, room_named (length items) (record_bytes (undo_of d)) f room (roomy f first)),
    subst (IsWithin relations counters) (sym is) (undo_within relations counters d fine (of relations counters f first g)),
    few,
  ))

  -- what a plan promises of good pages in memory
  pub in_memory : (P : ℕ → ℕ → PageBytes → Op → Type 0) → IsOfAll → (op : Op) → op ≡ undo_of d
      → ((relations counters : ℕ) → relations ≤ 64 → IsWithin relations counters op → InPages hand room relations counters (length items) (λ pages. P relations counters pages op))
      → (relations counters : ℕ) (f : PageBytes) → AreFirst items f → IsGood relations counters (length items) f → P relations counters f (undo_of d)
  in_memory P of op is promised relations counters f first g =
      subst (P relations counters f) is
      (promised relations counters (few_relations items relations counters f good first g) (subst (IsWithin relations counters) (sym is) (undo_within relations counters d fine (of relations counters f first g)))
      f (first_agrees items f first) g (room_named (length items) (record_bytes (undo_of d)) f room (roomy f first)))

  pub undoing_made : IsOfAll → (op : Op) (changes : List PageChange) (reply : Reply) → op ≡ undo_of d → reply ≡ reply_back d → AreAtHand hand changes → length changes ≤ 8
      → ((relations counters : ℕ) → relations ≤ 64 → IsWithin relations counters op → InPages hand room relations counters (length items) (λ pages. IsPlanned relations counters (length items) hand pages changes op false reply))
      → ((relations counters : ℕ) → relations ≤ 64 → IsWithin relations counters op → InPages hand room relations counters (length items) (λ pages. TakesPages room op pages (after changes pages)))
      → IsUndoing items d changes
  undoing_made of op changes reply is said there few made takes =
      let planned = in_memory (λ relations counters pages o. IsPlanned relations counters (length items) hand pages changes o false reply) of op is made in
      let taken = in_memory (λ relations counters pages o. TakesPages room o pages (after changes pages)) of op is takes in
      record {
        inside = inside_all items changes there;
        few = few;
        short = λ relations counters f first g. (planned relations counters f first g).short;
        undoes = λ relations counters f first g.
            let p = planned relations counters f first g in
            record {
              replies = λ b holds. p.replies b holds ∙ said;
              base = p.base;
              good = p.good;
              free = p.takes;
              room = room;
              is_room = roomy f first;
              takes = taken relations counters f first g;
              directory = p.directory refl;
              empties = p.empties;
            };
      }

  pub missed_reply : IsOfAll → (op : Op) (changes : List PageChange) (reply : Reply) → op ≡ undo_of d → (reply ≡ reply_back d → ⊥)
      → ((relations counters : ℕ) → relations ≤ 64 → IsWithin relations counters op → InPages hand room relations counters (length items) (λ pages. IsPlanned relations counters (length items) hand pages changes op false reply))
      → Misses items d
  missed_reply of op changes reply is other made relations counters f first g b finds =
      let p = in_memory (λ r c pages o. IsPlanned r c (length items) hand pages changes o false reply) of op is made relations counters f first g in
      other (sym (p.replies b finds.holds) ∙ finds.reply)

  pub missed_full : IsOfAll → (op : Op) → op ≡ undo_of d
      → ((relations counters : ℕ) → relations ≤ 64 → IsWithin relations counters op → InPages hand room relations counters (length items) (λ pages. (free_pages (length items) pages < own_needs op false) ⊎ IsTight room pages (record_bytes op)))
      → Misses items d
  missed_full of op is full relations counters f first g b finds = ⊎_elim
      (λ (few : free_pages (length items) f < own_needs (undo_of d) false). let enough = finds.free in omega (arith, few, enough))
      (λ (tight : IsTight room f (record_bytes (undo_of d))). room_takes (length items) (record_bytes (undo_of d)) f room (roomy f first) tight)
      (in_memory (λ r c pages o. (free_pages (length items) pages < own_needs o false) ⊎ IsTight room pages (record_bytes o)) of op is full relations counters f first g)

-- what page 2 says is the schema
module _ (items : List (List ℕ)) (page : List ℕ) (outcome : SchemaSizes) (is_page : page ≡ get_or items 2 page)
    (schema : (relations counters : ℕ) → AreCounters relations counters page → (outcome.relations ≡ relations) × (outcome.counters ≡ counters)) where
  reported_schema : (relations counters : ℕ) (f : PageBytes) → AreFirst items f → IsGood relations counters (length items) f → (outcome.relations ≡ relations) × (outcome.counters ≡ counters)
  reported_schema relations counters f first g =
      schema relations counters (subst (AreCounters relations counters) (sym (read_is items f 2 page first (two_inside relations counters (length items) f g) is_page)) g.counts)

  pub of_all : (d : LoggedOp) → IsOf outcome.relations outcome.counters d → (relations counters : ℕ) (f : PageBytes) → AreFirst items f → IsGood relations counters (length items) f → IsOf relations counters d
  of_all d of relations counters f first g =
      let e = reported_schema relations counters f first g in
      subst (λ (c : ℕ). IsOf relations c d) e.1 (subst (λ (r : ℕ). IsOf r outcome.counters d) e.0 of)

  pub missed_schema : (d : LoggedOp) → (IsOf outcome.relations outcome.counters d → ⊥) → Misses items d
  missed_schema d other relations counters f first g b finds =
      let e = reported_schema relations counters f first g in
      other (subst (λ (c : ℕ). IsOf outcome.relations c d) (sym e.1) (subst (λ (r : ℕ). IsOf r counters d) (sym e.0) finds.within))

-- ---- one behind others

pub split_at : (xs : List Loser) (i : ℕ) (x : Loser) → i < length xs → x ≡ get_or xs i x → xs ≡ take i xs ++ x ∷ drop (suc i) xs
split_at [] i x lt is = absurd (omega arith)
split_at (y ∷ ys) zero x lt is = ap (λ (z : Loser). z ∷ ys) (sym is)
split_at (y ∷ ys) (suc i) x lt is = ap (λ (zs : List Loser). y ∷ zs) (split_at ys i x (omega arith) is)

pub each_loser : (P : Loser → Type 0) (xs : List Loser) (i : ℕ) (x : Loser) → i < length xs → x ≡ get_or xs i x → AllByRecursion P xs → P x
each_loser P [] i x lt is all = absurd (omega arith)
each_loser P (y ∷ ys) zero x lt is all = subst P (sym is) all.0
each_loser P (y ∷ ys) (suc i) x lt is all = each_loser P ys i x (omega arith) is all.1

pub undone_none : (pages : List (List ℕ)) → HasUndone pages [] pages
undone_none pages = record { count = refl; few = record { changed = []; few = omega arith; others = λ p all. refl }; undone = λ relations counters f first good. (f, first, good, refl) }

pub undone_then : (old mid new : List (List ℕ)) (l : Loser) (behind : List Loser) → HasUndone old behind mid → Undoes mid l.done new → HasUndone old (l ∷ behind) new
undone_then old mid new l behind h step = record {
  count = step.count ∙ h.count;
  few = record {
    changed = h.few.changed ++ step.few.changed;
    few = let size = length-append h.few.changed step.few.changed in let before = h.few.few in let one = step.few.few in omega arith;
    others = same_but_both h.few.changed step.few.changed old mid new h.few.others step.few.others;
  };
  undone = λ relations counters f first good.
      let m = h.undone relations counters f first good in
      let u = step.undone relations counters m.0 m.1 (subst (λ (n : ℕ). IsGood relations counters n m.0) (sym h.count) m.2) in
      let one : UndoesOne relations counters (length old) m.0 l.done u.0 = subst (λ (n : ℕ). UndoesOne relations counters n m.0 l.done u.0) h.count u.2 in
      (u.0, u.1, one.good, (m.0, m.3, one));
}
