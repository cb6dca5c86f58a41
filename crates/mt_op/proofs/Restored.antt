-- Taking back, of all operations together and the one that is taken back: which page is put back, and what each step does.
use Rattle.std.proofs.Props.{props}
use Rattle.mt_base.specs.declared.limits.TheConstants.{BATCH_HEAD_BYTES, LARGEST_OP_END}
use mathlib.Core.Logic.{∥∥₁_elim}
use Rattle.std.proofs.Common.{◌≡◌, ◌≢◌, ◌⊎◌, inl, inr, ℕ, ◌+◌, ◌-◌, ◌<◌, ◌≤◌, true, false, List, [], ◌∷◌, Contains, length, get_or, take, refl, sym, ap, ◌∙◌, subst, arith, append-nil, length-take}
use Rattle.std.specs.Prelude.{IsSome, ◌==◌}
use Rattle.std.proofs.lemmas.Bool.{cases_eq, cases_Bool, ne_eqb}
use Rattle.std.proofs.lemmas.List.{get_or-take}
use Rattle.std.proofs.lemmas.List.Elements.{All-get_or}
use Rattle.mt_disk.specs.declared.device.Device.{Ghosts}
use Rattle.mt_frame.specs.declared.records.Record.{Record}
use Rattle.mt_frame.specs.declared.records.Record.TheVariants.{OpDropped}
use Rattle.mt_frame.specs.Grammar.{IsTxn}
use Rattle.mt_area_rules.specs.History.{some_record, is_of_page, may_stand}
use Rattle.mt_log.specs.Words.{appended}
use Rattle.mt_space.specs.Changes.{PageBytes}
use Rattle.mt_pool.specs.Kept.{IsKept}
use Rattle.mt_pool.specs.Views.{pages, waits_for}
use Rattle.mt_space.specs.declared.changes.PageChange.{PageChange}
use Rattle.mt_pool.specs.Writes.{IsUnfinished}
use Rattle.mt_pool.specs.declared.store.Store.{Store}
use Rattle.mt_op.specs.World.{World, looked, changes_in, HasNothing, IsPlanning, IsWriting, IsTaking, IsAt, IsUnderWay}
use Rattle.mt_op.specs.Moves.{SameOp, SamePlan, Notes, PutsBack, Leaves}
use Rattle.mt_op.specs.Operations.{world, IsRight, IsOneOf, Goes, HasBudget, needs, end_bytes, only_reads}
use Rattle.mt_op.specs.declared.operations.Operations.{Operations}
use Rattle.mt_op.specs.declared.scope.OpScope.{OpScope}
use Rattle.mt_op.specs.declared.scope.Stage.{Stage}
use Rattle.mt_op.specs.declared.scope.Stage.TheVariants.{Planning, Writing, Taking, Cleared}
use Rattle.mt_op.proofs.Right.{right_held}
use Rattle.mt_op.proofs.Leaving.{world_leaves, leaves_held}
use Rattle.mt_op.proofs.Planned.{HasChanged, has_changed}
use Rattle.mt_op.proofs.Recorded.{has_record}
use Rattle.mt_op.proofs.Taking.{clears_at_once, own_clears_at_once, puts_back, puts_back_held, others_put_back, own_puts_back, clears, clears_held, others_clear, own_clears}

-- it stands among the first so many
among : (cs : List PageChange) (n i : ℕ) (c : PageChange) → i < n → i < length cs → c ≡ get_or cs i c → Contains (take n cs) c
among cs n i c below inside is = (i, (let taken = length-take n cs in omega arith), get_or-take n cs i c below ∙ sym is)

module _ (relations counters : ℕ) where
  -- it has written pages that still stand
  pub some_stand : (w : World) (s : OpScope) → IsUnderWay relations counters w s → (s.stage ≡ Planning) ⊎ ((s.stage ≡ Writing) ⊎ (s.stage ≡ Taking)) → s.standing ≢ 0 → (s.stage ≡ Writing) ⊎ (s.stage ≡ Taking)
  some_stand w s k (inl planning) some = let was : IsPlanning w s = subst (IsAt relations counters w s) planning k.at in absurd (some was.none_standing)
  some_stand w s k (inr stage) some = stage

-- ---- log bytes

-- where a change stands it does not only read, so its end's bytes are kept
pub enough_left : (s : OpScope) → HasBudget s → (s.stage ≡ Writing) ⊎ (s.stage ≡ Taking) → 0 < length (changes_in s) → 22 ≤ s.left
enough_left s b (inl writing) some = elim (cases_Bool (only_reads s.op)) [
  | inl reads ↦ absurd (let none = ap length (b.reads reads) in omega arith)
  | inr writes ↦ let e : needs s Writing ≤ s.left = subst (λ (stage : Stage). needs s stage ≤ s.left) writing b.enough in let full : end_bytes s ≡ BATCH_HEAD_BYTES + LARGEST_OP_END = rw writes refl in omega arith
]
enough_left s b (inr taking) some = subst (λ (stage : Stage). needs s stage ≤ s.left) taking b.enough

-- and where some still stand
pub left_to_drop : (relations counters : ℕ) (w : World) (s : OpScope) → IsUnderWay relations counters w s → (s.stage ≡ Writing) ⊎ (s.stage ≡ Taking) → 0 < s.standing → HasBudget s → 22 ≤ s.left
left_to_drop relations counters w s k stage some budget =
    let at : HasChanged relations counters w s = has_changed relations counters w s k stage in
    enough_left s budget stage (let all = at.some in let fewer = at.fewer_stand in omega arith)

pub kept_to_drop : (relations counters : ℕ) (w : World) (s : OpScope) → IsUnderWay relations counters w s → (s.stage ≡ Writing) ⊎ (s.stage ≡ Taking) → s.standing ≡ 1 → HasBudget s → 22 ≤ s.left
kept_to_drop relations counters w s k stage last budget = left_to_drop relations counters w s k stage (omega arith) budget

-- ---- worlds

-- a record more, and then a page put back
pub notes_back : (w m z : World) (s : OpScope) (c : PageChange) (r : Record) → Notes w m r → PutsBack m z s c [] → PutsBack w z s c (r ∷ [])
notes_back w m z s c r noted back = record {
  area = record { opening = back.area.opening ∙ noted.area.opening; total = back.area.total ∙ noted.area.total };
  others = λ p inside other. back.others p (subst (λ (n : ℕ). p < n) (sym noted.area.total) inside) other ∙ noted.pages p inside;
  page = back.page;
  records = back.records ∙ append-nil m.records ∙ noted.records;
  locks = back.locks ∙ noted.locks;
}

-- ---- all operations together

-- the page can be put back: the operation looked at it, and it has a record that it waits for
pub record IsReturnable {D : Type 0} (o : Operations D) (s : OpScope) (p : ℕ) : Type 0 where
  pub some : IsSome (looked s p)
  pub inside : p < pages o.store.pool
  pub logged : 0 < waits_for o.store.pool p

-- the last of the pages that still stand can
pub returnable : {D : Type 0} (g : Ghosts D) (opening : PageBytes) (relations counters : ℕ) (o : Operations D) (s : OpScope) (c : PageChange) → IsRight g opening relations counters o
    → IsUnderWay relations counters (world g opening o) s → (s.stage ≡ Writing) ⊎ (s.stage ≡ Taking) → 0 < s.standing → c ≡ get_or (changes_in s) (s.standing - 1) c → IsReturnable o s c.page
returnable g opening relations counters o s c right k stage one is = record {
  some = some;
  inside = k.inside c.page some;
  logged = elim (cases_eq (waits_for o.store.pool c.page) 0) [
    | inl none ↦ absurd (let e = right.kept.unnamed c.page (k.inside c.page some) none in let f = recorded in cc)
    | inr waits ↦ omega arith
  ];
}
  where
    w : World
    w = world g opening o

    at : HasChanged relations counters w s
    at = has_changed relations counters w s k stage

    below : s.standing - 1 < s.written
    below = let fewer = at.fewer_stand in omega arith

    place : s.standing - 1 < length (changes_in s)
    place = let all = at.some in let lt = below in omega arith

    some : IsSome (looked s c.page)
    some = subst (λ (d : PageChange). IsSome (looked s d.page)) (sym is) (All-get_or (λ (d : PageChange). IsSome (looked s d.page)) (changes_in s) (s.standing - 1) c place at.plan.there)

    recorded : some_record (is_of_page c.page) w.records ≡ true
    recorded = has_record relations counters w s right.sound k stage c (among (changes_in s) s.written (s.standing - 1) c below place is)

-- what is known of one with pages that stand
pub record HasStanding {D : Type 0} (o : Operations D) (s : OpScope) : Type 0 where
  pub unfinished : IsUnfinished s.txn s.number (appended o.store.log)
  pub place : s.standing - 1 < length (changes_in s)

pub standing_one : {D : Type 0} (g : Ghosts D) (o : Operations D) (s : OpScope) → IsOneOf g o s → (s.stage ≡ Writing) ⊎ (s.stage ≡ Taking) → 0 < s.standing → HasStanding o s
standing_one g o s one stage stands = ∥∥₁_elim one (hlevel props) (λ (opening, relations, counters, right, k).
    let at : HasChanged relations counters (world g opening o) s = has_changed relations counters (world g opening o) s k stage in
    record { unfinished = at.unended.unfinished; place = let some = at.some in let fewer = at.fewer_stand in omega arith })

-- the record of its taking back may stand in the log
pub drop_stands : (records : List Record) (txn op : ℕ) → IsTxn txn → IsUnfinished txn op records → may_stand false records (OpDropped txn op) ≡ true
drop_stands records txn op is u =
    let named : (txn == 0) ≡ false = ne_eqb txn 0 (λ e. let some = is.0 in omega arith) in
    rw (named, u.transaction) refl

pub returnable_one : {D : Type 0} (g : Ghosts D) (o : Operations D) (s : OpScope) (c : PageChange) → IsOneOf g o s
    → (s.stage ≡ Writing) ⊎ (s.stage ≡ Taking) → 0 < s.standing → c ≡ get_or (changes_in s) (s.standing - 1) c → IsReturnable o s c.page
returnable_one g o s c one stage some is = ∥∥₁_elim one (hlevel props) (λ (opening, relations, counters, right, k). returnable g opening relations counters o s c right k stage some is)

module _ {D : Type 0} (g : Ghosts D) (opening : PageBytes) (relations counters : ℕ) (o n : Operations D) (s : OpScope) (c : PageChange)
    (right : IsRight g opening relations counters o) (k : IsUnderWay relations counters (world g opening o) s) (stage : (s.stage ≡ Writing) ⊎ (s.stage ≡ Taking))
    (is : c ≡ get_or (changes_in s) (s.standing - 1) c) (kept : IsKept g opening n.store) (map : n.map ≡ o.map) (rooms : n.rooms ≡ o.rooms) where
  -- a page is put back that is not the last
  pub back_goes : (t : OpScope) → PutsBack (world g opening o) (world g opening n) s c [] → 1 < s.standing → SamePlan s t → t.stage ≡ Taking → t.written ≡ s.written → t.standing + 1 ≡ s.standing
      → IsRight g opening relations counters n × Goes relations counters (world g opening o) (world g opening n) s t
  back_goes t m more plan taking written standing =
      let w = world g opening o in let z = world g opening n in (
        right_held g opening relations counters o n right kept (puts_back relations counters w z s c m right.sound k stage more is) (puts_back_held relations counters w z s c m right.sound k stage more is) map rooms m.area.total,
        record {
          own = own_puts_back relations counters w z s c m right.sound k stage more is t plan taking written standing;
          others = others_put_back relations counters w z s c m right.sound k stage more is;
          held = puts_back_held relations counters w z s c m right.sound k stage more is;
          same = plan.op;
        },
      )

  -- the last one is
  pub last_goes : (t : OpScope) → PutsBack (world g opening o) (world g opening n) s c (OpDropped s.txn s.number ∷ []) → s.standing ≡ 1 → SamePlan s t → t.stage ≡ Cleared
      → IsRight g opening relations counters n × Goes relations counters (world g opening o) (world g opening n) s t
  last_goes t m last plan cleared =
      let w = world g opening o in let z = world g opening n in (
        right_held g opening relations counters o n right kept (clears relations counters w z s c m right.sound k stage last is) (clears_held relations counters w z s c m right.sound k stage last is) map rooms m.area.total,
        record {
          own = own_clears relations counters w z s c m right.sound k stage last is t plan.op plan.guards plan.seen cleared;
          others = others_clear relations counters w z s c m right.sound k stage last is;
          held = clears_held relations counters w z s c m right.sound k stage last is;
          same = plan.op;
        },
      )

-- its locks go that has nothing unfinished
pub leaves_right : {D : Type 0} (g : Ghosts D) (opening : PageBytes) (relations counters : ℕ) (o n : Operations D) (s : OpScope) → IsRight g opening relations counters o
    → HasNothing (world g opening o) s → Leaves (world g opening o) (world g opening n) s → n.store ≡ o.store → n.map ≡ o.map → n.rooms ≡ o.rooms → IsRight g opening relations counters n
leaves_right {D = D} g opening relations counters o n s right nothing m store map rooms =
    let w = world g opening o in let z = world g opening n in
    right_held g opening relations counters o n right (subst (λ (x : Store D). IsKept g opening x) (sym store) right.kept)
    (world_leaves relations counters w z s m right.sound nothing) (leaves_held w z s m) map rooms m.area.total

module _ (relations counters : ℕ) (w : World) (s : OpScope) (k : IsUnderWay relations counters w s) (stage : (s.stage ≡ Planning) ⊎ ((s.stage ≡ Writing) ⊎ (s.stage ≡ Taking))) where
  -- no more stand than an operation changes
  pub few_stand : s.standing ≤ 8
  few_stand = elim stage [
    | inl planning ↦ let at : IsPlanning w s = subst (IsAt relations counters w s) planning k.at in let none = at.none_standing in omega arith
    | inr now ↦ let at : HasChanged relations counters w s = has_changed relations counters w s k now in let all = at.some in let fewer = at.fewer_stand in let few = at.plan.few in omega arith
  ]

  -- it has logged nothing that stands
  nothing_stands : s.standing ≡ 0 → HasNothing w s
  nothing_stands none = elim stage [
    | inl planning ↦ clears_at_once relations counters w s k (inl planning)
    | inr now ↦ unwritten now
  ]
    where
      unwritten : (s.stage ≡ Writing) ⊎ (s.stage ≡ Taking) → HasNothing w s
      unwritten (inl writing) =
          let at : IsWriting relations counters w s = subst (IsAt relations counters w s) writing k.at in
          clears_at_once relations counters w s k (inr (writing, sym at.all_stand ∙ none))
      unwritten (inr taking) =
          let at : IsTaking relations counters w s = subst (IsAt relations counters w s) taking k.at in
          absurd (let one = at.one_stands in omega arith)

  -- so nothing is to be put back
  pub clears_goes : s.standing ≡ 0 → Goes relations counters w w s (record s { stage = Cleared })
  clears_goes none =
      let op : SameOp s (record s { stage = Cleared }) = record { txn = refl; number = refl; op = refl; undoes = refl; split = refl; total = refl } in
      record {
        own = own_clears_at_once relations counters w s k (record s { stage = Cleared }) (nothing_stands none) op refl refl refl;
        others = λ u ku other. ku;
        held = refl;
        same = op;
      }
