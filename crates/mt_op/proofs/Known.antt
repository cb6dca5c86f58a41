-- What is known of an operation under way, whatever the pages were when the area began and whatever the schema.
use Rattle.std.proofs.Common.{◌<◌, ◌≤◌, ◌≡◌, ◌≢◌, ◌⊎◌, ◌∙◌, inl, inr, refl, ap, subst, sym, arith, ℕ, List, length, Option, None, Some}
use Rattle.std.specs.Prelude.{IsSome}
use Rattle.std.proofs.Math.ListN.{get_or}
use Rattle.std.proofs.lemmas.Bool.{cases_eq}
use Rattle.std.proofs.lemmas.List.Elements.{All-get_or, All-contains}
use Rattle.std.proofs.Props.{props}
use mathlib.Core.Logic.{∥∥₁_elim, ∥∥₁_map}
use Rattle.mt_disk.specs.declared.device.Device.{Ghosts}
use Rattle.mt_frame.specs.Grammar.{IsTxn, IsOp}
use Rattle.mt_file.specs.Rooms.{AreRooms, Takes}
use Rattle.mt_log.specs.Words.{appended}
use Rattle.mt_model.specs.Model.{IsWithin}
use Rattle.mt_model.specs.declared.operations.Op.{Op}
use Rattle.mt_model.specs.declared.operations.Op.TheVariants.{Get, Insert, Update, Delete, Add, Read, Scan}
use Rattle.mt_plock.specs.declared.guards.PageLock.{PageLock}
use Rattle.mt_plock.specs.Releasing.{locks_of}
use Rattle.mt_pool.specs.Kept.{HasOpening}
use Rattle.mt_pool.specs.Views.{pages}
use Rattle.mt_pool.specs.Writes.{IsUnfinished}
use Rattle.mt_pool.proofs.Steady.{IsSteady, Steady-prop, steady}
use Rattle.mt_space.specs.Changes.{PageBytes}
use Rattle.mt_space.specs.Kinds.{kind}
use Rattle.mt_space.specs.declared.changes.PageChange.{PageChange}
use Rattle.mt_steps.specs.Plans.{record_bytes}
use Rattle.mt_overlay.proofs.Overlaid.{some_is}
use Rattle.mt_op.specs.World.{World, looked, held_in, changes_in, IsAt, IsWriting, IsUnderWay}
use Rattle.mt_op.specs.Holds.{IsUnlocked}
use Rattle.mt_op.specs.Moves.{Rests}
use Rattle.mt_op.specs.Operations.{world, IsRight, IsOneOf, IsOneWithin}
use Rattle.mt_op.specs.declared.operations.Operations.{Operations}
use Rattle.mt_op.specs.declared.scope.OpScope.{OpScope}
use Rattle.mt_op.specs.declared.scope.Stage.TheVariants.{Writing, Taking}
use Rattle.mt_op.proofs.Alone.{guard_of}
use Rattle.mt_op.proofs.Staying.{rests_own}

pub record IsKnown {D : Type 0} (g : Ghosts D) (o : Operations D) (s : OpScope) : Type 0 where
  pub kept : HasOpening g o.store
  pub steady : IsSteady g o.store
  pub txn : IsTxn s.txn
  pub op : IsOp s.number
  pub locks : locks_of s.number o.locks ≡ s.guards.items
  pub whole : (p : ℕ) (bytes : List ℕ) → looked s p ≡ Some bytes → length bytes ≡ 4096
  pub total : s.seen.total ≡ pages o.store.pool
  pub inside : (p : ℕ) → IsSome (looked s p) → p < pages o.store.pool
  pub rooms : length o.rooms ≡ pages o.store.pool
  pub unseen : (p : ℕ) → IsUnlocked o.locks p → looked s p ≡ None
  pub records : (bytes p : ℕ) → 0 < bytes → Takes o.rooms bytes p → get_or o.map.kinds.value p 0 ≡ 3
  pub short : record_bytes s.op < 65536

-- a page that nobody has locked was not looked at
unlooked_at : (relations counters : ℕ) (w : World) (s : OpScope) (p : ℕ) → IsUnderWay relations counters w s → IsUnlocked w.locks p → looked s p ≡ None
unlooked_at relations counters w s p k none = go (looked s p) refl
  where
    go : (x : Option (List ℕ)) → looked s p ≡ x → looked s p ≡ None
    go None is = is
    go (Some bytes) is =
        let (l, held, own, here) = guard_of relations counters w s p k (some_is (looked s p) bytes is) in
        absurd (All-contains (λ (x : PageLock). x.page ≢ p) w.locks l none held here)

-- a page that is noted to take a record holds records
noted_records : (fits kinds : List ℕ) (all : PageBytes) (bytes p : ℕ) → AreRooms fits all → kinds ≡ all 0 → 0 < bytes → Takes fits bytes p → get_or kinds p 0 ≡ 3
noted_records fits kinds all bytes p are map some takes = ap (λ (m : List ℕ). get_or m p 0) map ∙ go (cases_eq (kind all p) 3)
  where
    go : (kind all p ≡ 3) ⊎ (kind all p ≢ 3) → kind all p ≡ 3
    go (inl is) = is
    go (inr ne) = let none = are.others p takes.0 ne in let enough = takes.1 in absurd (omega arith)

-- no record is longer than a page
short_record : (relations counters : ℕ) (op : Op) → IsWithin relations counters op → record_bytes op < 65536
short_record relations counters (Get r k) within = omega arith
short_record relations counters (Insert r k v) within = let key = within.1.1 in let value = within.2 in omega arith
short_record relations counters (Update r k v) within = let key = within.1.1 in let value = within.2 in omega arith
short_record relations counters (Delete r k) within = omega arith
short_record relations counters (Add c d) within = omega arith
short_record relations counters (Read c) within = omega arith
short_record relations counters (Scan r) within = omega arith

module _ {D : Type 0} (g : Ghosts D) where
  Known-prop : (o : Operations D) (s : OpScope) → IsProp (IsKnown g o s)
  Known-prop o s = hlevel (props, Steady-prop)

  pub known : (o : Operations D) (s : OpScope) → IsOneOf g o s → IsKnown g o s
  known o s one = ∥∥₁_elim one (Known-prop o s) (λ (opening, relations, counters, right, k).
      let kept : HasOpening g o.store = ∣ (opening, right.kept) ∣₁ in
      record {
        kept = kept;
        steady = steady g o.store kept;
        txn = k.txn;
        op = k.op;
        locks = k.locks;
        whole = k.whole;
        total = k.total;
        inside = k.inside;
        rooms = right.rooms;
        unseen = λ p none. unlooked_at relations counters (world g opening o) s p k none;
        records = λ bytes p some takes. noted_records o.rooms o.map.kinds.value (held_in (world g opening o)) bytes p right.noted right.map some takes;
        short = short_record relations counters s.op k.within;
      })

  pub one_of : (o : Operations D) (s : OpScope) → IsOneWithin g o s → IsOneOf g o s
  one_of o s one = ∥∥₁_map one (λ (opening, relations, counters, right, k, few, some). (opening, relations, counters, right, k))

  pub known_within : (o : Operations D) (s : OpScope) → IsOneWithin g o s → IsKnown g o s
  known_within o s one = known o s (one_of o s one)

  -- it stays where nothing changes but what is in frames
  pub one_rests : (o n : Operations D) (s : OpScope) → ((opening : PageBytes) (relations counters : ℕ) → IsRight g opening relations counters o → IsRight g opening relations counters n)
      → ((opening : PageBytes) → Rests (world g opening o) (world g opening n)) → IsOneOf g o s → IsOneOf g n s
  one_rests o n s stays rests one = ∥∥₁_map one (λ (opening, relations, counters, right, k).
      (opening, relations, counters, stays opening relations counters right, rests_own relations counters (world g opening o) (world g opening n) s (rests opening) k))

-- what is known of one that writes
pub record IsOn {D : Type 0} (o : Operations D) (s : OpScope) : Type 0 where
  pub unfinished : IsUnfinished s.txn s.number (appended o.store.log)
  pub all_stand : s.standing ≡ s.written
  pub some : s.written ≤ length (changes_in s)
  pub few : length (changes_in s) ≤ 8
  pub inside : (c : PageChange) → s.written < length (changes_in s) → c ≡ get_or (changes_in s) s.written c → c.page < pages o.store.pool

pub writes_on : {D : Type 0} (g : Ghosts D) (o : Operations D) (s : OpScope) → IsOneOf g o s → s.stage ≡ Writing → IsOn o s
writes_on g o s one writing = ∥∥₁_elim one (hlevel props) (λ (opening, relations, counters, right, k).
    let at : IsWriting relations counters (world g opening o) s = subst (IsAt relations counters (world g opening o) s) writing k.at in
    record {
      unfinished = at.unended.unfinished;
      all_stand = at.all_stand;
      some = at.some;
      few = at.plan.few;
      inside = λ c more is. k.inside c.page (subst (λ (d : PageChange). IsSome (looked s d.page)) (sym is) (All-get_or (λ (d : PageChange). IsSome (looked s d.page)) (changes_in s) s.written c more at.plan.there));
    })

-- it has come to one stage alone
pub Changing-prop : (s : OpScope) → IsProp ((s.stage ≡ Writing) ⊎ (s.stage ≡ Taking))
Changing-prop s = sum_prop (hlevel props) (hlevel props) (λ a b. absurd (cc))
  where
    sum_prop : {A B : Type 0} → IsProp A → IsProp B → (A → B → ⊥) → IsProp (A ⊎ B)
    sum_prop pa pb apart (inl a) (inl b) = ap inl (pa a b)
    sum_prop pa pb apart (inl a) (inr b) = absurd (apart a b)
    sum_prop pa pb apart (inr a) (inl b) = absurd (apart b a)
    sum_prop pa pb apart (inr a) (inr b) = ap inr (pb a b)
