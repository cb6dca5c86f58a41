-- What a world and an operation keep where little of the world changes, and what of the operation itself.
use Rattle.std.proofs.Common.{◌≡◌, ◌⊎◌, inl, inr, ℕ, zero, ◌<◌, ◌≤◌, Bool, false, ◌||◌, List, [], ◌∷◌, ◌++◌, Any, Contains, All, Option, None, length, take, refl, sym, ap, ◌∙◌, subst, arith}
use Rattle.std.specs.Prelude.{IsSome}
use Rattle.std.proofs.lemmas.List.Elements.{All-take, All-contains, Contains-append_right}
use Rattle.mt_base.specs.declared.modes.Mode.TheVariants.{Write}
use Rattle.mt_frame.specs.declared.records.Record.{Record}
use Rattle.mt_area_rules.specs.History.{some_record, ends_txn, ends_op, finishes, undoes_op}
use Rattle.mt_frame.specs.Grammar.{IsTxn, IsOp}
use Rattle.mt_model.specs.declared.operations.Op.{Op}
use Rattle.mt_model.specs.declared.operations.Reply.{Reply}
use Rattle.mt_plock.specs.declared.guards.PageLock.{PageLock}
use Rattle.mt_plock.specs.Holding.{lock_of, AreTogether}
use Rattle.mt_plock.specs.Releasing.{locks_of}
use Rattle.mt_space.specs.Changes.{PageBytes, Agrees, after}
use Rattle.mt_space.specs.declared.changes.PageChange.{PageChange}
use Rattle.mt_space.specs.Kinds.{kind}
use Rattle.mt_file.specs.Plans.{IsNamed}
use Rattle.mt_overlay.specs.Overlays.{copied, AreAtHand}
use Rattle.mt_steps.specs.Logged.{logged_of}
use Rattle.mt_steps.specs.Plans.{IsGood, IsPlanned, TakesPages}
use Rattle.mt_overlay.specs.declared.overlay.PageCopy.{PageCopy}
use Rattle.mt_steps.specs.Repeated.{Repeated, held, by, on, repeat, logged, IsRepeated}
use Rattle.mt_overlay.proofs.Overlaid.{some_is}
use Rattle.mt_steps.proofs.Repeating.{logged_more, held_alone}
use Rattle.mt_op.specs.World.{World, repeated_in, held_in, unfinished_in, IsCovered, IsWorld, looked, changes_in, HasPlan, IsOpen, Sees, IsAt, IsUnderWay}
use Rattle.mt_op.specs.Moves.{SameOp, SamePlan, Rests}
use Rattle.mt_op.specs.declared.scope.OpScope.{OpScope}
use Rattle.mt_op.specs.declared.scope.Stage.{Stage}
use Rattle.mt_op.specs.declared.scope.Stage.TheVariants.{Planning, Writing, Ready, Taking, Cleared}

-- ---- the records

pub repeated_same : (w z : World) → z.opening ≡ w.opening → z.records ≡ w.records → repeated_in z ≡ repeated_in w
repeated_same w z opening records = λ i. logged (opening i) (records i)

pub repeated_more : (w z : World) (rs : List Record) → z.opening ≡ w.opening → z.records ≡ w.records ++ rs → repeated_in z ≡ repeat (repeated_in w) rs
repeated_more w z rs opening records = (λ i. logged (opening i) (records i)) ∙ logged_more w.opening w.records rs

-- ---- the world

-- a page shows what these records make of it, or as it is held
abbrev pub ShowsOf : World → Repeated → ℕ → Type 0
ShowsOf z r p = (z.present p ≡ r.pages p) ⊎ (z.present p ≡ held r p)

-- a page stays so where it, and what is made of it, stay
pub shows_same : (w z : World) (r q : Repeated) (p : ℕ) → z.present p ≡ w.present p → q.pages p ≡ r.pages p → held q p ≡ held r p → ShowsOf w r p → ShowsOf z q p
shows_same w z r q p present pages held_same (inl is) = inl (present ∙ is ∙ sym pages)
shows_same w z r q p present pages held_same (inr is) = inr (present ∙ is ∙ sym held_same)

-- a page without unfinished changes is as it is held
pub shows_held : (w : World) (p : ℕ) → ShowsOf w (repeated_in w) p → on p (unfinished_in w) ≡ [] → w.present p ≡ held_in w p
shows_held w p (inl is) none = is ∙ sym (held_alone (repeated_in w) p none)
shows_held w p (inr is) none = is

module _ (relations counters : ℕ) where
  -- a world whose records make this of the pages
  pub world_of : (w z : World) (r : Repeated) → z.total ≡ w.total → repeated_in z ≡ r → IsRepeated r → ((p : ℕ) → p < w.total → ShowsOf z r p) → All (IsCovered z.locks) r.unfinished → AreTogether z.locks
      → IsGood relations counters w.total (held r) → IsWorld relations counters z
  world_of w z r total is repeated shows covered together good = record {
    repeated = subst IsRepeated (sym is) repeated;
    shows = λ p lt. subst (λ (x : Repeated). ShowsOf z x p) (sym is) (shows p (subst (λ (n : ℕ). p < n) total lt));
    covered = subst (λ (x : Repeated). All (IsCovered z.locks) x.unfinished) (sym is) covered;
    together = together;
    good = subst (λ (n : ℕ). IsGood relations counters n (held_in z)) (sym total) (subst (λ (x : Repeated). IsGood relations counters w.total (held x)) (sym is) good);
  }

  -- the same records and pages, under other locks
  pub world_locked : (w z : World) → z.total ≡ w.total → repeated_in z ≡ repeated_in w → ((p : ℕ) → p < w.total → z.present p ≡ w.present p) → All (IsCovered z.locks) (unfinished_in w) → AreTogether z.locks
      → IsWorld relations counters w → IsWorld relations counters z
  world_locked w z total is pages covered together k =
      world_of w z (repeated_in w) total is k.repeated (λ p lt. shows_same w z (repeated_in w) (repeated_in w) p (pages p lt) refl refl (k.shows p lt)) covered together k.good

-- ---- an operation in a world that changes elsewhere

-- what the operation depends on stays
pub record StaysFor (w z : World) (s : OpScope) : Type 0 where
  pub total : z.total ≡ w.total
  pub locks : locks_of s.number z.locks ≡ locks_of s.number w.locks
  pub held : (p : ℕ) → IsSome (looked s p) → held_in z p ≡ held_in w p
  pub kinds : (p : ℕ) → IsSome (looked s p) → Contains s.guards.items (lock_of s.number p Write) → kind (held_in z) p ≡ kind (held_in w) p
  pub pages : (p : ℕ) → IsSome (looked s p) → (repeated_in z).pages p ≡ (repeated_in w).pages p
  pub present : (p : ℕ) → IsSome (looked s p) → z.present p ≡ w.present p
  pub unended : IsOpen w s → IsOpen z s
  pub own : by s.number (unfinished_in z) ≡ by s.number (unfinished_in w)

-- what holds of all changes holds of each that is written
pub taken_has : (P : PageChange → Type 0) (cs : List PageChange) (n : ℕ) (c : PageChange) (front back : List PageChange) → All P cs → take n cs ≡ front ++ c ∷ back → P c
taken_has P cs n c front back all is =
    All-contains P (front ++ c ∷ back) c (subst (All P) is (All-take P n cs all)) (Contains-append_right front (c ∷ back) c (zero, omega arith, refl))

sees_stays : (w z : World) (s : OpScope) → StaysFor w z s → Sees w s → Sees z s
sees_stays w z s t k = record {
  saw = λ p bytes is. t.held p (some_is (looked s p) bytes is) ∙ k.saw p bytes is;
  named = λ p is. let n = k.named p is in (n.0, n.1, t.kinds p n.0 n.1 ∙ n.2);
}

module _ (relations counters : ℕ) (w z : World) (s : OpScope) (t : StaysFor w z s) where
  at_stays : (stage : Stage) → IsAt relations counters w s stage → IsAt relations counters z s stage
  at_stays Planning k = record {
    sees = sees_stays w z s t k.sees;
    unended = t.unended k.unended;
    nothing = t.own ∙ k.nothing;
    searched = k.searched;
    none_written = k.none_written;
    none_standing = k.none_standing;
  }
  at_stays Writing k = record {
    sees = sees_stays w z s t k.sees;
    unended = t.unended k.unended;
    plan = k.plan;
    done = t.own ∙ k.done;
    some = k.some;
    all_stand = k.all_stand;
    stand = λ p some. t.present p some ∙ k.stand p some ∙ sym (t.pages p some);
  }
  at_stays Ready k = t.own ∙ k
  at_stays Taking k = record {
    sees = sees_stays w z s t k.sees;
    unended = t.unended k.unended;
    plan = k.plan;
    done = t.own ∙ k.done;
    some = k.some;
    one_stands = k.one_stands;
    fewer_stand = k.fewer_stand;
    back = λ c front back is below.
        let some = taken_has (λ (d : PageChange). IsSome (looked s d.page)) (changes_in s) s.written c front back k.plan.there is in
        t.present c.page some ∙ k.back c front back is below ∙ sym (t.held c.page some);
  }
  at_stays Cleared k = t.own ∙ k

  pub way_stays : IsUnderWay relations counters w s → IsUnderWay relations counters z s
  way_stays k = record {
    txn = k.txn;
    op = k.op;
    within = k.within;
    locks = t.locks ∙ k.locks;
    whole = k.whole;
    total = k.total ∙ sym t.total;
    inside = λ p some. subst (λ (n : ℕ). p < n) (sym t.total) (k.inside p some);
    guarded = k.guarded;
    at = at_stays s.stage k.at;
  }

-- where the records make the same of the pages
pub way_quiet : (relations counters : ℕ) (w z : World) (s : OpScope) → z.total ≡ w.total → repeated_in z ≡ repeated_in w → ((p : ℕ) → p < w.total → z.present p ≡ w.present p) → locks_of s.number z.locks ≡ locks_of s.number w.locks
    → (IsOpen w s → IsOpen z s) → IsUnderWay relations counters w s → IsUnderWay relations counters z s
way_quiet relations counters w z s total same pages locks unended k = way_stays relations counters w z s (record {
  total = total;
  locks = locks;
  held = λ p some. ap (λ (r : Repeated). held r p) same;
  kinds = λ p some lock. ap (λ (r : Repeated). kind (held r) p) same;
  pages = λ p some. ap (λ (r : Repeated). r.pages p) same;
  present = λ p some. pages p (k.inside p some);
  unended = unended;
  own = ap (λ (r : Repeated). by s.number r.unfinished) same;
}) k

-- ---- the operation itself

pub open_records : (w z : World) (s : OpScope) → z.records ≡ w.records → IsOpen w s → IsOpen z s
open_records w z s same k = record { unfinished = rw same k.unfinished; due = λ done. rw same (k.due done) }

-- what it looked at is held still
pub sees_held : (w z : World) (s : OpScope) → held_in z ≡ held_in w → Sees w s → Sees z s
sees_held w z s is k = record {
  saw = subst (Agrees (looked s)) (sym is) k.saw;
  named = λ p room. let n = k.named p room in (n.0, n.1, ap (λ (f : PageBytes). kind f p) is ∙ n.2);
}

-- with the same locks, copies and page of records
pub sees_same : (z : World) (s t : OpScope) → SameOp s t → t.room ≡ s.room → t.guards.items ≡ s.guards.items → t.seen.list.items ≡ s.seen.list.items → Sees z s → Sees z t
sees_same z s t op room guards seen k = record {
  saw = λ p bytes is. k.saw p bytes (sym (ap (λ (cs : List PageCopy). copied cs p) seen) ∙ is);
  named = λ p is.
      let n = k.named p (sym room ∙ is) in (
        subst (λ (cs : List PageCopy). IsSome (copied cs p)) (sym seen) n.0,
        subst (λ (gs : List PageLock). Contains gs (lock_of t.number p Write)) (sym guards) (subst (λ (o : ℕ). Contains s.guards.items (lock_of o p Write)) (sym op.number) n.1),
        n.2,
      );
}

some_none : (is : Record → Bool) (xs ys : List Record) → some_record is ys ≡ false → some_record is (xs ++ ys) ≡ some_record is xs
some_none is [] ys none = none
some_none is (x ∷ xs) ys none = ap (λ (b : Bool). is x || b) (some_none is xs ys none)

-- with records more that end neither it, nor its transaction, nor what it takes back
pub open_more : (w z : World) (s : OpScope) (rs : List Record) → z.records ≡ w.records ++ rs → some_record (ends_txn s.txn) rs ≡ false → some_record (ends_op s.number) rs ≡ false → some_record (finishes s.txn s.undoes) rs ≡ false
    → some_record (undoes_op s.txn s.undoes) rs ≡ false → IsOpen w s → IsOpen z s
open_more w z s rs same txn op finish undoes k = record {
  unfinished = record {
    transaction = stays (ends_txn s.txn) txn ∙ k.unfinished.transaction;
    operation = stays (ends_op s.number) op ∙ k.unfinished.operation;
  };
  due = λ done. rw (stays (finishes s.txn s.undoes) finish, stays (undoes_op s.txn s.undoes) undoes) (k.due done);
}
  where
    stays : (is : Record → Bool) → some_record is rs ≡ false → some_record is z.records ≡ some_record is w.records
    stays is none = ap (some_record is) same ∙ some_none is w.records rs none

pub open_same : (z : World) (s t : OpScope) → SameOp s t → IsOpen z s → IsOpen z t
open_same z s t op k = record {
  unfinished = rw (op.txn, op.number) k.unfinished;
  due = λ done. rw (op.txn, op.undoes) (k.due done);
}

module _ (relations counters : ℕ) where
  -- what these changes do to whatever good pages agree with these copies
  abbrev Plans : ℕ → List PageCopy → Option ℕ → List PageChange → Op → Bool → Reply → Type 0
  Plans total copies room changes op split reply =
      (pages : PageBytes) → Agrees (copied copies) pages → IsGood relations counters total pages → IsNamed room pages → IsPlanned relations counters total (copied copies) pages changes op split reply

  -- and which pages they take and give back
  abbrev Gives : ℕ → List PageCopy → Option ℕ → List PageChange → Op → Type 0
  Gives total copies room changes op =
      (pages : PageBytes) → Agrees (copied copies) pages → IsGood relations counters total pages → IsNamed room pages → TakesPages room op pages (after changes pages)

  pub plan_same : (s t : OpScope) → SamePlan s t → HasPlan relations counters s → HasPlan relations counters t
  plan_same s t same k = record {
    reply = k.reply;
    replies = same.reply ∙ k.replies;
    planned = subst (λ (X : Type 0). X) (λ i. Plans (sym same.op.total i) (sym same.seen i) (sym same.room i) (sym same.changes i) (sym same.op.op i) (sym same.op.split i) k.reply) k.planned;
    takes = subst (λ (X : Type 0). X) (λ i. Gives (sym same.op.total i) (sym same.seen i) (sym same.room i) (sym same.changes i) (sym same.op.op i)) k.takes;
    there = subst (λ (X : Type 0). X) (λ i. AreAtHand (copied (sym same.seen i)) (sym same.changes i)) k.there;
    quiet = subst (λ (X : Type 0). X) (λ i. logged_of (sym same.op.op i) k.reply ≡ None → sym same.changes i ≡ []) k.quiet;
    few = subst (λ (cs : List PageChange). length cs ≤ 8) (sym same.changes) k.few;
    locked = subst (λ (X : Type 0). X) (λ i. All (λ (c : PageChange). Contains (sym same.guards i) (lock_of (sym same.op.number i) c.page Write)) (sym same.changes i)) k.locked;
  }

  -- with the same locks and copies it is under way where it has come so far
  pub own_kept : (w z : World) (s t : OpScope) → SameOp s t → t.guards.items ≡ s.guards.items → t.seen.list.items ≡ s.seen.list.items → z.total ≡ w.total → z.locks ≡ w.locks
      → IsUnderWay relations counters w s → IsAt relations counters z t t.stage → IsUnderWay relations counters z t
  own_kept w z s t op guards seen total locks k at = record {
    txn = subst IsTxn (sym op.txn) k.txn;
    op = subst IsOp (sym op.number) k.op;
    within = rw op.op k.within;
    locks = (λ i. locks_of (op.number i) (locks i)) ∙ k.locks ∙ sym guards;
    whole = λ p bytes is. k.whole p bytes (sym (ap (λ (cs : List PageCopy). copied cs p) seen) ∙ is);
    total = op.total ∙ k.total ∙ sym total;
    inside = λ p some. subst (λ (n : ℕ). p < n) (sym total) (k.inside p (subst (λ (cs : List PageCopy). IsSome (copied cs p)) seen some));
    guarded = λ p some. subst (Any (λ l. l.page ≡ p)) (sym guards) (k.guarded p (subst (λ (cs : List PageCopy). IsSome (copied cs p)) seen some));
    at = at;
  }

  -- ---- nothing but what is in frames

  pub world_rests : (w z : World) → Rests w z → IsWorld relations counters w → IsWorld relations counters z
  world_rests w z m k =
      world_locked relations counters w z m.area.total (repeated_same w z m.area.opening m.records) m.pages
      (subst (λ (ls : List PageLock). All (IsCovered ls) (unfinished_in w)) (sym m.locks) k.covered) (subst AreTogether (sym m.locks) k.together) k

  pub rests_own : (w z : World) (s : OpScope) → Rests w z → IsUnderWay relations counters w s → IsUnderWay relations counters z s
  rests_own w z s m k =
      way_quiet relations counters w z s m.area.total (repeated_same w z m.area.opening m.records) m.pages (ap (locks_of s.number) m.locks) (open_records w z s m.records) k

pub rests_held : (w z : World) → Rests w z → held_in z ≡ held_in w
rests_held w z m = ap held (repeated_same w z m.area.opening m.records)
