-- Losers undone by inverses, the latest end first, lead to the base without them, and find what they need.
use Rattle.std.proofs.Common.{◌≡◌, ℕ, ℤ, ◌+◌, ◌+ℤ◌, ◌≤◌, ◌≤ℤ◌, Bool, true, false, cond, List, [], ◌∷◌, ◌++◌, Option, Some, None, neg_ℤ, refl, sym, ap, ◌∙◌, subst, arith}
use Rattle.std.specs.List.{AllByRecursion}
use Rattle.std.proofs.lemmas.Int.{ints}
use Rattle.std.proofs.lemmas.List.{map-append}
use Rattle.mt_frame.specs.declared.records.LoggedOp.{LoggedOp}
use Rattle.mt_frame.specs.declared.records.LoggedOp.TheVariants as logged
use Rattle.mt_model.specs.declared.counters.Count.{Count}
use Rattle.mt_model.specs.declared.operations.Op.{Op}
use Rattle.mt_model.specs.declared.operations.Reply.TheVariants.{Done, Was, OutOfBounds}
use Rattle.mt_model.specs.History.{Call, run, IsActed}
use Rattle.mt_model.specs.declared.objects.Object.{Object}
use Rattle.mt_model.specs.Model.{Base, object_of, IsBase, IsInBounds, reply_of, base_after, inverse_of, moved, stays, inserted, updated, done_unless, was}
use Rattle.mt_model.proofs.Appends.{run-append}
use Rattle.mt_model.proofs.Cells.{cell, next, says, reply-cell, cell-own, same-self, is_scan}
use Rattle.mt_model.proofs.Steps.{stays_true}
use Rattle.mt_model.proofs.Undo.{base_back, undone_no_scan, inverse_no_scan}
use Rattle.mt_space.specs.Changes.{PageBytes}
use Rattle.mt_steps.specs.Held.{Holds}
use Rattle.mt_steps.specs.Plans.{IsGood, free_pages, own_needs}
use Rattle.mt_replay.specs.Recorded.{op_of, reply_in, undo_of, reply_back, call_of, calls_of, Finished, losers, stands_for}
use Rattle.mt_replay.specs.Recoverable.{IsOf, pages_held, inverse_pages, all_pages}
use Rattle.mt_replay.specs.Undoing.{UndoesOne, UndoesAll}
use Rattle.mt_replay.specs.Laws.{RestartFindsBase, EachInverseFinds}

-- ---- one inverse

-- it is the model's, and takes no more free pages than are kept for it
undo_is : (d : LoggedOp) → inverse_of (op_of d) (reply_in d) ≡ Some (undo_of d)
undo_is (logged.Insert r k v) = refl
undo_is (logged.Update r k v old) = refl
undo_is (logged.Delete r k old) = refl
undo_is (logged.Add c s) = refl

undo_takes : (d : LoggedOp) → own_needs (undo_of d) false ≡ inverse_pages d
undo_takes (logged.Insert r k v) = refl
undo_takes (logged.Update r k v old) = refl
undo_takes (logged.Delete r k old) = refl
undo_takes (logged.Add c s) = refl

-- it is on the same object
undo_object : (d : LoggedOp) → object_of (undo_of d) ≡ object_of (op_of d)
undo_object (logged.Insert r k v) = refl
undo_object (logged.Update r k v old) = refl
undo_object (logged.Delete r k old) = refl
undo_object (logged.Add c s) = refl

after_insert : (v : List ℕ) (row : Option (List ℕ)) → done_unless row ≡ Done → was (inserted v row) ≡ Was v
after_insert v None is = refl
after_insert v (Some old) is = absurd cc

after_update : (v old : List ℕ) (row : Option (List ℕ)) → was row ≡ Was old → was (updated v row) ≡ Was v
after_update v old None is = absurd cc
after_update v old (Some was) is = refl

after_add : (d : ℤ) (n : Count) (t : Bool) → stays n d ≡ t → IsInBounds n → cond t Done OutOfBounds ≡ Done → cond (stays (cond t (moved n d) n) (neg_ℤ d)) Done OutOfBounds ≡ Done
after_add d n true made within is = ap (λ (t : Bool). cond t Done OutOfBounds) (stays_true (moved n d) (neg_ℤ d) (record { not_under = low n.low n.number d within.not_under; not_over = high n.high n.number d within.not_over }))
  where
    low : (l z e : ℤ) → l ≤ℤ z → l ≤ℤ ((z +ℤ e) +ℤ neg_ℤ e)
    low l z e le = omega (arith, ints)

    high : (h z e : ℤ) → z ≤ℤ h → ((z +ℤ e) +ℤ neg_ℤ e) ≤ℤ h
    high h z e le = omega (arith, ints)
after_add d n false made within is = absurd cc

-- on the object's cell: what the inverse says behind the operation
says_back : (d : LoggedOp) (b : Base) → IsBase b → says (op_of d) (cell b (object_of (op_of d))) ≡ reply_in d → says (undo_of d) (next (op_of d) (cell b (object_of (op_of d)))) ≡ reply_back d
says_back (logged.Insert r k v) b within is = after_insert v (b.rows r k) is
says_back (logged.Update r k v old) b within is = after_update v old (b.rows r k) is
says_back (logged.Delete r k old) b within is = refl
says_back (logged.Add c s) b within is = after_add s (b.counts c) (stays (b.counts c) s) refl (within c) is

-- neither is a scan
done_no_scan : (d : LoggedOp) → is_scan (op_of d) ≡ false
done_no_scan d = undone_no_scan (op_of d) (undo_of d) (reply_in d) (undo_is d)

undo_no_scan : (d : LoggedOp) → is_scan (undo_of d) ≡ false
undo_no_scan d = inverse_no_scan (op_of d) (undo_of d) (reply_in d) (undo_is d)

-- it finds what the record says, where the operation found that
pub reply_after : (d : LoggedOp) (b : Base) → IsBase b → reply_of b (op_of d) ≡ reply_in d → reply_of (base_after b (op_of d)) (undo_of d) ≡ reply_back d
reply_after d b within is =
    reply-cell (base_after b (op_of d)) (undo_of d) (undo_no_scan d)
    ∙ ap (λ (x : Object). says (undo_of d) (cell (base_after b (op_of d)) x)) (undo_object d)
    ∙ ap (says (undo_of d)) (cell-own b (op_of d) (object_of (op_of d)) (done_no_scan d) ∙ ap (λ (t : Bool). cond t (next (op_of d) (cell b (object_of (op_of d)))) (cell b (object_of (op_of d)))) (same-self (object_of (op_of d))))
    ∙ says_back d b within (sym (reply-cell b (op_of d) (done_no_scan d)) ∙ is)

-- ---- lists of losers

acted_behind : (b : Base) (xs ys : List Call) → IsActed b (xs ++ ys) → IsActed (run b xs) ys
acted_behind b [] ys acted = acted
acted_behind b (x ∷ xs) ys acted = acted_behind (base_after b x.0) xs ys acted.1

calls-append : (front behind : List Finished) → calls_of (front ++ behind) ≡ calls_of front ++ calls_of behind
calls-append front behind = map-append (λ (f : Finished). call_of f.done) front behind

pages-append : (front behind : List Finished) → all_pages (front ++ behind) ≡ all_pages front + all_pages behind
pages-append [] behind = omega arith
pages-append (f ∷ front) behind = let rest = pages-append front behind in omega (arith, rest)

each_at : (P : Finished → Type 0) (front behind : List Finished) (f : Finished) → AllByRecursion P (front ++ f ∷ behind) → P f
each_at P [] behind f all = all.0
each_at P (g ∷ front) behind f all = each_at P front behind f all.1

module _ (relations counters total : ℕ) (keeps : (b : Base) (op : Op) → IsBase b → IsBase (base_after b op)) where
  pub record Back (b : Base) (k : PageBytes) : Type 0 where
    pub base : Holds k b
    pub good : IsGood relations counters total k

  keeps_all : (b : Base) (cs : List Call) → IsBase b → IsBase (run b cs)
  keeps_all b [] bounds = bounds
  keeps_all b (c ∷ cs) bounds = keeps_all (base_after b c.0) cs (keeps b c.0 bounds)

  -- one inverse more: from the base with f done to the base without
  one_back : (b : Base) (d : LoggedOp) (m k : PageBytes) → IsBase b → reply_of b (op_of d) ≡ reply_in d → Holds m (base_after b (op_of d)) → UndoesOne relations counters total m d k → Holds k b
  one_back b d m k bounds said holds u = subst (Holds k) (base_back b (op_of d) (undo_of d) bounds (ap (inverse_of (op_of d)) said ∙ undo_is d)) (u.base (base_after b (op_of d)) holds)

  pub back_all : (b : Base) (fs : List Finished) (h k : PageBytes) → IsBase b → IsActed b (calls_of fs) → IsGood relations counters total h → Holds h (run b (calls_of fs)) → UndoesAll relations counters total h fs k → Back b k
  back_all b [] h k bounds acted good holds u = record { base = subst (λ (f : PageBytes). Holds f b) (sym u) holds; good = subst (IsGood relations counters total) (sym u) good }
  back_all b (f ∷ fs) h k bounds acted good holds u =
      let m = back_all (base_after b (op_of f.done)) fs h u.0 (keeps b (op_of f.done) bounds) acted.1 good holds u.1 in
      record { base = one_back b f.done u.0 k bounds acted.0 m.base u.2; good = u.2.good }

  -- free pages left on the way
  pub free_left : (fs : List Finished) (h k : PageBytes) (n : ℕ) → all_pages fs + n ≤ free_pages total h → UndoesAll relations counters total h fs k → n ≤ free_pages total k
  free_left [] h k n enough u = let e : n ≤ free_pages total h = omega (arith, enough) in subst (λ (x : PageBytes). n ≤ free_pages total x) (sym u) e
  free_left (f ∷ fs) h k n enough u =
      let more : all_pages fs + (inverse_pages f.done + n) ≤ free_pages total h = omega (arith, enough) in
      let m : inverse_pages f.done + n ≤ free_pages total u.0 = free_left fs h u.0 (inverse_pages f.done + n) more u.1 in
      let s = u.2.free in
      let t = undo_takes f.done in
      omega (arith, m, s, t)

-- ---- the laws

module _ (keeps : (b : Base) (op : Op) → IsBase b → IsBase (base_after b op)) where
  pub finds_base : RestartFindsBase
  finds_base relations counters total bytes opening k records b r holds bounds u =
      let s = r.serial in
      let at : Holds (pages_held opening records) (run (stands_for b records) (calls_of (losers records))) = subst (Holds (pages_held opening records)) s.same (r.leads.base b holds) in
      let e = back_all relations counters total keeps (stands_for b records) (losers records) (pages_held opening records) k s.bounds s.acted r.leads.good at u in
      (e.base, e.good)

  pub each_finds : EachInverseFinds
  each_finds relations counters total bytes opening m records b r holds bounds front behind f is u =
      let s = r.serial in
      let start = stands_for b records in
      let before = run start (calls_of front) in
      let next_base = base_after before (op_of f.done) in
      let calls : calls_of (losers records) ≡ calls_of front ++ call_of f.done ∷ calls_of behind = ap calls_of is ∙ calls-append front (f ∷ behind) in
      let acted : IsActed before (call_of f.done ∷ calls_of behind) = acted_behind start (calls_of front) (call_of f.done ∷ calls_of behind) (subst (IsActed start) calls s.acted) in
      let base : run start (calls_of (losers records)) ≡ run next_base (calls_of behind) = ap (run start) calls ∙ run-append start (calls_of front) (call_of f.done ∷ calls_of behind) in
      let at : Holds (pages_held opening records) (run next_base (calls_of behind)) = subst (Holds (pages_held opening records)) (s.same ∙ base) (r.leads.base b holds) in
      let fine : IsBase before = keeps_all relations counters total keeps start (calls_of front) s.bounds in
      let e = back_all relations counters total keeps next_base behind (pages_held opening records) m (keeps before (op_of f.done) fine) acted.1 r.leads.good at u in
      let pages : all_pages (losers records) ≡ all_pages front + (inverse_pages f.done + all_pages behind) = ap all_pages is ∙ pages-append front (f ∷ behind) in
      let left = free_left relations counters total keeps behind (pages_held opening records) m (inverse_pages f.done) (omega (arith, pages, r.free)) u in
      record {
        within = each_at (λ (g : Finished). IsOf relations counters g.done) front behind f (subst (AllByRecursion (λ (g : Finished). IsOf relations counters g.done)) is r.within);
        holds = e.base;
        reply = reply_after f.done before fine acted.0;
        free = omega (arith, left, undo_takes f.done);
      }
