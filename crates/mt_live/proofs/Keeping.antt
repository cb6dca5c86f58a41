-- Each event keeps what is kept.
use Rattle.std.proofs.Common.{◌≡◌, ◌≢◌, ◌⊎◌, inl, inr, ℕ, ℤ, neg_ℤ, ◌≤◌, ◌+◌, Bool, true, false, cond, not, ◌==◌, List, [], ◌∷◌, ◌++◌, Option, Some, None, is_some, refl, ap, sym, ◌∙◌, subst, arith, append-nil, append_assoc}
use Rattle.std.proofs.lemmas.Int.{ints}
use Rattle.std.proofs.lemmas.Bool.Decides.{Decides-eqb}
use Rattle.mt_base.specs.declared.modes.LockMode.{LockMode}
use Rattle.mt_model.specs.declared.counters.Count.{Count}
use Rattle.mt_model.specs.declared.objects.Object.{Object}
use Rattle.mt_model.specs.declared.objects.Object.TheVariants.{Counter}
use Rattle.mt_model.specs.declared.operations.Op.{Op}
use Rattle.mt_model.specs.declared.operations.Op.TheVariants.{Get, Insert, Update, Delete, Add, Read, Scan}
use Rattle.mt_model.specs.declared.operations.Reply.{Reply}
use Rattle.mt_model.specs.declared.operations.Reply.TheVariants.{Done, Was}
use Rattle.mt_model.specs.declared.pending_add.Pending.{Pending}
use Rattle.mt_model.specs.declared.history.Committed.{Committed}
use Rattle.mt_model.specs.Model.{Base, moved, locks_of, reply_of, base_after, inverse_of}
use Rattle.mt_model.specs.History.{after}
use Rattle.mt_model.specs.Escrow.{total, HasRoom}
use Rattle.mt_model.specs.Locks.{Held, without_holder, HoldsEach}
use Rattle.mt_model.specs.Pending.{steps_at, pending_of, pending_without, moved_by}
use Rattle.mt_model.proofs.Appends.{after-append, legal_append}
use Rattle.mt_live.specs.declared.transactions.Role.TheVariants.{Stands, TakenBack, Back}
use Rattle.mt_live.specs.Entries.{Entry, with_role, calls, runs, kept, IsExplained}
use Rattle.mt_live.specs.Adds.{add_before, standing_before, adds, add_of, opposite_before, back_before, backs, forward_at, GivesBack}
use Rattle.mt_live.specs.Taking.{IsBallot, Wider, AreAside}
use Rattle.mt_live.specs.Sound.{Each, IsLocked, IsDone, IsSound}
use Rattle.mt_live.specs.Undoing.{only, others, last_effect, after_first, settle_after}
use Rattle.mt_live.specs.Machine.{State, committed_base, put, is_live, AreOwned, IsKept, begun, called, MayCall, ended, dropped, gone, booked, undone, returned, settled}
use Rattle.mt_live.proofs.Cuts.{IsIdle, IsLastDone, idle_all, cut_of}
use Rattle.mt_live.specs.Laws.{IsMoved}
use Rattle.mt_live.proofs.Shapes.{each_map, each_filter}
use Rattle.mt_live.proofs.Ballots.{steps_on, ballot_more, ballot_level}
use Rattle.mt_live.proofs.Cutting.{each_append, each_front, each_back}
use Rattle.mt_live.proofs.Events.{explained, counts_run, steps-at, ended as entry_ended, commits, cut as entry_cut, leaves, returned as entry_returned}
use Rattle.mt_live.proofs.Forward.{total_parts, steps_append, room_granted, room_aside, room_committed, level_all, wider_self, wider_part, backs-append, aside_all, aside_kept, aside_cut, aside_more}
use Rattle.mt_live.proofs.Settling.{settled_eased, eased_each, eased_adds, eased_backs, eased_sound, eased_runs}
use Rattle.mt_live.proofs.Pending.{not_eq, covers_wider}
use Rattle.mt_live.proofs.Locking.{all_still_held, has_each, whose_locks, all_more_locks, holds_each_more, held_before, another_holds, each_held_after, fewer_locks, still_locked}
use Rattle.mt_live.proofs.AddLemmas.{eq_self, eq_flip, adds-append, pending_of-append, of_before, of_mine, of_other, adds_last, of_without, adds-kept, adds_only, is_add, idle_adds, Taken, taken_of, undone_tied, out_wider, room_called}

-- ---- what is kept is what is claimed

pub kept_explained : (b : Base) (s : State) → IsKept b s → IsExplained (committed_base b s) s.standing s.base
kept_explained b s k = record {
  whichever = (explained s.held k.locks (committed_base b s) s.standing k.sound).whichever;
  all = k.base;
}

-- ---- numbers

put_some : {A : Type 0} (f : ℕ → Option A) (t u : ℕ) (x : A) → is_some (f u) ≡ true → is_some (put f t (Some x) u) ≡ true
put_some f t u x h = go (u == t)
  where
    go : (b : Bool) → is_some (cond b (Some x) (f u)) ≡ true
    go true = refl
    go false = h

put_other : {A : Type 0} (f : ℕ → Option A) (t u : ℕ) (x : Option A) → (u == t) ≡ false → is_some (f u) ≡ true → is_some (put f t x u) ≡ true
put_other f t u x apart h = rw apart h

put_none : {A : Type 0} (f : ℕ → Option A) (t u : ℕ) (a : A) → put f t None u ≡ Some a → f u ≡ Some a
put_none f t u a h = go (u == t) h
  where
    go : (b : Bool) → cond b None (f u) ≡ Some a → f u ≡ Some a
    go true k = absurd cc
    go false k = k

some_none : {A : Type 0} (f : ℕ → Option A) (t u : ℕ) → is_some (put f t None u) ≡ true → is_some (f u) ≡ true
some_none f t u h = go (u == t) h
  where
    go : (b : Bool) → is_some (cond b None (f u)) ≡ true → is_some (f u) ≡ true
    go true k = absurd cc
    go false k = k

apart_from : {A : Type 0} (f : ℕ → Option A) (t u : ℕ) (a : A) → f t ≡ None → f u ≡ Some a → u ≢ t
apart_from f t u a idle is e = let x : f u ≡ None = ap f e ∙ idle in absurd cc

-- ---- a transaction begins

begun_fresh : (s : State) (session : ℕ) → AreOwned s → (t : ℕ) → s.next + 1 ≤ t → is_live (begun s session) t ≡ true → ⊥
begun_fresh s session o t later h = go (t == s.next) refl h
  where
    go : (b : Bool) → (t == s.next) ≡ b → is_some (cond b (Some session) (s.sessions t)) ≡ true → ⊥
    go true is k = let same : t ≡ s.next = (Decides-eqb t s.next).0 is in absurd (omega arith)
    go false is k = o.fresh t (omega arith) k

pub kept_begun : (b : Base) (s : State) (session : ℕ) → IsKept b s → IsKept b (begun s session)
kept_begun b s session k = record {
  legal = k.legal;
  sound = k.sound;
  base = k.base;
  locks = k.locks;
  room = k.room;
  tied = k.tied;
  set_aside = k.set_aside;
  locked = k.locked;
  owned = record {
    standing = each_map _ _ (λ (e : Entry) h. put_some s.sessions s.next e.txn session h) s.standing k.owned.standing;
    aside = each_map _ _ (λ (q : Pending) h. put_some s.sessions s.next q.txn session h) s.aside k.owned.aside;
    running = λ t op h. put_some s.sessions s.next t session (k.owned.running t op h);
    held = λ t x m h. put_some s.sessions s.next t session (k.owned.held t x m h);
    fresh = begun_fresh s session k.owned;
  };
}

-- ---- a call is granted

called_tied : (s : State) (t : ℕ) (op : Op) → s.running t ≡ None → ((u : ℕ) → pending_of u s.pending ≡ pending_of u (adds s.standing) ++ add_of u (s.running u))
    → (u : ℕ) (b : Bool) → (t == u) ≡ b → (u == t) ≡ b → pending_of u (s.pending ++ add_before t op []) ≡ pending_of u (adds s.standing) ++ add_of u (cond b (Some op) (s.running u))
called_tied s t op idle tied u true e f =
    let same : t ≡ u = (Decides-eqb t u).0 e in
    let now : s.running u ≡ None = ap s.running (sym same) ∙ idle in
    let x : pending_of u (add_before t op []) ≡ add_before t op [] = of_before u t op [] ∙ ap (λ w. cond w (add_before t op []) []) e in
    let y : pending_of u s.pending ≡ pending_of u (adds s.standing) = tied u ∙ (ap (λ w. pending_of u (adds s.standing) ++ add_of u w) now ∙ append-nil (pending_of u (adds s.standing))) in
    pending_of-append u s.pending (add_before t op []) ∙ (ap (λ w. w ++ pending_of u (add_before t op [])) y ∙ (ap (λ w. pending_of u (adds s.standing) ++ w) x
    ∙ ap (λ v. pending_of u (adds s.standing) ++ add_before v op []) same))
called_tied s t op idle tied u false e f =
    let x : pending_of u (add_before t op []) ≡ [] = of_before u t op [] ∙ ap (λ w. cond w (add_before t op []) []) e in
    pending_of-append u s.pending (add_before t op []) ∙ (ap (λ w. pending_of u s.pending ++ w) x ∙ (append-nil (pending_of u s.pending) ∙ tied u))

called_locked : (s : State) (t : ℕ) (op : Op) → ((u : ℕ) (p : Op) → s.running u ≡ Some p → HoldsEach s.held u (locks_of p))
    → (u : ℕ) (p : Op) (b : Bool) → (u == t) ≡ b → cond b (Some op) (s.running u) ≡ Some p → HoldsEach (called s t op).held u (locks_of p)
called_locked s t op h u p true e is =
    let same : u ≡ t = (Decides-eqb u t).0 e in
    let q : op ≡ p = cc in
    subst (λ v. HoldsEach (called s t op).held v (locks_of p)) (sym same)
    (subst (λ w. HoldsEach (called s t op).held t (locks_of w)) q (has_each s.held t (locks_of op)))
called_locked s t op h u p false e is = holds_each_more s.held (called s t op).held u (all_still_held s.held t (locks_of op) u) (locks_of p) (h u p is)

called_running : (s : State) (t : ℕ) (op : Op) → is_live s t ≡ true → ((u : ℕ) (p : Op) → s.running u ≡ Some p → is_live s u ≡ true)
    → (u : ℕ) (p : Op) (b : Bool) → (u == t) ≡ b → cond b (Some op) (s.running u) ≡ Some p → is_live s u ≡ true
called_running s t op live h u p true e is = subst (λ v. is_live s v ≡ true) (sym ((Decides-eqb u t).0 e)) live
called_running s t op live h u p false e is = h u p is

called_held : (s : State) (t : ℕ) (op : Op) → is_live s t ≡ true → AreOwned s → (u : ℕ) (x : Object) (m : LockMode) → (called s t op).held u x m ≡ true → is_live s u ≡ true
called_held s t op live o u x m h = go (whose_locks s.held t (locks_of op) u x m h)
  where
    go : (s.held u x m ≡ true) ⊎ (u ≡ t) → is_live s u ≡ true
    go (inl a) = o.held u x m a
    go (inr e) = subst (λ v. is_live s v ≡ true) (sym e) live

relocked : (held more : Held) → ((t : ℕ) (x : Object) (m : LockMode) → held t x m ≡ true → more t x m ≡ true) → (b : Base) (es : List Entry) → IsSound held b es → IsSound more b es
relocked held more f b es s = record {
  acted = s.acted;
  locked = each_map _ _ (λ (e : Entry) h. holds_each_more held more e.txn (f e.txn) (locks_of e.op) h) es s.locked;
  done = s.done;
  room = s.room;
  ballot = s.ballot;
  nested = s.nested;
}

pub kept_called : (b : Base) (s : State) (t : ℕ) (op : Op) → IsKept b s → MayCall b s t op → IsKept b (called s t op)
kept_called b s t op k may = record {
  legal = k.legal;
  sound = relocked s.held (called s t op).held (all_still_held s.held t (locks_of op)) (committed_base b s) s.standing k.sound;
  base = k.base;
  locks = all_more_locks s.held t (locks_of op) k.locks may.free;
  room = λ c. subst (λ ps. HasRoom ((committed_base b s).counts c) (steps_at c ps)) (append_assoc s.aside s.pending (add_before t op []))
      (room_called (committed_base b s) (s.aside ++ s.pending) t op k.room may.admitted c);
  tied = λ u. called_tied s t op may.idle k.tied u (u == t) (flip u) refl;
  set_aside = k.set_aside;
  locked = λ u p is. called_locked s t op k.locked u p (u == t) refl is;
  owned = record {
    standing = k.owned.standing;
    running = λ u p is. called_running s t op may.live k.owned.running u p (u == t) refl is;
    held = called_held s t op may.live k.owned;
    aside = k.owned.aside;
    fresh = k.owned.fresh;
  };
}
  where
    flip : (u : ℕ) → (t == u) ≡ (u == t)
    flip u = eq_flip t u (t == u) (u == t) refl refl

-- ---- an operation ends

ended_tied : (s : State) (e : Entry) → e.role ≡ Stands → s.running e.txn ≡ Some e.op → ((u : ℕ) → pending_of u s.pending ≡ pending_of u (adds s.standing) ++ add_of u (s.running u))
    → (u : ℕ) (b : Bool) → (u == e.txn) ≡ b → (e.txn == u) ≡ b → pending_of u s.pending ≡ pending_of u (adds (s.standing ++ e ∷ [])) ++ add_of u (cond b None (s.running u))
ended_tied s e role run' tied u true f g =
    let same : e.txn ≡ u = (Decides-eqb e.txn u).0 g in
    let x : pending_of e.txn (adds (s.standing ++ e ∷ [])) ≡ pending_of e.txn (adds s.standing) ++ add_before e.txn e.op [] =
    adds_last s.standing e e.txn role ∙ ap (λ w. pending_of e.txn (adds s.standing) ++ w) (of_mine e.txn e.op) in
    let y : pending_of e.txn s.pending ≡ pending_of e.txn (adds s.standing) ++ add_before e.txn e.op [] =
    tied e.txn ∙ ap (λ w. pending_of e.txn (adds s.standing) ++ add_of e.txn w) run' in
    subst (λ v. pending_of v s.pending ≡ pending_of v (adds (s.standing ++ e ∷ [])) ++ []) same (y ∙ (sym x ∙ sym (append-nil (pending_of e.txn (adds (s.standing ++ e ∷ []))))))
ended_tied s e role run' tied u false f g =
    let x : pending_of u (adds (s.standing ++ e ∷ [])) ≡ pending_of u (adds s.standing) =
    adds_last s.standing e u role ∙ (ap (λ w. pending_of u (adds s.standing) ++ w) (of_other u e.txn e.op [] g) ∙ append-nil (pending_of u (adds s.standing))) in
    tied u ∙ ap (λ w. w ++ add_of u (s.running u)) (sym x)

pub kept_ended : (b : Base) (s : State) (t : ℕ) (op : Op) → IsKept b s → s.running t ≡ Some op → IsKept b (ended s t op)
kept_ended b s t op k running =
    let e : Entry = record { txn = t; op = op; reply = reply_of s.base op; role = Stands } in
    let tied : (u : ℕ) → pending_of u s.pending ≡ pending_of u (adds (s.standing ++ e ∷ [])) ++ add_of u (put s.running t None u) =
    λ u. ended_tied s e refl running k.tied u (u == t) refl (eq_flip t u (t == u) (u == t) refl refl) in
    let same : backs (s.standing ++ e ∷ []) ≡ backs s.standing = backs-append s.standing (e ∷ []) ∙ append-nil (backs s.standing) in
    let aside : AreAside s.aside (backs (s.standing ++ e ∷ [])) = subst (AreAside s.aside) (sym same) k.set_aside in
    let r = entry_ended s.held (committed_base b s) s.standing e k.sound refl (k.locked t op running)
    (λ c. room_stands s (committed_base b s) e refl k.sound.ballot aside tied k.room c)
    (ap (λ w. reply_of w op) k.base) in
    record {
      legal = k.legal;
      sound = r.0;
      base = r.1 ∙ ap (λ w. base_after w op) k.base;
      locks = k.locks;
      room = k.room;
      tied = tied;
      set_aside = aside;
      locked = λ u p h. k.locked u p (put_none s.running t u p h);
      owned = record {
        standing = each_append _ s.standing (e ∷ []) k.owned.standing (k.owned.running t op running, tt);
        running = λ u p h. k.owned.running u p (put_none s.running t u p h);
        held = k.owned.held;
        aside = k.owned.aside;
        fresh = k.owned.fresh;
      };
    }
  where
    room_stands : (s' : State) (m : Base) (e : Entry) → e.role ≡ Stands → ((c : ℕ) → IsBallot c s'.standing) → AreAside s'.aside (backs (s'.standing ++ e ∷ []))
        → ((u : ℕ) → pending_of u s'.pending ≡ pending_of u (adds (s'.standing ++ e ∷ [])) ++ add_of u (put s'.running t None u))
        → ((c : ℕ) → HasRoom (m.counts c) (steps_at c (s'.aside ++ s'.pending))) → (c : ℕ) → HasRoom (m.counts c) (forward_at c (s'.standing ++ e ∷ []))
    room_stands s' m e role ballot aside tied room c =
        let level = level_all c (s'.standing ++ e ∷ []) (ballot_more c s'.standing e role (ballot c)) in
        room_granted (m.counts c) c s'.aside s'.pending (s'.standing ++ e ∷ []) level.0 level.1
        (aside_all s'.aside (backs (s'.standing ++ e ∷ [])) aside c)
        (covers_wider (adds (s'.standing ++ e ∷ [])) s'.pending (λ u. add_of u (put s'.running t None u)) tied c)
        (room c)

-- ---- an unfinished operation is taken back

dropped_tied : (s : State) (t : ℕ) (op : Op) (ps : List Pending) → s.running t ≡ Some op → Taken t op s.pending ps
    → ((u : ℕ) → pending_of u s.pending ≡ pending_of u (adds s.standing) ++ add_of u (s.running u))
    → (u : ℕ) (b : Bool) → (u == t) ≡ b → pending_of u ps ≡ pending_of u (adds s.standing) ++ add_of u (cond b None (s.running u))
dropped_tied s t op ps run' out tied u true e =
    let same : u ≡ t = (Decides-eqb u t).0 e in
    let x : pending_of t s.pending ≡ pending_of t (adds s.standing) ++ add_before t op [] = tied t ∙ ap (λ w. pending_of t (adds s.standing) ++ add_of t w) run' in
    subst (λ v. pending_of v ps ≡ pending_of v (adds s.standing) ++ []) (sym same) (out.its (pending_of t (adds s.standing)) x ∙ sym (append-nil (pending_of t (adds s.standing))))
dropped_tied s t op ps run' out tied u false e =
    let apart : u ≢ t = λ k. let x : (u == t) ≡ true = (Decides-eqb u t).1 k in absurd cc in
    out.apart u apart ∙ tied u

pub kept_dropped : (b : Base) (s : State) (t : ℕ) (op : Op) (ps : List Pending) → IsKept b s → s.running t ≡ Some op → GivesBack t op s.pending ps → IsKept b (dropped s t ps)
kept_dropped b s t op ps k running given =
    let out = taken_of t op s.pending ps given in
    record {
      legal = k.legal;
      sound = k.sound;
      base = k.base;
      locks = k.locks;
      room = λ c. room_aside ((committed_base b s).counts c) c s.aside s.pending s.aside ps (wider_self (steps_at c s.aside))
          (out_wider c t op s.pending ps (pending_of t (adds s.standing)) out (k.tied t ∙ ap (λ w. pending_of t (adds s.standing) ++ add_of t w) running)) (k.room c);
      tied = λ u. dropped_tied s t op ps running out k.tied u (u == t) refl;
      set_aside = k.set_aside;
      locked = λ u p h. k.locked u p (put_none s.running t u p h);
      owned = record {
        standing = k.owned.standing;
        running = λ u p h. k.owned.running u p (put_none s.running t u p h);
        held = k.owned.held;
        aside = k.owned.aside;
        fresh = k.owned.fresh;
      };
    }

-- ---- a transaction is gone

left_tied : (s : State) (t : ℕ) → s.running t ≡ None → ((u : ℕ) → pending_of u s.pending ≡ pending_of u (adds s.standing) ++ add_of u (s.running u))
    → (u : ℕ) (b : Bool) → (u == t) ≡ b → pending_of u (pending_without t s.pending) ≡ pending_of u (adds (kept (others t) s.standing)) ++ add_of u (s.running u)
left_tied s t idle tied u true e =
    let same : u ≡ t = (Decides-eqb u t).0 e in
    let x : pending_of u (pending_without t s.pending) ≡ [] = of_without u t s.pending ∙ ap (λ w. cond w [] (pending_of u s.pending)) e in
    let y : pending_of u (adds (kept (others t) s.standing)) ≡ [] = adds-kept (others t) u s.standing ∙ ap (λ w. cond (not w) (pending_of u (adds s.standing)) []) e in
    let z : add_of u (s.running u) ≡ [] = ap (add_of u) (ap s.running same ∙ idle) in
    x ∙ sym (ap (λ w. w ++ add_of u (s.running u)) y ∙ z)
left_tied s t idle tied u false e =
    let x : pending_of u (pending_without t s.pending) ≡ pending_of u s.pending = of_without u t s.pending ∙ ap (λ w. cond w [] (pending_of u s.pending)) e in
    let y : pending_of u (adds (kept (others t) s.standing)) ≡ pending_of u (adds s.standing) = adds-kept (others t) u s.standing ∙ ap (λ w. cond (not w) (pending_of u (adds s.standing)) []) e in
    x ∙ (tied u ∙ ap (λ w. w ++ add_of u (s.running u)) (sym y))

left_locked : (s : State) (t : ℕ) → s.running t ≡ None → ((u : ℕ) (p : Op) → s.running u ≡ Some p → HoldsEach s.held u (locks_of p))
    → (u : ℕ) (p : Op) → s.running u ≡ Some p → HoldsEach (without_holder s.held t) u (locks_of p)
left_locked s t idle h u p is = each_held_after s.held t u (locks_of p) (not_eq u t (apart_from s.running t u p idle is) (u == t) refl) (h u p is)

left_sound : (s : State) (t : ℕ) (b : Base) → IsSound s.held b (kept (others t) s.standing) → Each (IsLocked s.held) s.standing → IsSound (without_holder s.held t) b (kept (others t) s.standing)
left_sound s t b h l = record { acted = h.acted; locked = still_locked s.held t s.standing l; done = h.done; room = h.room; ballot = h.ballot; nested = h.nested }

live_choice : (s : State) (t : ℕ) (e : Entry) (es : List Entry) (b : Bool) → (e.txn == t) ≡ b → is_live s e.txn ≡ true → Each (λ (f : Entry). is_live (gone s t) f.txn ≡ true) es
    → Each (λ (f : Entry). is_live (gone s t) f.txn ≡ true) (cond (not b) (e ∷ es) es)
live_choice s t e es true is h rest = rest
live_choice s t e es false is h rest = (put_other s.sessions t e.txn None is h, rest)

still_live : (s : State) (t : ℕ) (es : List Entry) → Each (λ (e : Entry). is_live s e.txn ≡ true) es → Each (λ (e : Entry). is_live (gone s t) e.txn ≡ true) (kept (others t) es)
still_live s t [] h = tt
still_live s t (e ∷ es) h = live_choice s t e (kept (others t) es) (e.txn == t) refl h.0 (still_live s t es h.1)

aside_choice : (s : State) (t : ℕ) (q : Pending) (ps : List Pending) (b : Bool) → (q.txn == t) ≡ b → is_live s q.txn ≡ true → Each (λ (p : Pending). is_live (gone s t) p.txn ≡ true) ps
    → Each (λ (p : Pending). is_live (gone s t) p.txn ≡ true) (cond (not b) (q ∷ ps) ps)
aside_choice s t q ps true is h rest = rest
aside_choice s t q ps false is h rest = (put_other s.sessions t q.txn None is h, rest)

still_aside : (s : State) (t : ℕ) (ps : List Pending) → Each (λ (p : Pending). is_live s p.txn ≡ true) ps → Each (λ (p : Pending). is_live (gone s t) p.txn ≡ true) (pending_without t ps)
still_aside s t [] h = tt
still_aside s t (q ∷ ps) h = aside_choice s t q (pending_without t ps) (q.txn == t) refl h.0 (still_aside s t ps h.1)

gone_owned : (s : State) (t : ℕ) → s.running t ≡ None → AreOwned s → AreOwned (gone s t)
gone_owned s t idle o = record {
  standing = still_live s t s.standing o.standing;
  running = λ u op is. put_other s.sessions t u None (not_eq u t (apart_from s.running t u op idle is) (u == t) refl) (o.running u op is);
  held = λ u x m h. put_other s.sessions t u None (another_holds s.held t u x m h) (o.held u x m (held_before s.held t u x m h));
  aside = still_aside s t s.aside o.aside;
  fresh = λ u later h. o.fresh u later (some_none s.sessions t u h);
}

booked_owned : (s : State) (t session : ℕ) → s.running t ≡ None → AreOwned s → AreOwned (booked s t session)
booked_owned s t session idle o =
    let g = gone_owned s t idle o in
    record { standing = g.standing; running = g.running; held = g.held; aside = g.aside; fresh = g.fresh }

-- ---- an abort ends

pub kept_gone : (b : Base) (s : State) (t : ℕ) → IsKept b s → s.running t ≡ None → last_effect t s.standing ≡ None → IsKept b (gone s t)
kept_gone b s t k idle nothing =
    let l = leaves s.held k.locks (committed_base b s) t s.standing k.sound (idle_all t s.standing nothing) in
    record {
      legal = k.legal;
      sound = left_sound s t (committed_base b s) l.sound k.sound.locked;
      base = l.base ∙ k.base;
      locks = fewer_locks s.held t k.locks;
      room = λ c. room_aside ((committed_base b s).counts c) c s.aside s.pending (pending_without t s.aside) (pending_without t s.pending)
          (wider_part (λ (p : Pending). not (p.txn == t)) c s.aside) (wider_part (λ (p : Pending). not (p.txn == t)) c s.pending) (k.room c);
      tied = λ u. left_tied s t idle k.tied u (u == t) refl;
      set_aside = aside_kept (others t) s.aside s.standing k.set_aside;
      locked = left_locked s t idle k.locked;
      owned = gone_owned s t idle k.owned;
    }

-- ---- a commit becomes durable

-- what t commits at a counter comes to what it has pending there
committed_steps : (s : State) (t c : ℕ) → s.running t ≡ None → ((u : ℕ) → pending_of u s.pending ≡ pending_of u (adds s.standing) ++ add_of u (s.running u)) → IsBallot c s.standing
    → total (steps_on c (kept (only t) s.standing)) ≡ total (steps_at c (pending_of t s.pending))
committed_steps s t c idle tied ballot =
    let parts = total_parts c (kept (only t) s.standing) in
    let level = ballot_level c (only t) s.standing ballot in let up = level.0 in let down = level.1 in
    let same : total (steps_at c (adds (kept (only t) s.standing))) ≡ total (steps_at c (pending_of t s.pending)) =
    ap (λ ps. total (steps_at c ps)) (adds_only t s.standing ∙ sym (tied t ∙ (ap (λ w. pending_of t (adds s.standing) ++ add_of t w) idle ∙ append-nil (pending_of t (adds s.standing))))) in
    omega (arith, ints, parts, up, down) ∙ same

counts_at : (held : Held) (m : Base) (es : List Entry) (c u : ℕ) → IsMoved held m (only u) es → IsSound held m es → (runs m (kept (only u) es)).counts c ≡ moved (m.counts c) (total (steps_on c (kept (only u) es)))
counts_at held m es c u l h =
    counts_run m (kept (only u) es) (Counter c) l.acted (each_filter _ (λ (e : Entry). e.txn == u) es h.done)
    ∙ ap (λ w. moved (m.counts c) (total w)) (steps-at c (kept (only u) es))

-- a counter that is committed moves by what the transaction has pending there
pub committed_count : (b : Base) (s : State) (t session : ℕ) → IsKept b s → s.running t ≡ None → (c : ℕ) → (committed_base b (booked s t session)).counts c ≡ moved_by t c s.pending ((committed_base b s).counts c)
committed_count b s t session k idle c =
    let m = committed_base b s in
    let l = commits s.held k.locks m s.standing k.sound (only t) in
    ap (λ (w : Base). w.counts c) (after-append b s.book (record { session = session; calls = calls (kept (only t) s.standing) } ∷ []))
    ∙ (counts_at s.held m s.standing c t l k.sound ∙ ap (moved (m.counts c)) (committed_steps s t c idle k.tied (k.sound.ballot c)))

pub kept_booked : (b : Base) (s : State) (t session : ℕ) → IsKept b s → s.running t ≡ None → IsKept b (booked s t session)
kept_booked b s t session k idle =
    let m = committed_base b s in
    let x = kept (only t) s.standing in
    let new : Committed = record { session = session; calls = calls x } in
    let l = commits s.held k.locks m s.standing k.sound (only t) in
    let now : after b (s.book ++ new ∷ []) ≡ runs m x = after-append b s.book (new ∷ []) in
    record {
      legal = legal_append b s.book (new ∷ []) k.legal (l.acted, tt);
      sound = subst (λ w. IsSound (without_holder s.held t) w (kept (others t) s.standing)) (sym now) (left_sound s t (runs m x) l.rest k.sound.locked);
      base = ap (λ w. runs w (kept (others t) s.standing)) now ∙ (l.same ∙ k.base);
      locks = fewer_locks s.held t k.locks;
      room = λ c. subst (λ n. HasRoom n (steps_at c (pending_without t s.aside ++ pending_without t s.pending))) (sym (committed_count b s t session k idle c))
          (room_committed (m.counts c) c t s.aside s.pending (k.room c));
      tied = λ u. left_tied s t idle k.tied u (u == t) refl;
      set_aside = aside_kept (others t) s.aside s.standing k.set_aside;
      locked = left_locked s t idle k.locked;
      owned = booked_owned s t session idle k.owned;
    }

-- ---- an inverse ends in an abort

-- the add of the transaction's last effect is the last that it has pending
mine_of : (s : State) (t : ℕ) (front : List Entry) (e : Entry) (rest : List Entry) → s.running t ≡ None → e.txn ≡ t → e.role ≡ Stands
    → pending_of t s.pending ≡ pending_of t (adds (front ++ e ∷ rest)) ++ add_of t (s.running t) → pending_of t (adds rest) ≡ [] → pending_of t s.pending ≡ pending_of t (adds front) ++ add_before t e.op []
mine_of s t front e rest idle its role tied nothing =
    tied ∙ (ap (λ w. pending_of t (adds (front ++ e ∷ rest)) ++ add_of t w) idle ∙ (append-nil (pending_of t (adds (front ++ e ∷ rest)))
    ∙ (ap (pending_of t) (adds-append front (e ∷ rest)) ∙ (pending_of-append t (adds front) (standing_before e.role e.txn e.op (adds rest))
    ∙ ap (λ w. pending_of t (adds front) ++ w) (ap (pending_of t) (is_add e.role e.txn e.op (adds rest) role) ∙ (ap (λ v. pending_of t (add_before v e.op (adds rest))) its
    ∙ (of_before t t e.op (adds rest) ∙ (ap (λ w. cond w (add_before t e.op (pending_of t (adds rest))) (pending_of t (adds rest))) (eq_self t)
    ∙ ap (add_before t e.op) nothing))))))))

-- what stands once the entry is undone, as lists
abbrev undone_at : State → List Entry → Op → List Pending → State
undone_at s standing i ps = record s { standing = standing; pending = ps; base = base_after s.base i }

kept_undone_at : (b : Base) (s : State) (t : ℕ) (front : List Entry) (e : Entry) (rest : List Entry) (i : Op) (ps : List Pending) → IsKept b s → s.running t ≡ None
    → IsLastDone t s.standing front e rest i → GivesBack t e.op s.pending ps → IsKept b (undone_at s (front ++ kept (others t) rest) i ps)
kept_undone_at b s t front e rest i ps k idle m given =
    let base : Base = committed_base b s in
    let out = taken_of t e.op s.pending ps given in
    let s0 : IsSound s.held base (front ++ e ∷ rest) = subst (IsSound s.held base) m.place k.sound in
    let u = entry_cut s.held k.locks base t front rest e i s0 m.its m.role m.inverse m.idle in
    let same : runs base (front ++ e ∷ rest) ≡ s.base = sym (ap (runs base) m.place) ∙ k.base in
    let nothing : pending_of t (adds rest) ≡ [] = idle_adds t rest m.idle (each_back IsDone front (e ∷ rest) s0.done).1 in
    let tied : (v : ℕ) → pending_of v s.pending ≡ pending_of v (adds (front ++ (e ∷ rest))) ++ add_of v (s.running v) =
    λ v. k.tied v ∙ ap (λ w. pending_of v (adds w) ++ add_of v (s.running v)) m.place in
    let live : Each (λ (f : Entry). is_live s f.txn ≡ true) (front ++ (e ∷ rest)) = subst (Each (λ (f : Entry). is_live s f.txn ≡ true)) m.place k.owned.standing in
    record {
      legal = k.legal;
      sound = u.sound;
      base = u.base ∙ ap (λ w. base_after w i) same;
      locks = k.locks;
      room = λ c. room_aside (base.counts c) c s.aside s.pending s.aside ps (wider_self (steps_at c s.aside))
          (out_wider c t e.op s.pending ps (pending_of t (adds front)) out (mine_of s t front e rest idle m.its m.role (tied t) nothing)) (k.room c);
      tied = λ v. undone_tied t front e rest s.pending ps (add_of v (s.running v)) m.its m.role nothing out v (v == t) refl (quiet v (v == t) refl) (tied v);
      set_aside = aside_cut (others t) s.aside front rest e m.role (subst (λ w. AreAside s.aside (backs w)) m.place k.set_aside);
      locked = k.locked;
      owned = record {
        standing = each_append _ front (kept (others t) rest) (each_front _ front (e ∷ rest) live) (each_filter _ (λ (f : Entry). others t f.txn) rest (each_back _ front (e ∷ rest) live).1);
        running = k.owned.running;
        held = k.owned.held;
        aside = k.owned.aside;
        fresh = k.owned.fresh;
      };
    }
  where
    quiet : (v : ℕ) (c : Bool) → (v == t) ≡ c → c ≡ true → add_of v (s.running v) ≡ []
    quiet v c is true_now =
        let x : v ≡ t = (Decides-eqb v t).0 (is ∙ true_now) in
        ap (add_of v) (ap s.running x ∙ idle)

pub kept_undone : (b : Base) (s : State) (t : ℕ) (e : Entry) (i : Op) (ps : List Pending) → IsKept b s → s.running t ≡ None
    → last_effect t s.standing ≡ Some e → inverse_of e.op e.reply ≡ Some i → GivesBack t e.op s.pending ps → IsKept b (undone s t i ps)
kept_undone b s t e i ps k idle last inverse given =
    let c = cut_of t s.standing e i last inverse in
    subst (λ w. IsKept b (undone_at s w i ps)) (sym c.then) (kept_undone_at b s t c.front e c.rest i ps k idle c.done given)

-- the add of the last effect, if it is one, is the transaction's last that is pending
pub last_pends : (b : Base) (s : State) (t : ℕ) (e : Entry) (i : Op) → IsKept b s → s.running t ≡ None
    → last_effect t s.standing ≡ Some e → inverse_of e.op e.reply ≡ Some i → (front : List Pending) × (pending_of t s.pending ≡ front ++ add_before t e.op [])
last_pends b s t e i k idle last inverse =
    let c = cut_of t s.standing e i last inverse in
    let m = c.done in
    let done = subst (Each IsDone) m.place k.sound.done in
    let nothing : pending_of t (adds c.rest) ≡ [] = idle_adds t c.rest m.idle (each_back IsDone c.front (e ∷ c.rest) done).1 in
    let tied : pending_of t s.pending ≡ pending_of t (adds (c.front ++ (e ∷ c.rest))) ++ add_of t (s.running t) =
    k.tied t ∙ ap (λ w. pending_of t (adds w) ++ add_of t (s.running t)) m.place in
    (pending_of t (adds c.front), mine_of s t c.front e c.rest idle m.its m.role tied nothing)

-- ---- an inverse ends in a transaction that goes on

back_tied : (t : ℕ) (front : List Entry) (e : Entry) (rest : List Entry) (last : Entry) (ps qs run' : List Pending) → e.txn ≡ t → e.role ≡ Stands → last.role ≡ Back
    → pending_of t (adds rest) ≡ [] → Taken t e.op ps qs → (u : ℕ) (b : Bool) → (u == t) ≡ b → (b ≡ true → run' ≡ [])
    → pending_of u ps ≡ pending_of u (adds (front ++ e ∷ rest)) ++ run' → pending_of u qs ≡ pending_of u (adds ((front ++ with_role TakenBack e ∷ rest) ++ last ∷ [])) ++ run'
back_tied t front e rest last ps qs run' its role back none out u b is idle tied =
    undone_tied t front e rest ps qs run' its role none out u b is idle tied ∙ ap (λ w. w ++ run') (sym (same b is))
  where
    marked : adds ((front ++ with_role TakenBack e ∷ rest) ++ last ∷ []) ≡ adds front ++ adds rest
    marked =
        adds-append (front ++ with_role TakenBack e ∷ rest) (last ∷ [])
        ∙ (ap (λ r. adds (front ++ with_role TakenBack e ∷ rest) ++ standing_before r last.txn last.op []) back
        ∙ (append-nil (adds (front ++ with_role TakenBack e ∷ rest)) ∙ adds-append front (with_role TakenBack e ∷ rest)))

    same : (c : Bool) → (u == t) ≡ c → pending_of u (adds ((front ++ with_role TakenBack e ∷ rest) ++ last ∷ [])) ≡ pending_of u (adds (front ++ kept (others t) rest))
    same c at =
        ap (pending_of u) marked ∙ (pending_of-append u (adds front) (adds rest)
        ∙ (ap (λ w. pending_of u (adds front) ++ w) (left c at)
        ∙ sym (ap (pending_of u) (adds-append front (kept (others t) rest)) ∙ (pending_of-append u (adds front) (adds (kept (others t) rest)) ∙ ap (λ w. pending_of u (adds front) ++ w) (adds-kept (others t) u rest)))))
      where
        left : (d : Bool) → (u == t) ≡ d → pending_of u (adds rest) ≡ cond (not (u == t)) (pending_of u (adds rest)) []
        left true now = ap (λ v. pending_of v (adds rest)) ((Decides-eqb u t).0 now) ∙ (none ∙ ap (λ v. cond (not v) (pending_of u (adds rest)) []) (sym now))
        left false now = ap (λ v. cond (not v) (pending_of u (adds rest)) []) (sym now)

neg_neg : (d : ℤ) → neg_ℤ (neg_ℤ d) ≡ d
neg_neg d = omega (arith, ints)

opposite_same : (t : ℕ) (i j : Op) (ps : List Pending) → Some i ≡ Some j → opposite_before t j ps ≡ opposite_before t i ps
opposite_same t i j ps h = let same : i ≡ j = cc in ap (λ x. opposite_before t x ps) (sym same)

-- what an inverse takes back is the add of its operation
opposite_is : (t : ℕ) (op i : Op) (reply : Reply) → inverse_of op reply ≡ Some i → opposite_before t i [] ≡ add_before t op []
opposite_is t (Insert r k v) i Done h = opposite_same t (Delete r k) i [] h
opposite_is t (Update r k v) i (Was old) h = opposite_same t (Update r k old) i [] h
opposite_is t (Delete r k) i (Was old) h = opposite_same t (Insert r k old) i [] h
opposite_is t (Add n d) i Done h = opposite_same t (Add n (neg_ℤ d)) i [] h ∙ ap (λ z. record { txn = t; counter = n; step = z } ∷ []) (neg_neg d)
opposite_is t (Insert r k v) i _ h = absurd cc
opposite_is t (Update r k v) i _ h = absurd cc
opposite_is t (Delete r k) i _ h = absurd cc
opposite_is t (Add n d) i _ h = absurd cc
opposite_is t (Get r k) i _ h = absurd cc
opposite_is t (Read n) i _ h = absurd cc
opposite_is t (Scan r) i _ h = absurd cc

marked_backs : (front rest : List Entry) (e last : Entry) (t : ℕ) → e.role ≡ Stands → last.role ≡ Back → last.txn ≡ t → inverse_of e.op e.reply ≡ Some last.op
    → backs ((front ++ with_role TakenBack e ∷ rest) ++ last ∷ []) ≡ backs (front ++ e ∷ rest) ++ add_before t e.op []
marked_backs front rest e last t role back its inverse =
    backs-append (front ++ with_role TakenBack e ∷ rest) (last ∷ [])
    ∙ (ap (λ w. w ++ backs (last ∷ [])) (backs-append front (with_role TakenBack e ∷ rest) ∙ (ap (λ r. backs front ++ back_before r e.txn e.op (backs rest)) (sym role) ∙ sym (backs-append front (e ∷ rest))))
    ∙ ap (λ w. backs (front ++ e ∷ rest) ++ w) (ap (λ r. back_before r last.txn last.op []) back ∙ (ap (λ u. opposite_before u last.op []) its ∙ opposite_is t e.op last.op e.reply inverse)))

aside_live : (s : State) (t : ℕ) (op : Op) → is_live s t ≡ true → Each (λ (q : Pending). is_live s q.txn ≡ true) (add_before t op [])
aside_live s t (Add n d) h = (h, tt)
aside_live s t (Get r k) h = tt
aside_live s t (Insert r k v) h = tt
aside_live s t (Update r k v) h = tt
aside_live s t (Delete r k) h = tt
aside_live s t (Read n) h = tt
aside_live s t (Scan r) h = tt

-- what is set aside as it is taken from those pending leaves the sums as they were
moved_room : (n : Count) (c : ℕ) (aside ps qs more : List Pending) → Wider (steps_at c ps) (steps_at c (qs ++ more)) → HasRoom n (steps_at c (aside ++ ps)) → HasRoom n (steps_at c ((aside ++ more) ++ qs))
moved_room n c aside ps qs more w h =
    let a = steps_append c aside ps in let a0 = a.0 in let a1 = a.1 in
    let b = steps_append c (aside ++ more) qs in let b0 = b.0 in let b1 = b.1 in
    let d = steps_append c aside more in let d0 = d.0 in let d1 = d.1 in
    let f = steps_append c qs more in let f0 = f.0 in let f1 = f.1 in
    let x = w.lows in let y = w.highs in let l = h.low in let u = h.high in
    record { low = omega (arith, ints, a0, b0, d0, f0, x, l); high = omega (arith, ints, a1, b1, d1, f1, y, u) }

-- what goes out and comes back goes as far
out_again : (c t : ℕ) (op : Op) (ps qs front : List Pending) → Taken t op ps qs → pending_of t ps ≡ front ++ add_before t op [] → Wider (steps_at c ps) (steps_at c (qs ++ add_before t op []))
out_again c t op ps qs front out is = covers_wider (qs ++ add_before t op []) ps (λ u. []) (λ u. go u (u == t) refl) c
  where
    go : (u : ℕ) (b : Bool) → (u == t) ≡ b → pending_of u ps ≡ pending_of u (qs ++ add_before t op []) ++ []
    go u true e =
        let same : u ≡ t = (Decides-eqb u t).0 e in
        subst (λ v. pending_of v ps ≡ pending_of v (qs ++ add_before t op []) ++ []) (sym same)
        (is ∙ sym (append-nil (pending_of t (qs ++ add_before t op [])) ∙ (pending_of-append t qs (add_before t op []) ∙ (ap (λ w. w ++ pending_of t (add_before t op [])) (out.its front is) ∙ ap (λ w. front ++ w) (of_mine t op)))))
    go u false e =
        let apart : u ≢ t = λ s. let x : (u == t) ≡ true = (Decides-eqb u t).1 s in absurd cc in
        let flip : (t == u) ≡ false = eq_flip t u (t == u) (u == t) refl refl ∙ e in
        sym (append-nil (pending_of u (qs ++ add_before t op [])) ∙ (pending_of-append u qs (add_before t op []) ∙ (ap (λ w. pending_of u qs ++ w) (of_other u t op [] flip) ∙ (append-nil (pending_of u qs) ∙ out.apart u apart))))

abbrev returned_at : State → List Entry → ℕ → Op → Op → List Pending → State
returned_at s marked t op i ps = record s {
  standing = marked ++ record { txn = t; op = i; reply = reply_of s.base i; role = Back } ∷ [];
  pending = ps;
  aside = s.aside ++ add_before t op [];
  base = base_after s.base i;
}

kept_returned_at : (b : Base) (s : State) (t : ℕ) (front : List Entry) (e : Entry) (rest : List Entry) (i : Op) (ps : List Pending) → IsKept b s → s.running t ≡ None
    → IsLastDone t s.standing front e rest i → GivesBack t e.op s.pending ps → IsKept b (returned_at s (front ++ with_role TakenBack e ∷ rest) t e.op i ps)
kept_returned_at b s t front e rest i ps k idle m given =
    let base : Base = committed_base b s in
    let last : Entry = record { txn = t; op = i; reply = reply_of s.base i; role = Back } in
    let out = taken_of t e.op s.pending ps given in
    let s0 : IsSound s.held base (front ++ e ∷ rest) = subst (IsSound s.held base) m.place k.sound in
    let same : runs base (front ++ e ∷ rest) ≡ s.base = sym (ap (runs base) m.place) ∙ k.base in
    let r = entry_returned s.held base front rest e last s0 m.role (sym m.its) refl m.inverse (subst (λ u. Each (IsIdle u) rest) (sym m.its) m.idle) (ap (λ w. reply_of w i) same) in
    let nothing : pending_of t (adds rest) ≡ [] = idle_adds t rest m.idle (each_back IsDone front (e ∷ rest) s0.done).1 in
    let tied : (v : ℕ) → pending_of v s.pending ≡ pending_of v (adds (front ++ (e ∷ rest))) ++ add_of v (s.running v) =
    λ v. k.tied v ∙ ap (λ w. pending_of v (adds w) ++ add_of v (s.running v)) m.place in
    let live : Each (λ (f : Entry). is_live s f.txn ≡ true) (front ++ (e ∷ rest)) = subst (Each (λ (f : Entry). is_live s f.txn ≡ true)) m.place k.owned.standing in
    let mine : is_live s t ≡ true = subst (λ u. is_live s u ≡ true) m.its (each_back (λ (f : Entry). is_live s f.txn ≡ true) front (e ∷ rest) live).0 in
    record {
      legal = k.legal;
      sound = r.0;
      base = r.1 ∙ ap (λ w. base_after w i) same;
      locks = k.locks;
      room = λ c. moved_room (base.counts c) c s.aside s.pending ps (add_before t e.op [])
          (out_again c t e.op s.pending ps (pending_of t (adds front)) out (mine_of s t front e rest idle m.its m.role (tied t) nothing)) (k.room c);
      tied = λ v. back_tied t front e rest last s.pending ps (add_of v (s.running v)) m.its m.role refl nothing out v (v == t) refl (quiet v (v == t) refl) (tied v);
      set_aside = subst (AreAside (s.aside ++ add_before t e.op [])) (sym (marked_backs front rest e last t m.role refl refl m.inverse))
          (aside_more s.aside (backs (front ++ e ∷ rest)) (add_before t e.op []) (subst (λ w. AreAside s.aside (backs w)) m.place k.set_aside));
      locked = k.locked;
      owned = record {
        standing = each_append _ (front ++ with_role TakenBack e ∷ rest) (last ∷ [])
            (each_append _ front (with_role TakenBack e ∷ rest) (each_front _ front (e ∷ rest) live) (each_back (λ (f : Entry). is_live s f.txn ≡ true) front (e ∷ rest) live)) (mine, tt);
        running = k.owned.running;
        held = k.owned.held;
        aside = each_append _ s.aside (add_before t e.op []) k.owned.aside (aside_live s t e.op mine);
        fresh = k.owned.fresh;
      };
    }
  where
    quiet : (v : ℕ) (c : Bool) → (v == t) ≡ c → c ≡ true → add_of v (s.running v) ≡ []
    quiet v c is true_now =
        let x : v ≡ t = (Decides-eqb v t).0 (is ∙ true_now) in
        ap (add_of v) (ap s.running x ∙ idle)

pub kept_returned : (b : Base) (s : State) (t : ℕ) (e : Entry) (i : Op) (ps : List Pending) → IsKept b s → s.running t ≡ None
    → last_effect t s.standing ≡ Some e → inverse_of e.op e.reply ≡ Some i → GivesBack t e.op s.pending ps → IsKept b (returned s t e i ps)
kept_returned b s t e i ps k idle last inverse given =
    let c = cut_of t s.standing e i last inverse in
    subst (λ w. IsKept b (returned_at s w t e.op i ps)) (sym c.marked) (kept_returned_at b s t c.front e c.rest i ps k idle c.done given)

-- ---- a transaction is back

pub kept_settled : (b : Base) (s : State) (t n : ℕ) → IsKept b s → s.running t ≡ None → last_effect t (after_first t n s.standing) ≡ None → IsKept b (settled s t n)
kept_settled b s t n k idle none =
    let eased = settled_eased t n s.standing none in
    let adds_same : adds (settle_after t n s.standing) ≡ adds s.standing = eased_adds s.standing (settle_after t n s.standing) eased k.sound.done in
    record {
      legal = k.legal;
      sound = eased_sound s.held (committed_base b s) s.standing (settle_after t n s.standing) eased k.sound;
      base = eased_runs (committed_base b s) s.standing (settle_after t n s.standing) eased ∙ k.base;
      locks = k.locks;
      room = k.room;
      tied = λ u. k.tied u ∙ ap (λ w. pending_of u w ++ add_of u (s.running u)) (sym adds_same);
      set_aside = subst (AreAside s.aside) (sym (eased_backs s.standing (settle_after t n s.standing) eased)) k.set_aside;
      locked = k.locked;
      owned = record {
        standing = eased_each (λ (e : Entry). is_live s e.txn ≡ true) (λ e h. h) s.standing (settle_after t n s.standing) eased k.owned.standing;
        running = k.owned.running;
        held = k.owned.held;
        aside = k.owned.aside;
        fresh = k.owned.fresh;
      };
    }

-- ---- a call is refused after all

-- what was pending for a call is given back: what is kept holds as if it had not been called
pub kept_given_back : (b : Base) (s : State) (t : ℕ) (op : Op) (ps : List Pending) → IsKept b s → MayCall b s t op → GivesBack t op (s.pending ++ add_before t op []) ps → IsKept b (record s { pending = ps })
kept_given_back b s t op ps k may given =
    let c = kept_called b s t op k may in
    let runs : put s.running t (Some op) t ≡ Some op = let same : (t == t) ≡ true = eq_self t in rw same refl in
    let d = kept_dropped b (called s t op) t op ps c runs given in
    record {
      legal = k.legal;
      sound = k.sound;
      base = k.base;
      locks = k.locks;
      room = d.room;
      set_aside = k.set_aside;
      tied = λ u. d.tied u ∙ ap (λ (o : Option Op). pending_of u (adds s.standing) ++ add_of u o) (back u (u == t) refl);
      locked = k.locked;
      owned = record { standing = k.owned.standing; running = k.owned.running; held = k.owned.held; aside = k.owned.aside; fresh = k.owned.fresh };
    }
  where
    back : (u : ℕ) (c : Bool) → (u == t) ≡ c → put (put s.running t (Some op)) t None u ≡ s.running u
    back u true is = rw is (sym (ap s.running ((Decides-eqb u t).0 is) ∙ may.idle))
    back u false is = rw is refl
