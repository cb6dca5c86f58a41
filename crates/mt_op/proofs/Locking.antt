-- A page lock is granted: what the world, the operation and the others keep.
use Rattle.std.proofs.Common.{◌≡◌, ◌≢◌, ◌⊎◌, inl, inr, ⊎_elim, ℕ, ◌<◌, Bool, cond, ◌==◌, List, [], ◌∷◌, ◌++◌, Any, Contains, All, Option, None, Some, length, get_or, refl, sym, ap, ◌∙◌, subst, append-nil, arith, length-append}
use Rattle.std.specs.Prelude.{IsSome}
use Rattle.std.proofs.Math.ListN.{get_or-append}
use Rattle.std.proofs.lemmas.Bool.{cases_eq, eq-eqb, ne_eqb}
use Rattle.std.proofs.lemmas.List.Elements.{All-weaker, Contains-append_left, Contains-push, filter-append}
use Rattle.std.proofs.lemmas.List.Quantifiers.{Any-push, all_pairs_push}
use Rattle.mt_base.specs.declared.modes.Mode.TheVariants.{Write}
use Rattle.mt_frame.specs.Grammar.{IsTxn, IsOp}
use Rattle.mt_plock.specs.declared.guards.PageLock.{PageLock}
use Rattle.mt_plock.specs.Holding.{lock_of, DoAgree, AreTogether}
use Rattle.mt_plock.specs.Releasing.{locks_of}
use Rattle.mt_space.specs.Kinds.{kind}
use Rattle.mt_overlay.specs.Overlays.{copied, or_below}
use Rattle.mt_steps.specs.Repeated.{Repeated, held, by, on}
use Rattle.mt_overlay.specs.declared.overlay.PageCopy.{PageCopy}
use Rattle.mt_overlay.proofs.Overlaid.{some_is, some_value, copied_append, test_yes, test_no}
use Rattle.mt_op.specs.World.{World, repeated_in, held_in, unfinished_in, IsCovered, IsWorld, looked, IsPlanning, IsAt, IsUnderWay}
use Rattle.mt_op.specs.Moves.{Locks, IsLed, Gains}
use Rattle.mt_op.specs.declared.scope.OpScope.{OpScope}
use Rattle.mt_op.proofs.Alone.{agrees, granted_alone, here_alone}
use Rattle.mt_op.proofs.Staying.{repeated_same, shows_held, world_locked, way_quiet, open_records, open_same}

-- ---- lists of locks

more_own : (o : ℕ) (locks : List PageLock) (l : PageLock) → l.op ≡ o → locks_of o (locks ++ l ∷ []) ≡ locks_of o locks ++ l ∷ []
more_own o locks l own =
    filter-append (λ (m : PageLock). m.op == o) locks (l ∷ []) ∙ ap (λ (b : Bool). locks_of o locks ++ cond b (l ∷ []) []) (eq-eqb l.op o own)

more_other : (o : ℕ) (locks : List PageLock) (l : PageLock) → l.op ≢ o → locks_of o (locks ++ l ∷ []) ≡ locks_of o locks
more_other o locks l other =
    filter-append (λ (m : PageLock). m.op == o) locks (l ∷ []) ∙ ap (λ (b : Bool). locks_of o locks ++ cond b (l ∷ []) []) (ne_eqb l.op o other) ∙ append-nil (locks_of o locks)

any_longer : (p : ℕ) (locks : List PageLock) (l : PageLock) → Any (λ m. m.page ≡ p) locks → Any (λ m. m.page ≡ p) (locks ++ l ∷ [])
any_longer p locks l (k, m, lt, is, on_p) = (k, m, (let n = length-append locks (l ∷ []) in omega arith), get_or-append locks (l ∷ []) m k lt ∙ is, on_p)

-- ---- what is at hand with one copy more

some_more : (o below : Option (List ℕ)) → IsSome o → IsSome (or_below o below)
some_more None below some = absurd cc
some_more (Some b) below some = refl

last_some : (o : Option (List ℕ)) (b : List ℕ) → IsSome (or_below o (Some b))
last_some None b = refl
last_some (Some c) b = refl

either : (o below : Option (List ℕ)) (b : List ℕ) → or_below o below ≡ Some b → (o ≡ Some b) ⊎ (below ≡ Some b)
either None below b is = inr is
either (Some c) below b is = inl is

-- ---- a lock is granted

pub locks_held : (w z : World) (l : PageLock) → Locks w z l → held_in z ≡ held_in w
locks_held w z l m = ap held (repeated_same w z m.area.opening m.records)

module _ (relations counters : ℕ) (w z : World) (l : PageLock) (m : Locks w z l) where
  same : repeated_in z ≡ repeated_in w
  same = repeated_same w z m.area.opening m.records

  pub world_locks : IsWorld relations counters w → IsWorld relations counters z
  world_locks k =
      world_locked relations counters w z m.area.total same m.pages
      (subst (λ (ls : List PageLock). All (IsCovered ls) (unfinished_in w)) (sym m.locks)
      (All-weaker (IsCovered w.locks) (IsCovered (w.locks ++ l ∷ [])) (λ c cover. Contains-append_left w.locks (l ∷ []) (lock_of c.op c.page Write) cover) (unfinished_in w) k.covered))
      (subst AreTogether (sym m.locks) (all_pairs_push DoAgree w.locks l k.together (λ i d lt. agrees l (get_or w.locks i d) (m.free i d lt)))) k

  pub others_lock : (u : OpScope) → IsUnderWay relations counters w u → u.number ≢ l.op → IsUnderWay relations counters z u
  others_lock u k ne =
      way_quiet relations counters w z u m.area.total same m.pages (ap (locks_of u.number) m.locks ∙ more_other u.number w.locks l (λ e. ne (sym e))) (open_records w z u m.records) k

  -- what it looks at then is what it had looked at, or the page that it has locked, as it is held
  abbrev IsFound : (s : OpScope) (p : ℕ) (bytes : List ℕ) → Type 0
  IsFound s p bytes = (looked s p ≡ Some bytes) ⊎ ((p ≡ l.page) × (held_in w p ≡ bytes) × (length bytes ≡ 4096) × (p < w.total))

  own_gains : (s t : OpScope) (copies : List PageCopy) → IsUnderWay relations counters w s → Gains w s t l copies → ((p : ℕ) (bytes : List ℕ) → looked t p ≡ Some bytes → IsFound s p bytes)
      → ((p : ℕ) → IsSome (looked s p) → IsSome (looked t p)) → IsSome (looked t l.page) → IsUnderWay relations counters z t
  own_gains s t copies k g found more led = record {
    txn = subst IsTxn (sym g.op.txn) k.txn;
    op = subst IsOp (sym g.op.number) k.op;
    within = rw g.op.op k.within;
    locks = (λ i. locks_of (g.op.number i) (m.locks i)) ∙ more_own s.number w.locks l g.own ∙ ap (λ (ls : List PageLock). ls ++ l ∷ []) k.locks ∙ sym g.guards;
    whole = λ p bytes is. ⊎_elim (λ old. k.whole p bytes old) (λ new. new.2) (found p bytes is);
    total = g.op.total ∙ k.total ∙ sym m.area.total;
    inside = λ p some.
        let v = some_value (looked t p) some in
        subst (λ (n : ℕ). p < n) (sym m.area.total) (⊎_elim (λ old. k.inside p (some_is (looked s p) v.0 old)) (λ new. new.3) (found p v.0 v.1));
    guarded = λ p some.
        let v = some_value (looked t p) some in
        subst (Any (λ x. x.page ≡ p)) (sym g.guards)
        (⊎_elim (λ old. any_longer p s.guards.items l (k.guarded p (some_is (looked s p) v.0 old))) (λ new. Any-push (λ (x : PageLock). x.page ≡ p) s.guards.items l (sym new.0)) (found p v.0 v.1));
    at = subst (IsAt relations counters z t) (sym g.stage) (record {
      sees = record {
        saw = λ p bytes is. ap (λ (r : Repeated). held r p) same ∙ ⊎_elim (λ old. was.sees.saw p bytes old) (λ new. new.1) (found p bytes is);
        named = λ p is. named_of p is g.room;
      };
      unended = open_same z s t g.op (open_records w z s m.records was.unended);
      nothing = (λ i. by (g.op.number i) (same i).unfinished) ∙ was.nothing;
      searched = g.searched;
      none_written = g.written ∙ was.none_written;
      none_standing = g.standing ∙ was.none_standing;
    });
  }
    where
      was : IsPlanning w s
      was = subst (IsAt relations counters w s) g.planning k.at

      IsNamedHere : ℕ → Type 0
      IsNamedHere p = IsSome (looked t p) × Contains t.guards.items (lock_of t.number p Write) × (kind (held_in z) p ≡ 3)

      the_lock : l.mode ≡ Write → l ≡ lock_of t.number l.page Write
      the_lock writes = λ i. record { op = (g.own ∙ sym g.op.number) i; page = l.page; mode = writes i }

      named_of : (p : ℕ) → t.room ≡ Some p → IsLed w l s t → IsNamedHere p
      named_of p is (inl room) =
          let n = was.sees.named p (sym room ∙ is) in (
            more p n.0,
            subst (λ (gs : List PageLock). Contains gs (lock_of t.number p Write)) (sym g.guards) (Contains-append_left s.guards.items (l ∷ []) (lock_of t.number p Write) (subst (λ (o : ℕ). Contains s.guards.items (lock_of o p Write)) (sym g.op.number) n.1)),
            ap (λ (r : Repeated). kind (held r) p) same ∙ n.2,
          )
      named_of p is (inr (room, writes, records)) =
          let e : Some l.page ≡ Some p = sym room ∙ is in
          let here : l.page ≡ p = cc in
          subst IsNamedHere here (
            led,
            subst (λ (gs : List PageLock). Contains gs (lock_of t.number l.page Write)) (sym g.guards) (subst (Contains (s.guards.items ++ l ∷ [])) (the_lock writes) (Contains-push s.guards.items l)),
            ap (λ (r : Repeated). kind (held r) l.page) same ∙ records,
          )

  -- the page that it has locked, which it had not looked at, is as it is held
  pub own_locks : (s t : OpScope) (copy : PageCopy) → IsWorld relations counters w → IsUnderWay relations counters w s → Gains w s t l (copy ∷ []) → copy.page ≡ l.page → copy.bytes ≡ w.present l.page → length copy.bytes ≡ 4096
      → l.page < w.total → IsUnderWay relations counters z t
  own_locks s t copy h k g page bytes size inside =
      own_gains s t (copy ∷ []) k g (λ p b is. ⊎_elim (λ old. inl old) (λ new. inr (newly p b new)) (either (looked s p) (copied (copy ∷ []) p) b (sym (now p) ∙ is)))
      (λ p some. subst IsSome (sym (now p)) (some_more (looked s p) (copied (copy ∷ []) p) some))
      (subst IsSome (sym (now l.page ∙ ap (or_below (looked s l.page)) (test_yes copy.page l.page (Some copy.bytes) None page))) (last_some (looked s l.page) copy.bytes))
    where
      was : IsPlanning w s
      was = subst (IsAt relations counters w s) g.planning k.at

      now : (p : ℕ) → looked t p ≡ or_below (looked s p) (copied (copy ∷ []) p)
      now p = ap (λ (cs : List PageCopy). copied cs p) g.seen ∙ copied_append s.seen.list.items (copy ∷ []) p

      none : on l.page (unfinished_in w) ≡ []
      none = here_alone l.op l.page (unfinished_in w) (granted_alone w.locks l (unfinished_in w) m.free h.covered) (ap (λ (o : ℕ). by o (unfinished_in w)) g.own ∙ was.nothing)

      as_held : held_in w l.page ≡ copy.bytes
      as_held = sym (shows_held w l.page (h.shows l.page inside) none) ∙ sym bytes

      newly : (p : ℕ) (b : List ℕ) → copied (copy ∷ []) p ≡ Some b → (p ≡ l.page) × (held_in w p ≡ b) × (length b ≡ 4096) × (p < w.total)
      newly p b is = elim (cases_eq copy.page p) [
        | inl here ↦
            let e : Some copy.bytes ≡ Some b = sym (test_yes copy.page p (Some copy.bytes) None here) ∙ is in
            let same_bytes : copy.bytes ≡ b = cc in
            let at_page : l.page ≡ p = sym page ∙ here in
            (sym at_page, ap (held_in w) (sym at_page) ∙ as_held ∙ same_bytes, ap length (sym same_bytes) ∙ size, subst (λ (n : ℕ). n < w.total) at_page inside)
        | inr other ↦ absurd (let e : None ≡ Some b = sym (test_no copy.page p (Some copy.bytes) None other) ∙ is in cc)
      ]

  -- a page that it had looked at is locked to write
  pub own_upgrades : (s t : OpScope) → IsUnderWay relations counters w s → Gains w s t l [] → IsSome (looked s l.page) → IsUnderWay relations counters z t
  own_upgrades s t k g some = own_gains s t [] k g (λ p b is. inl (sym (now p) ∙ is)) (λ p there. subst IsSome (sym (now p)) there) (subst IsSome (sym (now l.page)) some)
    where
      now : (p : ℕ) → looked t p ≡ looked s p
      now p = ap (λ (cs : List PageCopy). copied cs p) (g.seen ∙ append-nil s.seen.list.items)
