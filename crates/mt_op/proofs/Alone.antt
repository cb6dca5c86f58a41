-- Who is alone on a page: locks that agree with no other, and the changes below them.
use Rattle.std.proofs.Common.{◌≡◌, ◌≢◌, inl, inr, ⊎_elim, ℕ, zero, suc, ◌<◌, Bool, true, false, not, ◌==◌, List, [], ◌∷◌, Contains, All, length, get_or, filter, refl, sym, ap, ◌∙◌, subst, arith}
use Rattle.std.specs.Prelude.{IsSome}
use Rattle.std.proofs.lemmas.Bool.{cases_Bool, cases_lt, cases_eq, eqb-true, eq-eqb, ne_eqb}
use Rattle.std.proofs.lemmas.List.{get_or_default}
use Rattle.std.proofs.lemmas.List.Elements.{All-head, All-tail, All-weaker, All-contains, All-contains_itself, All-filter, filter_passes}
use Rattle.mt_base.specs.Modes.{agree}
use Rattle.mt_base.specs.declared.modes.Mode.{Mode}
use Rattle.mt_base.specs.declared.modes.Mode.TheVariants.{Read, Write}
use Rattle.mt_plock.specs.declared.guards.PageLock.{PageLock}
use Rattle.mt_plock.specs.Holding.{lock_of, is_in_way, DoAgree, AreTogether}
use Rattle.mt_plock.specs.Releasing.{locks_of}
use Rattle.mt_steps.specs.Repeated.{Change, by, but, on}
use Rattle.mt_steps.proofs.Picking.{on_absent, on_by, by_other}
use Rattle.mt_op.specs.World.{World, unfinished_in, IsCovered, IsWorld, looked, IsUnderWay}
use Rattle.mt_op.specs.declared.scope.OpScope.{OpScope}

-- ---- what a test picks

module _ {A : Type 0} (test : A → Bool) where
  -- an element that passes it stays
  pub stays_in : (xs : List A) (x : A) → test x ≡ true → Contains xs x → Contains (filter test xs) x
  stays_in [] x is (k, lt, there) = absurd (omega arith)
  stays_in (y ∷ ys) x is (zero, lt, there) = rw (ap test there ∙ is) (zero, (omega arith), there)
  stays_in (y ∷ ys) x is (suc k, lt, there) = elim (cases_Bool (test y)) [
    | inl a ↦ rw a (let i = stays_in ys x is (k, omega arith, there) in (suc i.0, (let below = i.1 in omega arith), i.2))
    | inr a ↦ rw a (stays_in ys x is (k, omega arith, there))
  ]

  -- what is left was there, and passes it
  pub was_in : (xs : List A) (x : A) → Contains (filter test xs) x → Contains xs x
  was_in xs x inside = All-contains (Contains xs) (filter test xs) x (All-filter test (Contains xs) xs (All-contains_itself xs)) inside

  pub passed : (xs : List A) (x : A) → Contains (filter test xs) x → test x ≡ true
  passed xs x inside = All-contains (λ y. test y ≡ true) (filter test xs) x (filter_passes test xs) inside

-- an operation's lock is one of all locks
pub own_lock : (o : ℕ) (locks own : List PageLock) (l : PageLock) → locks_of o locks ≡ own → Contains own l → Contains locks l × (l.op ≡ o)
own_lock o locks own l is inside =
    let there : Contains (locks_of o locks) l = subst (λ (ls : List PageLock). Contains ls l) (sym is) inside in
    (was_in (λ (m : PageLock). m.op == o) locks l there, eqb-true l.op o (passed (λ (m : PageLock). m.op == o) locks l there))

-- ---- locks of two operations on one page

agree_back : (a b : Mode) → agree a b ≡ true → agree b a ≡ true
agree_back Read Read is = refl
agree_back Read Write is = absurd cc
agree_back Write Read is = absurd cc
agree_back Write Write is = absurd cc

never : (a : Mode) → agree Write a ≡ true → ⊥
never Read is = cc
never Write is = cc

not_false : (b : Bool) → not b ≡ false → b ≡ true
not_false true is = refl
not_false false is = absurd cc

pub do_agree : (locks : List PageLock) (l m : PageLock) → AreTogether locks → Contains locks l → Contains locks m → DoAgree l m
do_agree locks l m together (i, i_lt, i_is) (j, j_lt, j_is) ne on_one = ⊎_elim
    (λ (before : i < j). pair i j l m before j_lt i_is j_is ne on_one)
    (λ behind. ⊎_elim
    (λ (is : i ≡ j). absurd (ne (ap (λ (x : PageLock). x.op) (sym i_is ∙ get_or_default locks i l m i_lt ∙ ap (λ (n : ℕ). get_or locks n m) is ∙ j_is))))
    (λ (differ : i ≢ j). agree_back m.mode l.mode (pair j i m l (omega arith) i_lt j_is i_is (λ e. ne (sym e)) (sym on_one)))
    (cases_eq i j))
    (cases_lt i j)
  where
    pair : (a b : ℕ) (x y : PageLock) → a < b → b < length locks → get_or locks a x ≡ x → get_or locks b y ≡ y → DoAgree x y
    pair a b x y lt inside x_is y_is =
        subst (λ (z : PageLock). DoAgree z y) x_is (subst (λ (z : PageLock). DoAgree (get_or locks a x) z) (get_or_default locks b x y inside ∙ y_is) (together a b x lt inside))

-- a lock that is not in the way of another agrees with it
pub agrees : (asked other : PageLock) → is_in_way asked other ≡ false → DoAgree other asked
agrees asked other is ne on_one = not_false (agree other.mode asked.mode) (rw (ne_eqb other.op asked.op ne, eq-eqb other.page asked.page on_one) at is)

-- whoever else has a lock does not have it on a page that an operation has locked to write
pub write_alone : (locks : List PageLock) (o p : ℕ) (l : PageLock) → AreTogether locks → Contains locks (lock_of o p Write) → Contains locks l → l.op ≢ o → l.page ≢ p
write_alone locks o p l together writes inside ne on_one = never l.mode (do_agree locks (lock_of o p Write) l together writes inside (λ e. ne (sym e)) (sym on_one))

-- ---- changes below locks

-- where each change of another operation is of another page, no other has changed this one
none_on : (o p : ℕ) (cs : List Change) → All (λ (c : Change). c.op ≢ o → c.page ≢ p) cs → on p (but o cs) ≡ []
none_on o p [] all = refl
none_on o p (c ∷ cs) all =
    let rest = none_on o p cs (All-tail (λ (d : Change). d.op ≢ o → d.page ≢ p) c cs all) in
    elim (cases_eq c.op o) [
      | inl same ↦ rw (eq-eqb c.op o same) rest
      | inr other ↦ rw (ne_eqb c.op o other, ne_eqb c.page p (All-head (λ (d : Change). d.op ≢ o → d.page ≢ p) c cs all other)) rest
    ]

-- whoever has a lock on a page: no other has changed it and not ended
pub covered_alone : (locks : List PageLock) (l : PageLock) (cs : List Change) → AreTogether locks → All (IsCovered locks) cs → Contains locks l → on l.page (but l.op cs) ≡ []
covered_alone locks l cs together covered inside =
    none_on l.op l.page cs (All-weaker (IsCovered locks) (λ (c : Change). c.op ≢ l.op → c.page ≢ l.page) (λ c cover ne is. write_alone locks c.op c.page l together cover inside (λ e. ne (sym e)) (sym is)) cs covered)

-- the same where a lock is granted
pub granted_alone : (locks : List PageLock) (l : PageLock) (cs : List Change) → All (λ held. is_in_way l held ≡ false) locks → All (IsCovered locks) cs → on l.page (but l.op cs) ≡ []
granted_alone locks l cs free covered =
    none_on l.op l.page cs (All-weaker (IsCovered locks) (λ (c : Change). c.op ≢ l.op → c.page ≢ l.page) (λ c cover ne is. never l.mode (agrees l (lock_of c.op c.page Write) (All-contains (λ held. is_in_way l held ≡ false) locks (lock_of c.op c.page Write) free cover) ne is)) cs covered)

-- who has changed nothing: a page that no other has changed is unchanged
pub here_alone : (o p : ℕ) (cs : List Change) → on p (but o cs) ≡ [] → by o cs ≡ [] → on p cs ≡ []
here_alone o p cs alone nothing = sym (on_absent p o cs (ap (on p) nothing)) ∙ alone

-- nor has any one other
pub other_alone : (o u p : ℕ) (cs : List Change) → o ≢ u → on p (but o cs) ≡ [] → on p (by u cs) ≡ []
other_alone o u p cs ne alone = ap (on p) (sym (by_other o u cs ne)) ∙ on_by p u (but o cs) ∙ ap (by u) alone

module _ (relations counters : ℕ) where
  -- each page that an operation looked at is locked by it
  pub guard_of : (w : World) (s : OpScope) (p : ℕ) → IsUnderWay relations counters w s → IsSome (looked s p) → (l : PageLock) × Contains w.locks l × (l.op ≡ s.number) × (l.page ≡ p)
  guard_of w s p k some =
      let (i, l, lt, is, on_p) = k.guarded p some in
      let own = own_lock s.number w.locks s.guards.items l k.locks (i, lt, is) in
      (l, own.0, own.1, on_p)

  -- no other has changed it
  pub looked_alone : (w : World) (s : OpScope) (p : ℕ) → IsWorld relations counters w → IsUnderWay relations counters w s → IsSome (looked s p) → on p (but s.number (unfinished_in w)) ≡ []
  looked_alone w s p h k some =
      let l = guard_of w s p k some in
      subst (λ (n : ℕ). on n (but s.number (unfinished_in w)) ≡ []) l.3 (subst (λ (o : ℕ). on l.0.page (but o (unfinished_in w)) ≡ []) l.2 (covered_alone w.locks l.0 (unfinished_in w) h.together h.covered l.1))

  -- and no other has locked it to write
  pub looked_apart : (w : World) (s : OpScope) (p o q : ℕ) → IsWorld relations counters w → IsUnderWay relations counters w s → IsSome (looked s p) → Contains w.locks (lock_of o q Write) → s.number ≢ o → p ≢ q
  looked_apart w s p o q h k some writes ne is =
      let l = guard_of w s p k some in
      write_alone w.locks o q l.0 h.together writes l.1 (λ e. ne (sym l.2 ∙ e)) (l.3 ∙ is)
