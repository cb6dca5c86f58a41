-- The next inverse of an abort: it is within the schema, and due.
use Rattle.std.proofs.Common.{◌≡◌, ◌≢◌, inl, inr, ℕ, ℤ, zero, suc, ◌<◌, ◌≤◌, ◌==◌, Bool, true, false, List, [], ◌∷◌, length, get_or, Option, Some, None, IfSome, neg_ℤ, cond, Contains, ◌++◌, append-nil, refl, sym, ◌∙◌, subst, arith}
use Rattle.std.specs.Prelude.{All}
use Rattle.std.specs.Option.{option_map}
use Rattle.std.proofs.lemmas.Int.{ints}
use Rattle.std.proofs.lemmas.Bool.{ne_eqb}
use Rattle.std.proofs.lemmas.List.{get_or_default}
use Rattle.std.proofs.lemmas.List.Elements.{All-head, All-tail, Contains-push}
use Rattle.mt_disk.specs.declared.device.Device.{Ghosts}
use Rattle.mt_base.specs.Limits.{IsStep}
use Rattle.mt_frame.specs.declared.records.Record.{Record}
use Rattle.mt_inverse.specs.Steps.{IsWithinSteps}
use Rattle.mt_live.proofs.Lasts.{last_within}
use Rattle.mt_escrow.specs.Seen.{Escrowed, JoinsAside, add_of}
use Rattle.mt_live.specs.Adds.{GivesBack, add_before}
use Rattle.mt_live.specs.Entries.{Entry}
use Rattle.mt_live.specs.Lives.{member_of}
use Rattle.mt_live.specs.Members.{Noted, Member, has_inverse, later, last_place, last_operation}
use Rattle.mt_live.specs.Undoing.{is_effect, last_of, last_effect}
use Rattle.mt_log.specs.Words.{appended}
use Rattle.mt_model.specs.Model.{Base, inverse_of, IsWithin}
use Rattle.mt_model.specs.Pending.{TakesOut, pending_of}
use Rattle.mt_model.specs.declared.pending_add.Pending.{Pending}
use Rattle.mt_model.specs.declared.operations.Op.{Op}
use Rattle.mt_model.specs.declared.operations.Op.TheVariants.{Get, Insert, Update, Delete, Add, Read, Scan}
use Rattle.mt_model.specs.declared.operations.Reply.{Reply}
use Rattle.mt_model.specs.declared.operations.Reply.TheVariants.{Done, Was}
use Rattle.mt_op.specs.Operations.{world}
use Rattle.mt_op.specs.World.{IsFresh}
use Rattle.mt_steps.specs.Logged.{HasSmallReply}
use Rattle.mt_core.specs.Runs.{is_working}
use Rattle.mt_core.specs.Consistent.{Origin, IsDue, IsReported, IsConsistent}
use Rattle.mt_core.specs.declared.parts.Core.{Core}
use Rattle.mt_core.proofs.Calling.{next_fresh}

-- what holds of all entries holds of a transaction's last effect
pub last_has : (P : Entry → Type 0) (t : ℕ) (es : List Entry) (e : Entry) → All P es → last_effect t es ≡ Some e → P e
last_has P t [] e k is = absurd cc
last_has P t (x ∷ es) e k is = go (last_effect t es) refl (is_effect t x) is (λ h. last_has P t es e (All-tail P x es k) h)
  where
    go : (o : Option Entry) → last_effect t es ≡ o → (b : Bool) → last_of o b x ≡ Some e → (last_effect t es ≡ Some e → P e) → P e
    go (Some other) at b h rec = rec (at ∙ h)
    go None at true h rec = let same : x ≡ e = cc in subst P same (All-head P x es k)
    go None at false h rec = absurd cc

pub within_steps : (relations counters : ℕ) (op : Op) → IsWithin relations counters op → IsWithinSteps op
within_steps relations counters (Get r k) within = tt
within_steps relations counters (Insert r k v) within = tt
within_steps relations counters (Update r k v) within = tt
within_steps relations counters (Delete r k) within = tt
within_steps relations counters (Add c d) within = within.1
within_steps relations counters (Read c) within = tt
within_steps relations counters (Scan r) within = tt

step_back : (d : ℤ) → IsStep d → IsStep (neg_ℤ d)
step_back d (inl up) = inr (omega (arith, ints, up.1), omega (arith, ints, up.0))
step_back d (inr down) = inl (omega (arith, ints, down.1), omega (arith, ints, down.0))

some_within : (relations counters : ℕ) (op : Op) (reply : Reply) → IsWithin relations counters op → HasSmallReply reply → IfSome (inverse_of op reply) (IsWithin relations counters)
some_within relations counters (Insert r k v) Done within small = (within.0, within.1)
some_within relations counters (Update r k v) (Was old) within small = (within.0, within.1, small)
some_within relations counters (Delete r k) (Was old) within small = (within.0, within.1, small)
some_within relations counters (Add c d) Done within small = (within.0, step_back d within.1)
some_within relations counters _ _ within small = tt

pub inverse_within : (relations counters : ℕ) (op : Op) (reply : Reply) (i : Op) → IsWithin relations counters op → HasSmallReply reply → inverse_of op reply ≡ Some i → IsWithin relations counters i
inverse_within relations counters op reply i within small is = subst (λ (o : Option Op). IfSome o (IsWithin relations counters)) is (some_within relations counters op reply within small)

-- the last call that did something did
last_did : (cs : List Noted) (n : ℕ) (d : Noted) → last_place cs ≡ Some n → has_inverse (get_or cs n d) ≡ true
last_did [] n d is = absurd cc
last_did (c ∷ cs) n d is = go (last_place cs) refl (has_inverse c) refl is (λ m h. last_did cs m d h)
  where
    go : (o : Option ℕ) → last_place cs ≡ o → (b : Bool) → has_inverse c ≡ b → later o b ≡ Some n → ((m : ℕ) → last_place cs ≡ Some m → has_inverse (get_or cs m d) ≡ true) → has_inverse (get_or (c ∷ cs) n d) ≡ true
    go (Some m) at b here h rec = let same : suc m ≡ n = cc in subst (λ (x : ℕ). has_inverse (get_or (c ∷ cs) x d) ≡ true) same (rec m at)
    go None at true here h rec = let same : 0 ≡ n = cc in subst (λ (x : ℕ). has_inverse (get_or (c ∷ cs) x d) ≡ true) same here
    go None at false here h rec = absurd cc

-- so it is due, under its number, which is not 0
reported_due : (last : ℕ) (records : List Record) (t u : ℕ) (m : Member) → IsReported last records t m → last_operation (Some m) ≡ Some u → IsDue records t u × (1 ≤ u)
reported_due last records t u m k named = go (last_place m.calls) refl named
  where
    first : (cs : List Noted) → 0 < length cs → (c : Noted) × (c ≡ get_or cs 0 c)
    first [] lt = absurd (omega (arith, lt))
    first (c ∷ cs) lt = (c, refl)

    go : (o : Option ℕ) → last_place m.calls ≡ o → option_map (λ i. get_or m.operations i 0) o ≡ Some u → IsDue records t u × (1 ≤ u)
    go None at h = absurd cc
    go (Some n) at h =
        let this : get_or m.operations n 0 ≡ u = cc in
        let within : n < length m.calls = subst (λ o. IfSome o (λ i. i < length m.calls)) at (last_within m.calls) in
        let many = k.many in
        let some : (c : Noted) × (c ≡ get_or m.calls 0 c) = first m.calls (omega (arith, within)) in
        let it : Noted = get_or m.calls n some.0 in
        let due = k.due n it within (get_or_default m.calls n some.0 (get_or m.calls n some.0) within) (last_did m.calls n some.0 at) in
        (subst (IsDue records t) this due, subst (λ (x : ℕ). 1 ≤ x) this (k.numbers n 0 (omega (arith, within, many))).0)

module _ {D : Type 0} (g : Ghosts D) (origin : Origin) (base : Base) where
  -- the number that comes next is fresh for the inverse of a transaction's last effect
  pub undo_fresh : (k : Core D) (t n u : ℕ) → IsConsistent g origin base k → is_working (member_of k.live.members t) ≡ true → k.last < n → last_operation (member_of k.live.members t) ≡ Some u → IsFresh (world g origin.pages k.operations) t n u × (u ≢ 0)
  undo_fresh k t n u safe at_work above named = go (member_of k.live.members t) refl named
    where
      go : (o : Option Member) → member_of k.live.members t ≡ o → last_operation o ≡ Some u → IsFresh (world g origin.pages k.operations) t n u × (u ≢ 0)
      go None at h = absurd cc
      go (Some m) at h =
          let outcome = reported_due k.last (appended k.operations.store.log) t u m (safe.outcome t m at) h in
          let due = outcome.0 in
          let fresh = next_fresh g origin base k t n safe.fit at_work above in
          let some : u ≢ 0 = λ is. let low = outcome.1 in absurd (omega arith) in
          let apart : (u == 0) ≡ false = ne_eqb u 0 some in (
            record {
              locks = fresh.locks;
              nothing = fresh.nothing;
              unfinished = fresh.unfinished;
              due = λ done. rw (apart, due.ended, due.standing) refl;
            },
            some,
          )

-- ---- what an inverse leaves of the pending adds

-- If it is an add, the opposite one is pending no more.
abbrev pub Returns : ℕ → Op → List Pending → List Pending → Type 0
Returns t (Add c d) old new = TakesOut (record { txn = t; counter = c; step = neg_ℤ d }) old new
Returns t (Get r k) old new = new ≡ old
Returns t (Insert r k v) old new = new ≡ old
Returns t (Update r k v) old new = new ≡ old
Returns t (Delete r k) old new = new ≡ old
Returns t (Read c) old new = new ≡ old
Returns t (Scan r) old new = new ≡ old

-- If it is an add, the opposite one is set aside if it was pending.
abbrev pub PutsAside : ℕ → Op → Escrowed → Escrowed → Type 0
PutsAside t (Add c d) old new = JoinsAside (add_of t c (neg_ℤ d)) old new
PutsAside t (Get r k) old new = new.aside ≡ old.aside
PutsAside t (Insert r k v) old new = new.aside ≡ old.aside
PutsAside t (Update r k v) old new = new.aside ≡ old.aside
PutsAside t (Delete r k) old new = new.aside ≡ old.aside
PutsAside t (Read c) old new = new.aside ≡ old.aside
PutsAside t (Scan r) old new = new.aside ≡ old.aside

own_there : (t : ℕ) (ps qs : List Pending) (p : Pending) → pending_of t ps ≡ qs ++ p ∷ [] → Contains ps p
own_there t ps qs p is = among ps (subst (λ xs. Contains xs p) (sym is) (Contains-push qs p))
  where
    among : (xs : List Pending) → Contains (pending_of t xs) p → Contains xs p
    among [] h = h
    among (x ∷ xs) h = go (x.txn == t) h (λ k. among xs k)
      where
        later : Contains xs p → Contains (x ∷ xs) p
        later k = let lt = k.1 in (suc k.0, omega (arith, lt), k.2)

        go : (b : Bool) → Contains (cond b (x ∷ pending_of t xs) (pending_of t xs)) p → (Contains (pending_of t xs) p → Contains xs p) → Contains (x ∷ xs) p
        go false k rec = later (rec k)
        go true (zero, lt, is_x) rec = (zero, omega arith, is_x)
        go true (suc i, lt, is_x) rec = later (rec (i, omega (arith, lt), is_x))

some_aside : (t : ℕ) (old new : Escrowed) (ps : List Pending) (op : Op) (reply : Reply) → pending_of t old.pending ≡ ps ++ add_before t op [] → IfSome (inverse_of op reply) (λ i. PutsAside t i old new → new.aside ≡ old.aside ++ add_before t op [])
some_aside t old new ps (Insert r k v) Done pends = λ same. same ∙ sym (append-nil old.aside)
some_aside t old new ps (Update r k v) (Was before) pends = λ same. same ∙ sym (append-nil old.aside)
some_aside t old new ps (Delete r k) (Was before) pends = λ same. same ∙ sym (append-nil old.aside)
some_aside t old new ps (Add c d) Done pends =
    let same : neg_ℤ (neg_ℤ d) ≡ d = omega (arith, ints) in
    λ joins. (subst (λ (step : ℤ). JoinsAside (add_of t c step) old new) same joins).last (own_there t old.pending ps (add_of t c d) pends)
some_aside t old new ps _ _ pends = tt

-- So what it takes back is.
pub inverse_aside : (t : ℕ) (old new : Escrowed) (i op : Op) (reply : Reply) (ps : List Pending) → PutsAside t i old new → inverse_of op reply ≡ Some i → pending_of t old.pending ≡ ps ++ add_before t op [] → new.aside ≡ old.aside ++ add_before t op []
inverse_aside t old new i op reply ps puts is pends = subst (λ (o : Option Op). IfSome o (λ j. PutsAside t j old new → new.aside ≡ old.aside ++ add_before t op [])) is (some_aside t old new ps op reply pends) puts

some_returned : (t : ℕ) (old new : List Pending) (op : Op) (reply : Reply) → IfSome (inverse_of op reply) (λ i. Returns t i old new → GivesBack t op old new)
some_returned t old new (Insert r k v) Done = λ returned. returned
some_returned t old new (Update r k v) (Was before) = λ returned. returned
some_returned t old new (Delete r k) (Was before) = λ returned. returned
some_returned t old new (Add c d) Done =
    let same : neg_ℤ (neg_ℤ d) ≡ d = omega (arith, ints) in
    λ returned. subst (λ (step : ℤ). TakesOut (record { txn = t; counter = c; step = step }) old new) same returned
some_returned t old new _ _ = tt

-- So what it takes back is.
pub inverse_returns : (t : ℕ) (old new : List Pending) (i op : Op) (reply : Reply) → Returns t i old new → inverse_of op reply ≡ Some i → GivesBack t op old new
inverse_returns t old new i op reply returned is = subst (λ (o : Option Op). IfSome o (λ j. Returns t j old new → GivesBack t op old new)) is (some_returned t old new op reply) returned
