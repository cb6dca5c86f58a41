-- A transaction is back where its first so many operations had ended: what of its entries, calls and numbers stays.
use Rattle.std.proofs.Common.{◌≡◌, ◌≢◌, ◌⊎◌, inl, inr, ℕ, zero, suc, ◌≤◌, ◌+◌, ◌*◌, if◌then◌else◌, ◌&&◌, ◌==◌, cond, Bool, true, false, List, [], ◌∷◌, Option, Some, None, is_some, length, get_or, filter, refl, sym, ap, ◌∙◌, subst, arith}
use Rattle.std.specs.Prelude.{All}
use Rattle.std.specs.List.{sum_by}
use Rattle.std.specs.Option.{option_map}
use Rattle.std.proofs.lemmas.Bool.{and_right, eqb-true}
use Rattle.std.proofs.lemmas.List.Elements.{All-head, All-tail, All-cons}
use Rattle.std.proofs.lemmas.List.Sums.{sum_by-cons}
use Rattle.mt_disk.specs.declared.device.Device.{Ghosts}
use Rattle.mt_live.proofs.Keeping.{kept_settled}
use Rattle.mt_live.proofs.Reaching.{last_after}
use Rattle.mt_live.proofs.Settling.{IsEased, Eased, settled_eased, eased_calls, eased_kept}
use Rattle.mt_live.specs.Entries.{Entry, with_role, is_standing, calls, kept}
use Rattle.mt_live.specs.Lives.{member_of, IsChanged}
use Rattle.mt_live.proofs.Alone.{put_own}
use Rattle.mt_live.specs.Machine.{State, IsKept, put, settled}
use Rattle.mt_live.specs.Members.{Member, Noted, has_inverse, last_place, noted_after, settle_calls, settled_at, standing_count, with_state}
use Rattle.mt_live.specs.Roles.{settled_role, left_after}
use Rattle.mt_live.specs.Undoing.{only, is_counted, is_effect, last_of, last_effect, after_first, settle_after}
use Rattle.mt_live.specs.declared.transactions.Role.{Role}
use Rattle.mt_live.specs.declared.transactions.Role.TheVariants.{Stands, TakenBack, Back}
use Rattle.mt_live.specs.declared.transactions.TxnState.TheVariants.{Open, Committing, Returning}
use Rattle.mt_log.specs.Words.{appended}
use Rattle.mt_model.specs.Model.{Base, inverse_of}
use Rattle.mt_model.specs.declared.operations.Op.{Op}
use Rattle.mt_op.specs.declared.scope.OpScope.{OpScope}
use Rattle.mt_slock.specs.Views.{held_of}
use Rattle.mt_core.specs.Consistent.{Origin, state_of, state_in, AreLeft, IsNumbered, IsWithinSchema, IsConsistent, IsIn}
use Rattle.mt_core.specs.Restartable.{did, did_call, its_effects, numbers_did, numbers_of}
use Rattle.mt_core.specs.Runs.{running_in, is_at_work, weighed, count_in, did_after, entry_pages, entry_bytes, is_working}
use Rattle.mt_core.specs.Work.{effect_steps, effects_left}
use Rattle.mt_core.specs.declared.parts.Core.{Core}
use Rattle.mt_core.proofs.Ending.{numbered_members}
use Rattle.mt_core.proofs.Marking.{none_marked}
use Rattle.mt_core.proofs.Members.{changed_keeps, changed_other, owned_as, states_put}
use Rattle.mt_core.proofs.Queued.{queued_members}
use Rattle.mt_core.proofs.Reported.{reported_settled, reported_changed}
use Rattle.mt_core.proofs.Underway.{runs_none}

-- ---- entries, of which some did nothing and count no more

same_did : (e f : Entry) → (f ≡ e) ⊎ IsEased e f → did f ≡ did e
same_did e f (inl same) = ap did same
same_did e f (inr eased) = ap did eased.is ∙ sym (and_right (is_standing e.role) (is_some (inverse_of e.op e.reply)) (ap is_some eased.idle))

pub eased_did : (es fs : List Entry) → Eased es fs → filter did fs ≡ filter did es
eased_did [] [] h = refl
eased_did [] (f ∷ fs) h = absurd h
eased_did (e ∷ es) [] h = absurd h
eased_did (e ∷ es) (f ∷ fs) h = go (did e) refl (eased_did es fs h.1) h.0
  where
    go : (b : Bool) → did e ≡ b → filter did fs ≡ filter did es → (f ≡ e) ⊎ IsEased e f → filter did (f ∷ fs) ≡ cond b (e ∷ filter did es) (filter did es)
    go b is rest (inl same) = (λ i. cond (did (same i)) (same i ∷ filter did fs) (filter did fs)) ∙ (ap (λ c. cond c (e ∷ filter did fs) (filter did fs)) is ∙ ap (λ xs. cond b (e ∷ xs) xs) rest)
    go true is rest (inr eased) = let none : did e ≡ false = and_right (is_standing e.role) (is_some (inverse_of e.op e.reply)) (ap is_some eased.idle) in absurd cc
    go false is rest (inr eased) = ap (λ c. cond c (f ∷ filter did fs) (filter did fs)) (same_did e f (inr eased) ∙ is) ∙ rest

pub eased_effects : (u : ℕ) (es fs : List Entry) → Eased es fs → its_effects u fs ≡ its_effects u es
eased_effects u es fs h = ap (filter did_call) (eased_calls (kept (only u) es) (kept (only u) fs) (eased_kept (only u) es fs h))

skipped : (o : Option Entry) (e : Entry) → last_of o false e ≡ o
skipped None e = refl
skipped (Some x) e = refl

pub eased_last : (u : ℕ) (es fs : List Entry) → Eased es fs → last_effect u fs ≡ last_effect u es
eased_last u [] [] h = refl
eased_last u [] (f ∷ fs) h = absurd h
eased_last u (e ∷ es) [] h = absurd h
eased_last u (e ∷ es) (f ∷ fs) h = ap (λ o. last_of o (is_effect u f) f) (eased_last u es fs h.1) ∙ go h.0
  where
    idle_here : (x : Entry) → inverse_of x.op x.reply ≡ None → is_effect u x ≡ false
    idle_here x idle = and_right (is_counted u x) (is_some (inverse_of x.op x.reply)) (ap is_some idle)

    go : (f ≡ e) ⊎ IsEased e f → last_of (last_effect u es) (is_effect u f) f ≡ last_of (last_effect u es) (is_effect u e) e
    go (inl same) = ap (λ x. last_of (last_effect u es) (is_effect u x) x) same
    go (inr eased) =
        let was = idle_here e eased.idle in
        let now : is_effect u f ≡ false = ap (is_effect u) eased.is ∙ idle_here (with_role TakenBack e) eased.idle in
        ap (λ b. last_of (last_effect u es) b f) now ∙ (skipped (last_effect u es) f ∙ sym (ap (λ b. last_of (last_effect u es) b e) was ∙ skipped (last_effect u es) e))

pub eased_weighs : (weight : Op → ℕ) (es fs : List Entry) → Eased es fs → sum_by (weighed weight) fs ≡ sum_by (weighed weight) es
eased_weighs weight [] [] h = refl
eased_weighs weight [] (f ∷ fs) h = absurd h
eased_weighs weight (e ∷ es) [] h = absurd h
eased_weighs weight (e ∷ es) (f ∷ fs) h =
    let one : weighed weight f ≡ weighed weight e = go h.0 in
    let rest = eased_weighs weight es fs h.1 in
    let whole = sum_by-cons (weighed weight) e es in let now = sum_by-cons (weighed weight) f fs in omega (arith, one, rest, whole, now)
  where
    nothing : (r : Role) (op : Op) (b : Bool) → b ≡ false → cond (is_standing r && b) (weight op) 0 ≡ 0
    nothing Stands op b is = ap (λ c. cond c (weight op) 0) is
    nothing TakenBack op b is = refl
    nothing Back op b is = refl

    go : (f ≡ e) ⊎ IsEased e f → weighed weight f ≡ weighed weight e
    go (inl same) = ap (weighed weight) same
    go (inr eased) = ap (weighed weight) eased.is ∙ sym (nothing e.role e.op (is_some (inverse_of e.op e.reply)) (ap is_some eased.idle))

pub eased_all : (P : Entry → Type 0) → ((e : Entry) → P e → P (with_role TakenBack e)) → (es fs : List Entry) → Eased es fs → All P es → All P fs
eased_all P keeps [] [] h k = k
eased_all P keeps [] (f ∷ fs) h k = absurd h
eased_all P keeps (e ∷ es) [] h k = absurd h
eased_all P keeps (e ∷ es) (f ∷ fs) h k = All-cons P f fs (go h.0) (eased_all P keeps es fs h.1 (All-tail P e es k))
  where
    go : (f ≡ e) ⊎ IsEased e f → P f
    go (inl same) = subst P (sym same) (All-head P e es k)
    go (inr eased) = subst P (sym eased.is) (keeps e (All-head P e es k))

-- what did something after the first so many did something
pub after_some : (t n : ℕ) (es : List Entry) → is_some (last_effect t (after_first t n es)) ≡ true → last_effect t es ≡ None → ⊥
after_some t n es some none = go (last_effect t (after_first t n es)) refl some
  where
    go : (o : Option Entry) → last_effect t (after_first t n es) ≡ o → is_some o ≡ true → ⊥
    go None at is = absurd cc
    go (Some e) at is = let here : last_effect t es ≡ Some e = last_after t n es e at in let no : Some e ≡ None = sym here ∙ none in absurd cc

-- ---- numbers

none_settled : (cs : List Noted) (ns : List ℕ) → numbers_did (settle_calls zero cs) ns ≡ []
none_settled [] ns = refl
none_settled (c ∷ cs) [] = refl
none_settled (c ∷ cs) (n ∷ ns) = go c.role (none_settled cs ns)
  where
    go : (r : Role) → numbers_did (settle_calls zero cs) ns ≡ [] → numbers_did (record c { role = settled_role zero r } ∷ settle_calls (left_after zero r) cs) (n ∷ ns) ≡ []
    go Stands rest = rest
    go TakenBack rest = rest
    go Back rest = rest

-- as many as before did something, if none after the first so many did
pub did_settled : (n : ℕ) (cs : List Noted) (ns : List ℕ) → last_place (noted_after n cs) ≡ None → numbers_did (settle_calls n cs) ns ≡ numbers_did cs ns
did_settled n [] ns none = refl
did_settled zero (c ∷ cs) ns none = none_settled (c ∷ cs) ns ∙ sym (none_marked (c ∷ cs) ns none)
did_settled (suc n) (c ∷ cs) [] none = refl
did_settled (suc n) (c ∷ cs) (m ∷ ns) none = go c.role refl none (λ k. did_settled n cs ns k) (λ k. did_settled (suc n) cs ns k)
  where
    go : (r : Role) → c.role ≡ r → last_place (cond (is_standing r) (noted_after n cs) (noted_after (suc n) cs)) ≡ None
        → (last_place (noted_after n cs) ≡ None → numbers_did (settle_calls n cs) ns ≡ numbers_did cs ns) → (last_place (noted_after (suc n) cs) ≡ None → numbers_did (settle_calls (suc n) cs) ns ≡ numbers_did cs ns)
        → numbers_did (record c { role = r } ∷ settle_calls (left_after (suc n) r) cs) (m ∷ ns) ≡ numbers_did (c ∷ cs) (m ∷ ns)
    go Stands is h fewer same = (λ i. cond (has_inverse (record c { role = sym is i })) (m ∷ fewer h i) (fewer h i))
    go TakenBack is h fewer same = (λ i. cond (has_inverse (record c { role = sym is i })) (m ∷ same h i) (same h i))
    go Back is h fewer same = (λ i. cond (has_inverse (record c { role = sym is i })) (m ∷ same h i) (same h i))

none_of : {A : Type 0} (o : Option A) → is_some o ≡ false → o ≡ None
none_of None is = refl
none_of (Some x) is = absurd cc

pub settled_numbers : (n : ℕ) (m : Member) → is_some (last_place (noted_after n m.calls)) ≡ false → is_at_work m.state ≡ true → numbers_of (Some (with_state (settled_at n m) Open)) ≡ numbers_of (Some m)
settled_numbers n m none works =
    did_settled n m.calls m.operations (none_of (last_place (noted_after n m.calls)) none)
    ∙ ap (λ (b : Bool). cond b (numbers_did m.calls m.operations) []) (sym works)

-- ---- steps, members and states

pub eased_steps : (all t : ℕ) (es fs : List Entry) → Eased es fs → effects_left all fs t ≡ effects_left all es t
eased_steps all t [] [] h = refl
eased_steps all t [] (f ∷ fs) h = absurd h
eased_steps all t (e ∷ es) [] h = absurd h
eased_steps all t (e ∷ es) (f ∷ fs) h =
    let one : effect_steps all t f ≡ effect_steps all t e = ap (λ (b : Bool). if b then 2 * all + 10 else 0) (go h.0) in
    let rest = eased_steps all t es fs h.1 in
    let whole = sum_by-cons (effect_steps all t) e es in let now = sum_by-cons (effect_steps all t) f fs in omega (arith, one, rest, whole, now)
  where
    go : (f ≡ e) ⊎ IsEased e f → is_effect t f ≡ is_effect t e
    go (inl same) = ap (is_effect t) same
    go (inr eased) =
        ap (is_effect t) eased.is ∙ (and_right (is_counted t (with_role TakenBack e)) (is_some (inverse_of e.op e.reply)) (ap is_some eased.idle)
        ∙ sym (and_right (is_counted t e) (is_some (inverse_of e.op e.reply)) (ap is_some eased.idle)))

-- the first so many are those that stand
settled_stand : (n : ℕ) (cs : List Noted) → n ≤ standing_count cs → standing_count (settle_calls n cs) ≡ n
settled_stand n [] few = omega (arith, few)
settled_stand zero (c ∷ cs) few = go c.role (settled_stand zero cs (omega arith))
  where
    go : (r : Role) → standing_count (settle_calls zero cs) ≡ 0 → standing_count (record c { role = settled_role zero r } ∷ settle_calls (left_after zero r) cs) ≡ 0
    go Stands rest = rest
    go TakenBack rest = rest
    go Back rest = rest
settled_stand (suc n) (c ∷ cs) few = go c.role few (λ less. settled_stand n cs less) (λ less. settled_stand (suc n) cs less)
  where
    go : (r : Role) → suc n ≤ cond (is_standing r) (suc (standing_count cs)) (standing_count cs)
        → (n ≤ standing_count cs → standing_count (settle_calls n cs) ≡ n) → (suc n ≤ standing_count cs → standing_count (settle_calls (suc n) cs) ≡ suc n)
        → standing_count (record c { role = settled_role (suc n) r } ∷ settle_calls (left_after (suc n) r) cs) ≡ suc n
    go Stands few fewer same = ap suc (fewer (omega (arith, few)))
    go TakenBack few fewer same = same few
    go Back few fewer same = same few

abbrev pub settled_member : ℕ → Member → Member
settled_member first m = with_state (settled_at first m) Open

module _ (old new : List Member) (t first : ℕ) (returning : state_in old t ≡ Some (Returning first)) (changed : IsChanged old new t (settled_member first)) where
  lives : (o : Option Member) → option_map (λ (m : Member). m.state) o ≡ Some (Returning first) → is_some o ≡ true
  lives None is = absurd cc
  lives (Some m) is = refl

  pub settled_states : (u : ℕ) → state_in new u ≡ put (state_in old) t (Some Open) u
  settled_states u = states_put old new t (option_map (settled_member first) (member_of old t)) changed u ∙ (λ i. put (state_in old) t (now (member_of old t) (lives (member_of old t) returning) i) u)
    where
      now : (o : Option Member) → is_some o ≡ true → option_map (λ (m : Member). m.state) (option_map (settled_member first) o) ≡ Some Open
      now None is = absurd cc
      now (Some m) is = refl

  -- it is at work as before
  pub settled_open : (u : ℕ) → is_working (member_of new u) ≡ is_working (member_of old u)
  settled_open u = ap is_working (changed u) ∙ go (u == t) refl
    where
      works : (o : Option Member) → option_map (λ (m : Member). m.state) o ≡ Some (Returning first) → is_working (option_map (settled_member first) o) ≡ is_working o
      works None is = refl
      works (Some m) is = let state : m.state ≡ Returning first = cc in sym (ap is_at_work state)

      go : (c : Bool) → (u == t) ≡ c → is_working (cond c (option_map (settled_member first) (member_of old t)) (member_of old u)) ≡ is_working (member_of old u)
      go true is = works (member_of old t) returning ∙ ap (λ (v : ℕ). is_working (member_of old v)) (sym (eqb-true u t is))
      go false is = refl

  pub settled_commits : (u : ℕ) → (state_in old u ≡ Some Committing → state_in new u ≡ Some Committing) × (state_in new u ≡ Some Committing → state_in old u ≡ Some Committing)
  settled_commits u = go (u == t) refl
    where
      go : (c : Bool) → (u == t) ≡ c → (state_in old u ≡ Some Committing → state_in new u ≡ Some Committing) × (state_in new u ≡ Some Committing → state_in old u ≡ Some Committing)
      go true is =
          let was : state_in old u ≡ Some (Returning first) = ap (state_in old) (eqb-true u t is) ∙ returning in
          let now : state_in new u ≡ Some Open = settled_states u ∙ ap (λ (c : Bool). cond c (Some Open) (state_in old u)) is in
          ((λ h. absurd (let no : Some (Returning first) ≡ Some Committing = sym was ∙ h in cc)), (λ h. absurd (let no : Some Open ≡ Some Committing = sym now ∙ h in cc)))
      go false is =
          let same : state_in new u ≡ state_in old u = settled_states u ∙ ap (λ (c : Bool). cond c (Some Open) (state_in old u)) is in
          ((λ h. same ∙ h), (λ h. sym same ∙ h))

  -- it has its first so many, if it had as many
  pub settled_count : ((m : Member) → member_of old t ≡ Some m → first ≤ standing_count m.calls) → count_in new t ≡ Some first
  settled_count few = ap (option_map (λ (m : Member). standing_count m.calls)) (changed t ∙ put_own (member_of old) t (option_map (settled_member first) (member_of old t))) ∙ go (member_of old t) refl (lives (member_of old t) returning)
    where
      go : (o : Option Member) → member_of old t ≡ o → is_some o ≡ true → option_map (λ (m : Member). standing_count m.calls) (option_map (settled_member first) o) ≡ Some first
      go None at is = absurd cc
      go (Some m) at is = ap Some (settled_stand first m.calls (few m at))

  -- the numbers of what it did stay
  pub settled_num : did_after first (member_of old t) ≡ false → numbers_of (option_map (settled_member first) (member_of old t)) ≡ numbers_of (member_of old t)
  settled_num none = go (member_of old t) none returning
    where
      go : (o : Option Member) → did_after first o ≡ false → option_map (λ (m : Member). m.state) o ≡ Some (Returning first) → numbers_of (option_map (settled_member first) o) ≡ numbers_of o
      go None h is = refl
      go (Some m) h is = settled_numbers first m h (let state : m.state ≡ Returning first = cc in ap is_at_work state)

-- ---- the parts

module _ {D : Type 0} (g : Ghosts D) (origin : Origin) (base : Base) where
  pub settled_in : (k n : Core D) (t first : ℕ) → IsConsistent g origin base k → state_in k.live.members t ≡ Some (Returning first) → All (λ (q : OpScope). q.txn ≢ t) k.running.items
      → last_effect t (after_first t first k.live.standing) ≡ None → n.live.standing ≡ settle_after t first k.live.standing
      → IsChanged k.live.members n.live.members t (settled_member first) → n.live.begun ≡ k.live.begun → length n.live.members ≡ length k.live.members
      → IsIn g origin base (settled (state_of k base) t first) (record k { live = n.live })
  settled_in k n t first safe returning none nothing standing changed begun count =
      let fit = safe.fit in
      let z : Core D = record k { live = n.live } in
      let s : State = state_of k base in
      let f : Member → Member = settled_member first in
      let eased = settled_eased t first k.live.standing nothing in
      let idle : s.running t ≡ None = runs_none k.running.items t none in
      let state : settled s t first ≡ state_of z base = λ i. record {
        book = k.book.items;
        sessions = λ u. sym (changed_keeps (option_map (λ (m : Member). m.session)) f k.live.members n.live.members t (λ m. refl) changed u) i;
        next = sym begun i + 1;
        standing = sym standing i;
        running = running_in k.running.items;
        held = held_of k.locks;
        pending = k.escrow.pending;
        aside = k.escrow.aside;
        base = base;
      } in
      let claims = safe.claims in let reserves = fit.reserves in
      let sum_pages : sum_by entry_pages n.live.standing ≡ sum_by entry_pages k.live.standing = ap (sum_by entry_pages) standing ∙ eased_weighs _ k.live.standing (settle_after t first k.live.standing) eased in
      let sum_bytes : sum_by entry_bytes n.live.standing ≡ sum_by entry_bytes k.live.standing = ap (sum_by entry_bytes) standing ∙ eased_weighs _ k.live.standing (settle_after t first k.live.standing) eased in
      record {
        consistent = record {
          fit = record {
            schema = fit.schema;
            right = fit.right;
            kept = subst (IsKept origin.first) state (kept_settled origin.first s t first fit.kept idle nothing);
            owned = λ i d lt. let q : OpScope = get_or k.running.items i d in
                owned_as k.live.members n.live.members k.live.standing n.live.standing q (changed_other f k.live.members n.live.members t changed q.txn (none i d lt))
                (ap (last_effect q.txn) standing ∙ eased_last q.txn k.live.standing (settle_after t first k.live.standing) eased) (fit.owned i d lt);
            apart = fit.apart;
            numbered = subst (λ (m : ℕ). IsNumbered k.last m n.live.members k.operations.locks (appended k.operations.store.log)) (sym begun)
                (numbered_members g origin base k.last k.live.begun k.live.members n.live.members k.operations.locks (appended k.operations.store.log) (settled_open k.live.members n.live.members t first returning changed) (changed_keeps is_some f k.live.members n.live.members t (λ m. refl) changed 0) fit.numbered);
            locked = fit.locked;
            small = subst (All (IsWithinSchema origin)) (sym standing) (eased_all (IsWithinSchema origin) (λ e within. record { op = within.op; reply = within.reply }) k.live.standing (settle_after t first k.live.standing) eased fit.small);
            log = fit.log;
            reserves = omega arith;
            numbers = subst (λ (m : ℕ). AreLeft k.last m k.reserved) (sym begun) fit.numbers;
            queued = queued_members k.live.members n.live.members (appended k.operations.store.log) k.commits.items (λ u. (settled_commits k.live.members n.live.members t first returning changed u).0) (λ u. (settled_commits k.live.members n.live.members t first returning changed u).1) fit.queued;
            booked = fit.booked;
            escrowed = fit.escrowed;
          };
          holds = safe.holds;
          runs = safe.runs;
          outcome = reported_changed k.last (appended k.operations.store.log) (appended k.operations.store.log) k.live.members n.live.members t f (λ m is was. reported_settled k.last (appended k.operations.store.log) t first m was) (λ u m apart was. was) changed safe.outcome;
          claims = omega arith;
        };
        state = state;
      }
