-- A transaction that begins, and one whose state is set.
use Rattle.std.proofs.Common.{◌≡◌, ◌≢◌, ℕ, ◌<◌, ◌+◌, ◌^◌, ◌==◌, cond, Bool, true, false, List, length, get_or, Option, Some, None, refl, sym, ap, ◌∙◌, subst, arith}
use Rattle.std.specs.Prelude.{All, is_some}
use Rattle.std.specs.Option.{option_map}
use Rattle.std.proofs.lemmas.Bool.{eq-eqb, eqb-true}
use Rattle.mt_disk.specs.declared.device.Device.{Ghosts}
use Rattle.mt_area_rules.specs.History.{some_record, ends_txn}
use Rattle.mt_live.proofs.Keeping.{kept_begun}
use Rattle.mt_live.specs.Lives.{calls_in, member_of, has_room, IsChanged, IsAbove}
use Rattle.mt_live.specs.Machine.{State, put, IsKept, begun}
use Rattle.mt_live.specs.Members.{Member, with_room}
use Rattle.mt_live.specs.Members as members
use Rattle.mt_live.specs.Members.{forward_count, last_operation, last_place, noted_after}
use Rattle.mt_live.specs.Undoing.{last_effect}
use Rattle.std.specs.List.{sum_by}
use Rattle.mt_log.specs.Words.{appended, used, area_size}
use Rattle.mt_model.specs.Model.{Base}
use Rattle.mt_slock.specs.Views.{held_of}
use Rattle.mt_live.specs.declared.transactions.TxnState.TheVariants.{Open, Committing, Returning, Aborting}
use Rattle.mt_live.specs.declared.transactions.TxnState.{TxnState}
use Rattle.mt_core.specs.Runs.{running_in, is_at_work, is_returning, did_after, entry_pages, entry_bytes, is_working, is_undoing}
use Rattle.mt_op.specs.World.{left_of}
use Rattle.mt_core.specs.Consistent.{Origin, state_of, state_in, AreLeft, IsNumbered, IsReported, IsWithinSchema, IsConsistent, IsIn}
use Rattle.mt_core.specs.declared.parts.Core.{Core}
use Rattle.mt_op.specs.declared.scope.OpScope.{OpScope}
use Rattle.mt_live.proofs.Alone.{put_other}
use Rattle.mt_core.proofs.Members.{changed_keeps, owned_as, states_set}
use Rattle.mt_core.proofs.Reported.{reported_fresh, reported_put, reported_changed}
use Rattle.mt_core.proofs.Queued.{queued_members}

fresh_session : (f : ℕ → Option Member) (t session u : ℕ) → option_map (λ (m : Member). m.session) (put f t (Some (members.fresh t session)) u) ≡ put (λ (v : ℕ). option_map (λ (m : Member). m.session) (f v)) t (Some session) u
fresh_session f t session u = go (u == t)
  where
    go : (c : Bool) → option_map (λ (m : Member). m.session) (cond c (Some (members.fresh t session)) (f u)) ≡ cond c (Some session) (option_map (λ (m : Member). m.session) (f u))
    go true = refl
    go false = refl

-- one that is at work, and goes on to a state of such, is at work as before
pub reopened : (old new : List Member) (t : ℕ) (state : TxnState) → is_working (member_of old t) ≡ true → is_at_work state ≡ true → IsChanged old new t (λ m. members.with_state m state) → (u : ℕ) → is_working (member_of new u) ≡ is_working (member_of old u)
reopened old new t state was works changed u = ap is_working (changed u) ∙ go (u == t) refl
  where
    opened : (o : Option Member) → is_working o ≡ true → is_working (option_map (λ (m : Member). members.with_state m state) o) ≡ is_working o
    opened None is = absurd cc
    opened (Some m) is = works ∙ sym is

    go : (c : Bool) → (u == t) ≡ c → is_working (cond c (option_map (λ (m : Member). members.with_state m state) (member_of old t)) (member_of old u)) ≡ is_working (member_of old u)
    go true is = opened (member_of old t) was ∙ ap (λ (v : ℕ). is_working (member_of old v)) (sym (eqb-true u t is))
    go false is = refl

-- one that is at work lives
pub there_open : (o : Option Member) → is_working o ≡ true → is_some o ≡ true
there_open None is = absurd cc
there_open (Some m) is = refl

roomier : (old new : List Member) (t : ℕ) → IsChanged old new t members.with_room → (u : ℕ) → has_room (member_of old u) ≡ true → has_room (member_of new u) ≡ true
roomier old new t changed u h = ap has_room (changed u) ∙ go (u == t) refl
  where
    mapped : (o : Option Member) → has_room o ≡ true → has_room (option_map members.with_room o) ≡ true
    mapped None is = absurd cc
    mapped (Some m) is = refl

    go : (c : Bool) → (u == t) ≡ c → has_room (cond c (option_map members.with_room (member_of old t)) (member_of old u)) ≡ true
    go true is = mapped (member_of old t) (ap (λ (v : ℕ). has_room (member_of old v)) (sym (eqb-true u t is)) ∙ h)
    go false is = h

-- its numbers are those that it had
changed_above : (f : Member → Member) (old new : List Member) (t u number : ℕ) → ((m : Member) → (f m).operations ≡ m.operations) → IsChanged old new t f → IsAbove number (member_of old u) → IsAbove number (member_of new u)
changed_above f old new t u number same changed above = subst (IsAbove number) (sym (changed u)) (go (u == t) refl)
  where
    mapped : (o : Option Member) → IsAbove number o → IsAbove number (option_map f o)
    mapped None k = tt
    mapped (Some m) k = subst (All (λ x. x < number)) (sym (same m)) k

    go : (c : Bool) → (u == t) ≡ c → IsAbove number (cond c (option_map f (member_of old t)) (member_of old u))
    go true is = mapped (member_of old t) (subst (λ (v : ℕ). IsAbove number (member_of old v)) (eqb-true u t is) above)
    go false is = above

-- ---- states

-- who commits does so before and after, who is undone stays so, and who goes back goes on to what it went to
pub record StatesGoOn (old new : Option TxnState) : Type 0 where
  pub commits : old ≡ Some Committing → new ≡ Some Committing
  pub committed : new ≡ Some Committing → old ≡ Some Committing
  pub aborts : old ≡ Some Aborting → new ≡ Some Aborting
  pub backwards : is_undoing old ≡ true → is_undoing new ≡ true
  pub returns : is_undoing old ≡ true → (first : ℕ) → new ≡ Some (Returning first) → old ≡ Some (Returning first)

pub same_goes : (old new : Option TxnState) → new ≡ old → StatesGoOn old new
same_goes old new same = record {
  commits = λ is. same ∙ is;
  committed = λ is. sym same ∙ is;
  aborts = λ is. same ∙ is;
  backwards = λ is. ap is_undoing same ∙ is;
  returns = λ back first is. sym same ∙ is;
}

-- to this state of one that is at work
pub record GoesOnTo (old : Option TxnState) (state : TxnState) : Type 0 where
  pub aborts : old ≡ Some Aborting → state ≡ Aborting
  pub backwards : is_undoing old ≡ true → is_undoing (Some state) ≡ true
  pub returns : is_undoing old ≡ true → (first : ℕ) → state ≡ Returning first → old ≡ Some (Returning first)

pub aborting_goes : (old : Option TxnState) → GoesOnTo old Aborting
aborting_goes old = record { aborts = λ is. refl; backwards = λ is. refl; returns = λ back first is. absurd cc }

pub returning_goes : (old : Option TxnState) (first : ℕ) → old ≡ Some Open → GoesOnTo old (Returning first)
returning_goes old first opened = record {
  aborts = λ is. absurd (let now : Some Open ≡ Some Aborting = sym opened ∙ is in cc);
  backwards = λ is. refl;
  returns = λ back other is. absurd (let not : is_undoing old ≡ false = ap is_undoing opened in cc);
}

module _ {D : Type 0} (g : Ghosts D) (origin : Origin) (base : Base) where
  pub begun_in : (k n : Core D) (t session : ℕ) → IsConsistent g origin base k → k.live.begun < 2 ^ 40 → t ≡ k.live.begun + 1 → n.live.begun ≡ k.live.begun + 1 → member_of k.live.members t ≡ None
      → ((u : ℕ) → member_of n.live.members u ≡ put (member_of k.live.members) t (Some (members.fresh t session)) u) → n.live.standing ≡ k.live.standing → length n.live.members ≡ length k.live.members + 1
      → n.reserved ≡ k.reserved + 128 → used k.operations.store.log + sum_by left_of k.running.items + n.reserved < area_size k.operations.store.log
      → IsIn g origin base (begun (state_of k base) session) (record k { live = n.live; reserved = n.reserved })
  begun_in k n t session safe few number more none new standing count reserved log =
      let fit = safe.fit in
      let z : Core D = record k { live = n.live; reserved = n.reserved } in
      let s : State = state_of k base in
      let state : begun s session ≡ state_of z base = λ i. record {
        book = k.book.items;
        sessions = λ u. ((λ j. put s.sessions (sym number j) (Some session) u) ∙ sym (fresh_session (member_of k.live.members) t session u) ∙ ap (option_map (λ (m : Member). m.session)) (sym (new u))) i;
        next = sym more i + 1;
        standing = sym standing i;
        running = running_in k.running.items;
        held = held_of k.locks;
        pending = k.escrow.pending;
        aside = k.escrow.aside;
        base = base;
      } in
      let other : (i : ℕ) (d : OpScope) → i < length k.running.items → member_of n.live.members (get_or k.running.items i d).txn ≡ member_of k.live.members (get_or k.running.items i d).txn =
      λ i d lt. new (get_or k.running.items i d).txn ∙ put_other (member_of k.live.members) t (Some (members.fresh t session)) (get_or k.running.items i d).txn
      (λ is. let at_work = (fit.owned i d lt).at_work in let here : is_working (member_of k.live.members (get_or k.running.items i d).txn) ≡ false = ap (λ (u : ℕ). is_working (member_of k.live.members u)) is ∙ ap is_working none in absurd cc) in
      let claims = safe.claims in let reserves = fit.reserves in
      let sum_pages = ap (sum_by entry_pages) standing in let sum_bytes = ap (sum_by entry_bytes) standing in
      record {
        consistent = record {
          fit = record {
            schema = fit.schema;
            right = fit.right;
            kept = subst (IsKept origin.first) state (kept_begun origin.first s session fit.kept);
            owned = λ i d lt. owned_as k.live.members n.live.members k.live.standing n.live.standing (get_or k.running.items i d) (other i d lt) (ap (last_effect (get_or k.running.items i d).txn) standing) (fit.owned i d lt);
            apart = fit.apart;
            numbered = subst (λ (m : ℕ). IsNumbered k.last m n.live.members k.operations.locks (appended k.operations.store.log)) (sym more) (record {
              locks = fit.numbered.locks;
              ops = fit.numbered.ops;
              txns = λ u is. go u (u == t) refl (sym (ap is_working (new u)) ∙ is);
              coming = λ u above. fit.numbered.coming u (omega (arith, above));
              few_operations = fit.numbered.few_operations;
              few_transactions = omega (arith, few);
              nobody = ap is_some (new 0 ∙ put_other (member_of k.live.members) t (Some (members.fresh t session)) 0 (λ is. absurd (omega (arith, is, number)))) ∙ fit.numbered.nobody;
            });
            locked = fit.locked;
            small = subst (All (IsWithinSchema origin)) (sym standing) fit.small;
            log = log;
            reserves = omega arith;
            numbers = let left = fit.numbers in omega (arith, left, more, reserved);
            queued = queued_members k.live.members n.live.members (appended k.operations.store.log) k.commits.items (λ u is. states u (u == t) refl is) (λ u is. stated u (u == t) refl is) fit.queued;
            booked = fit.booked;
            escrowed = fit.escrowed;
          };
          holds = safe.holds;
          runs = safe.runs;
          outcome = reported_put k.last (appended k.operations.store.log) k.live.members n.live.members t (Some (members.fresh t session)) (λ m is. subst (IsReported k.last (appended k.operations.store.log) t) (some_same is) (reported_fresh k.last (appended k.operations.store.log) t t session)) new safe.outcome;
          claims = omega arith;
        };
        state = state;
      }
    where
      go : (u : ℕ) (c : Bool) → (u == t) ≡ c → is_working (cond c (Some (members.fresh t session)) (member_of k.live.members u)) ≡ true → some_record (ends_txn u) (appended k.operations.store.log) ≡ false
      go u true is h = safe.fit.numbered.coming u (let same : u ≡ t = eqb-true u t is in omega (arith, same, number))
      go u false is h = safe.fit.numbered.txns u h

      some_same : {m : Member} → ◌≡◌ {A = Option Member} (Some (members.fresh t session)) (Some m) → members.fresh t session ≡ m
      some_same is = cc

      states : (u : ℕ) (c : Bool) → (u == t) ≡ c → state_in k.live.members u ≡ Some Committing → state_in n.live.members u ≡ Some Committing
      states u true is h = let gone : state_in k.live.members u ≡ None = ap (λ (v : ℕ). state_in k.live.members v) (eqb-true u t is) ∙ ap (option_map (λ (m : Member). m.state)) none in absurd cc
      states u false is h = ap (option_map (λ (m : Member). m.state)) (new u) ∙ (rw is h)

      stated : (u : ℕ) (c : Bool) → (u == t) ≡ c → state_in n.live.members u ≡ Some Committing → state_in k.live.members u ≡ Some Committing
      stated u true is h = let here : option_map (λ (m : Member). m.state) (put (member_of k.live.members) t (Some (members.fresh t session)) u) ≡ Some Open = rw is refl in let was : state_in n.live.members u ≡ Some Open = ap (option_map (λ (m : Member). m.state)) (new u) ∙ here in absurd cc
      stated u false is h = let here : option_map (λ (m : Member). m.state) (put (member_of k.live.members) t (Some (members.fresh t session)) u) ≡ state_in k.live.members u = rw is refl in sym here ∙ sym (ap (option_map (λ (m : Member). m.state)) (new u)) ∙ h

  -- one that is changed, stays at work and keeps its calls, with what it has of room or more
  pub changed_in : (k n : Core D) (t : ℕ) (f : Member → Member) → IsConsistent g origin base k → IsChanged k.live.members n.live.members t f → n.live.begun ≡ k.live.begun → n.live.standing ≡ k.live.standing → length n.live.members ≡ length k.live.members
      → ((m : Member) → (f m).session ≡ m.session) → ((m : Member) → member_of k.live.members t ≡ Some m → IsReported k.last (appended k.operations.store.log) t m → IsReported k.last (appended k.operations.store.log) t (f m)) → ((m : Member) → (f m).calls ≡ m.calls) → ((m : Member) → (f m).operations ≡ m.operations)
      → ((u : ℕ) → is_working (member_of n.live.members u) ≡ is_working (member_of k.live.members u)) → ((u : ℕ) → has_room (member_of k.live.members u) ≡ true → has_room (member_of n.live.members u) ≡ true) → ((u : ℕ) → StatesGoOn (state_in k.live.members u) (state_in n.live.members u))
      → ((i : ℕ) (d : OpScope) → i < length k.running.items → is_returning (state_in k.live.members (get_or k.running.items i d).txn) ≡ false → is_returning (state_in n.live.members (get_or k.running.items i d).txn) ≡ false)
      → IsIn g origin base (state_of k base) (record k { live = n.live })
  changed_in k n t f safe changed begun_same standing count session outcome same_calls same_operations open_same roomy states forwards =
      let fit = safe.fit in
      let z : Core D = record k { live = n.live } in
      let state : state_of k base ≡ state_of z base = λ i. record {
        book = k.book.items;
        sessions = λ u. sym (changed_keeps (option_map (λ (m : Member). m.session)) f k.live.members n.live.members t (λ m. ap Some (session m)) changed u) i;
        next = sym begun_same i + 1;
        standing = sym standing i;
        running = running_in k.running.items;
        held = held_of k.locks;
        pending = k.escrow.pending;
        aside = k.escrow.aside;
        base = base;
      } in
      let claims = safe.claims in let reserves = fit.reserves in
      let sum_pages = ap (sum_by entry_pages) standing in let sum_bytes = ap (sum_by entry_bytes) standing in
      record {
        consistent = record {
          fit = record {
            schema = fit.schema;
            right = fit.right;
            kept = subst (IsKept origin.first) state fit.kept;
            owned = λ i d lt. let o = fit.owned i d lt in let u = (get_or k.running.items i d).txn in record {
              at_work = open_same u ∙ o.at_work;
              room = λ fore. roomy u (o.room fore);
              inverse = λ back. let e = o.inverse back in record { named = changed_keeps last_operation f k.live.members n.live.members t (λ m. (λ j. option_map (λ at. get_or (same_operations m j) at 0) (last_place (same_calls m j)))) changed u ∙ e.named; entry = e.entry; last = ap (last_effect u) standing ∙ e.last; inverse = e.inverse; unsplit = e.unsplit };
              newest = λ fore. changed_above f k.live.members n.live.members t u (get_or k.running.items i d).number same_operations changed (o.newest fore);
              few = λ fore. subst (λ (n : ℕ). n < 256) (sym (changed_keeps (λ (o : Option Member). forward_count (calls_in o)) f k.live.members n.live.members t (λ m. ap forward_count (same_calls m)) changed u)) (o.few fore);
              taken = λ is. let back = o.taken is in (back.0, (states u).aborts back.1);
              forwards = λ fore. forwards i d lt (o.forwards fore);
              backwards = λ back. (states u).backwards (o.backwards back);
              returns = λ back first is. let was = o.returns back first ((states u).returns (o.backwards back) first is) in record {
                room = roomy u was.room;
                newest = changed_above f k.live.members n.live.members t u (get_or k.running.items i d).number same_operations changed was.newest;
                after = changed_keeps (did_after first) f k.live.members n.live.members t (λ m. ap (λ cs. is_some (last_place (noted_after first cs))) (same_calls m)) changed u ∙ was.after;
              };
            };
            apart = fit.apart;
            numbered = subst (λ (m : ℕ). IsNumbered k.last m n.live.members k.operations.locks (appended k.operations.store.log)) (sym begun_same) (record {
              locks = fit.numbered.locks;
              ops = fit.numbered.ops;
              txns = λ u is. fit.numbered.txns u (sym (open_same u) ∙ is);
              coming = fit.numbered.coming;
              few_operations = fit.numbered.few_operations;
              few_transactions = fit.numbered.few_transactions;
              nobody = changed_keeps is_some f k.live.members n.live.members t (λ m. refl) changed 0 ∙ fit.numbered.nobody;
            });
            locked = fit.locked;
            small = subst (All (IsWithinSchema origin)) (sym standing) fit.small;
            log = fit.log;
            reserves = omega arith;
            numbers = subst (λ (m : ℕ). AreLeft k.last m k.reserved) (sym begun_same) fit.numbers;
            queued = queued_members k.live.members n.live.members (appended k.operations.store.log) k.commits.items (λ u is. (states u).commits is) (λ u is. (states u).committed is) fit.queued;
            booked = fit.booked;
            escrowed = fit.escrowed;
          };
          holds = safe.holds;
          runs = safe.runs;
          outcome = reported_changed k.last (appended k.operations.store.log) (appended k.operations.store.log) k.live.members n.live.members t f (λ m is was. outcome m is was) (λ u m apart was. was) changed safe.outcome;
          claims = omega arith;
        };
        state = state;
      }

  -- there is room for the end of one more of its operations
  pub roomed_in : (k n : Core D) (t : ℕ) → IsConsistent g origin base k → IsChanged k.live.members n.live.members t members.with_room → n.live.begun ≡ k.live.begun → n.live.standing ≡ k.live.standing → length n.live.members ≡ length k.live.members
      → IsIn g origin base (state_of k base) (record k { live = n.live })
  roomed_in k n t safe changed begun_same standing count =
      let states : (u : ℕ) → state_in n.live.members u ≡ state_in k.live.members u = changed_keeps (option_map (λ (m : Member). m.state)) members.with_room k.live.members n.live.members t (λ m. refl) changed in
      changed_in k n t members.with_room safe changed begun_same standing count (λ m. refl) (λ m is outcome. record { many = outcome.many; numbers = outcome.numbers; rising = outcome.rising; due = outcome.due; firsts = outcome.firsts; few = outcome.few }) (λ m. refl) (λ m. refl)
      (changed_keeps is_working members.with_room k.live.members n.live.members t (λ m. refl) changed) (roomier k.live.members n.live.members t changed) (λ u. same_goes (state_in k.live.members u) (state_in n.live.members u) (states u))
      (λ i d lt is. ap is_returning (states (get_or k.running.items i d).txn) ∙ is)

-- one that is at work has it
pub roomed_open : (old new : List Member) (t : ℕ) → is_working (member_of old t) ≡ true → IsChanged old new t members.with_room → (is_working (member_of new t) ≡ true) × (has_room (member_of new t) ≡ true)
roomed_open old new t at_work changed = (changed_keeps is_working members.with_room old new t (λ m. refl) changed t ∙ at_work, ap has_room (changed t ∙ here) ∙ go (member_of old t) at_work)
  where
    here : put (member_of old) t (option_map members.with_room (member_of old t)) t ≡ option_map members.with_room (member_of old t)
    here = let same : (t == t) ≡ true = eq-eqb t t refl in rw same refl

    go : (o : Option Member) → is_working o ≡ true → has_room (option_map members.with_room o) ≡ true
    go None is = absurd cc
    go (Some m) is = refl

-- one that is to be undone does not go on
pub undone_forwards : (old new : List Member) (t u : ℕ) → is_some (member_of old t) ≡ true → IsChanged old new t (λ m. members.with_state m Aborting) → is_returning (state_in old u) ≡ false → is_returning (state_in new u) ≡ false
undone_forwards old new t u lives changed was = ap is_returning (states_set old new t Aborting lives changed u) ∙ go (u == t) refl
  where
    go : (c : Bool) → (u == t) ≡ c → is_returning (cond c (Some Aborting) (state_in old u)) ≡ false
    go true is = refl
    go false is = was

-- others go on as they did
pub other_forwards : (old new : List Member) (t u : ℕ) (state : TxnState) → is_some (member_of old t) ≡ true → IsChanged old new t (λ m. members.with_state m state) → u ≢ t → is_returning (state_in old u) ≡ false → is_returning (state_in new u) ≡ false
other_forwards old new t u state lives changed apart was = ap is_returning (states_set old new t state lives changed u ∙ put_other (state_in old) t (Some state) u apart) ∙ was

-- the states, if one that is at work goes on to a state of such
pub reopened_states : (old new : List Member) (t : ℕ) (state : TxnState) → is_working (member_of old t) ≡ true → is_at_work state ≡ true → GoesOnTo (state_in old t) state → IsChanged old new t (λ m. members.with_state m state) → (u : ℕ) → StatesGoOn (state_in old u) (state_in new u)
reopened_states old new t state was works goes changed u = go (u == t) refl
  where
    set : (v : ℕ) → state_in new v ≡ put (state_in old) t (Some state) v
    set v = states_set old new t state (there_open (member_of old t) was) changed v

    uncommitted : (o : Option Member) → is_working o ≡ true → option_map (λ (m : Member). m.state) o ≡ Some Committing → ⊥
    uncommitted None is h = absurd cc
    uncommitted (Some m) is h = let now : m.state ≡ Committing = cc in let works_not : is_at_work m.state ≡ false = ap is_at_work now in absurd cc

    no_commit : state ≡ Committing → ⊥
    no_commit is = let not : is_at_work state ≡ false = ap is_at_work is in absurd cc

    go : (c : Bool) → (u == t) ≡ c → StatesGoOn (state_in old u) (state_in new u)
    go true is =
        let own : u ≡ t = eqb-true u t is in
        let now : state_in new u ≡ Some state = set u ∙ ap (λ (c : Bool). cond c (Some state) (state_in old u)) is in
        let here : state_in old u ≡ state_in old t = ap (state_in old) own in
        record {
          commits = λ h. absurd (uncommitted (member_of old t) was (sym here ∙ h));
          committed = λ h. absurd (no_commit (let same : Some state ≡ Some Committing = sym now ∙ h in cc));
          aborts = λ h. now ∙ ap Some (goes.aborts (sym here ∙ h));
          backwards = λ h. ap is_undoing now ∙ goes.backwards (ap is_undoing (sym here) ∙ h);
          returns = λ back first h. here ∙ goes.returns (ap is_undoing (sym here) ∙ back) first (let same : Some state ≡ Some (Returning first) = sym now ∙ h in cc);
        }
    go false is = same_goes (state_in old u) (state_in new u) (set u ∙ ap (λ (c : Bool). cond c (Some state) (state_in old u)) is)
