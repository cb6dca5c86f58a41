-- What the end of an operation leaves of all.
use Rattle.std.proofs.Common.{◌≡◌, ◌≢◌, ℕ, ◌<◌, ◌+◌, ◌==◌, true, false, List, [], ◌∷◌, ◌++◌, length, get_or, Option, Some, None, refl, sym, ap, ◌∙◌, subst, arith}
use Rattle.std.specs.Prelude.{All, AllPairs, is_some, IfSome}
use Rattle.std.specs.List.{sum_by, remove}
use Rattle.std.specs.Option.{option_map}
use Rattle.std.proofs.lemmas.Bool.{eq-eqb, ne_eqb}
use Rattle.std.proofs.lemmas.List.{get_or_read}
use Rattle.std.proofs.lemmas.List.Elements.{All-push}
use Rattle.std.proofs.lemmas.List.Quantifiers.{all_pairs_remove}
use Rattle.std.proofs.lemmas.List.Sums.{sum_by-remove}
use Rattle.mt_disk.specs.declared.device.Device.{Ghosts}
use Rattle.mt_area_rules.specs.History.{some_record, undoes_op}
use Rattle.mt_live.proofs.Keeping.{kept_ended, kept_undone}
use Rattle.mt_live.proofs.Lasts.{last_within}
use Rattle.mt_live.specs.Adds.{GivesBack}
use Rattle.mt_live.specs.Entries.{Entry}
use Rattle.mt_live.specs.Lives.{calls_in, member_of, IsChanged, IsAbove}
use Rattle.mt_live.specs.Machine.{State, put, IsKept, ended, undone}
use Rattle.mt_live.specs.Members.{Member, forward_count, noted, with_call, taken_back, cut_to, last_place, last_operation, has_inverse}
use Rattle.mt_live.specs.Undoing.{cut_back}
use Rattle.mt_log.specs.Words.{appended, used, area_size}
use Rattle.mt_model.specs.declared.operations.Op.{Op}
use Rattle.mt_model.specs.declared.operations.Reply.{Reply}
use Rattle.mt_model.specs.declared.counters.Count.{Count}
use Rattle.mt_model.specs.Tables.{count_at}
use Rattle.mt_model.specs.Model.{Base, reply_of, base_after, inverse_of}
use Rattle.mt_op.proofs.Driving.{world_same}
use Rattle.mt_op.specs.Operations.{world, IsRight, claimed}
use Rattle.mt_op.specs.Records.{end_of}
use Rattle.mt_op.specs.World.{World, IsUnderWay, held_in}
use Rattle.mt_op.specs.declared.operations.Operations.{Operations}
use Rattle.mt_op.specs.declared.scope.OpScope.{OpScope}
use Rattle.mt_op.specs.declared.scope.Stage.{Stage}
use Rattle.mt_op.specs.declared.scope.Stage.TheVariants.{Ready}
use Rattle.mt_space.specs.Changes.{PageBytes}
use Rattle.mt_plock.specs.declared.guards.PageLock.{PageLock}
use Rattle.mt_frame.specs.declared.records.Record.{Record}
use Rattle.mt_model.specs.History.{Call}
use Rattle.mt_plock.specs.Releasing.{locks_without}
use Rattle.mt_slock.specs.Views.{held_of}
use Rattle.mt_steps.specs.Held.{Holds}
use Rattle.mt_steps.specs.Logged.{logged_of}
use Rattle.mt_steps.specs.Plans.{own_needs, undo_pages}
use Rattle.mt_core.specs.Runs.{running_in, AreApart, AreHeldBy, IsRunning, IsOwned, undo_bytes, pages_of, entry_pages, entry_bytes, kept_bytes, taken_bytes, is_working}
use Rattle.mt_op.specs.World.{left_of}
use Rattle.mt_core.specs.Consistent.{Origin, state_of, state_in, AreLeft, IsNumbered, IsDue, IsReported, AreReported, IsQueued, IsWithinSchema, IsFit, IsAlone, IsReady, IsIn, UndoesIn}
use Rattle.mt_core.specs.declared.parts.Core.{Core}
use Rattle.mt_pool.proofs.Logged.{no_records}
use Rattle.mt_core.proofs.Lists.{all_remove, pair_at}
use Rattle.mt_core.proofs.Underway.{apart_flip, running_at, running_remove, running_back, running_without}
use Rattle.mt_core.proofs.Holders.{held_without}
use Rattle.mt_core.proofs.Numbers.{numbered_without}
use Rattle.mt_core.proofs.Effects.{weighs_effect, last_push, last_cut, weighs_push, weighs_cut, weighs_less, inverse_pages, inverse_bytes, all_cut}
use Rattle.mt_core.proofs.Members.{changed_keeps, changed_other, owned_as}
use Rattle.mt_core.proofs.Reported.{due_more, some_back, end_undoes_fore, end_undoes_other, end_undoes_txn, end_finishes, reported_on_more, reported_call, reported_cut, reported_changed}
use Rattle.mt_core.proofs.Queued.{queued_members}
use Rattle.mt_core.proofs.Members.{backwards_aborting}
use Rattle.mt_live.specs.declared.transactions.Role.TheVariants.{Stands}
use Rattle.mt_live.specs.declared.transactions.TxnState.TheVariants.{Returning, Aborting}

-- what `end` says of an operation that ends
pub record HasEnded {D : Type 0} (g : Ghosts D) (opening : PageBytes) (relations counters : ℕ) (o n : Operations D) (s : OpScope) : Type 0 where
  pub right : IsRight g opening relations counters n
  pub held : held_in (world g opening n) ≡ held_in (world g opening o)
  pub others : (u : OpScope) → IsUnderWay relations counters (world g opening o) u → u.number ≢ s.number → IsUnderWay relations counters (world g opening n) u
  pub locks : n.locks ≡ locks_without s.number o.locks
  pub store : n.store ≡ o.store

-- claims that are given back then change nothing else
pub ended_given : {D : Type 0} (g : Ghosts D) (opening : PageBytes) (relations counters : ℕ) (o m n : Operations D) (s : OpScope) → HasEnded g opening relations counters o m s
    → IsRight g opening relations counters n → n.store ≡ m.store → n.locks ≡ m.locks → HasEnded g opening relations counters o n s
ended_given g opening relations counters o m n s h right store locks =
    let same : world g opening m ≡ world g opening n = world_same g m n opening store locks in
    record {
      right = right;
      held = ap held_in (sym same) ∙ h.held;
      others = λ u under apart. subst (λ (w : World). IsUnderWay relations counters w u) same (h.others u under apart);
      locks = locks ∙ h.locks;
      store = store ∙ h.store;
    }

module _ {D : Type 0} (g : Ghosts D) (origin : Origin) (base : Base) where
  -- what is left of the operations under way, whatever the end does to the transaction
  pub record Left (k n : Core D) (place : ℕ) (r : OpScope) : Type 0 where
    pub runs : All (IsRunning origin.relations origin.counters (world g origin.pages n.operations) k.last) n.running.items
    pub apart : AllPairs AreApart n.running.items
    pub numbered : IsNumbered k.last k.live.begun k.live.members n.operations.locks (appended n.operations.store.log)
    pub locked : AreHeldBy n.running.items n.operations.locks
    pub pages : sum_by pages_of n.running.items + pages_of r ≡ sum_by pages_of k.running.items
    pub keeps : sum_by kept_bytes n.running.items + kept_bytes r ≡ sum_by kept_bytes k.running.items
    pub takes : sum_by taken_bytes n.running.items + taken_bytes r ≡ sum_by taken_bytes k.running.items
    pub log : used n.operations.store.log + sum_by left_of n.running.items + k.reserved < area_size n.operations.store.log
    pub queued : IsQueued k.live.members (appended n.operations.store.log) k.commits.items

  pub other_at : (k : Core D) (place : ℕ) (r : OpScope) (stage : Stage) → IsFit g origin base k → IsAlone g origin k place r stage → (i : ℕ) (d : OpScope) → i < length k.running.items → i ≢ place → AreApart r (get_or k.running.items i d)
  other_at k place r stage fit y i d lt apart = subst (λ (x : OpScope). AreApart x (get_or k.running.items i d)) (sym (get_or_read k.running.items place r y.within y.there d)) (pair_at AreApart k.running.items apart_flip fit.apart place i d y.within lt apart)

  pub left : (k n : Core D) (place : ℕ) (r : OpScope) (stage : Stage) → IsFit g origin base k → IsAlone g origin k place r stage → n.running.items ≡ remove k.running.items place → HasEnded g origin.pages origin.relations origin.counters k.operations n.operations r → Left k n place r
  left k n place r stage fit y items h =
      let r_there : get_or k.running.items place r ≡ r = sym y.there in
      let pages = sum_by-remove pages_of k.running.items place r y.within in
      let lefts = sum_by-remove left_of k.running.items place r y.within in
      let keeps = sum_by-remove kept_bytes k.running.items place r y.within in
      let takes = sum_by-remove taken_bytes k.running.items place r y.within in
      let pages_r : pages_of (get_or k.running.items place r) ≡ pages_of r = ap pages_of r_there in
      let kept_r : kept_bytes (get_or k.running.items place r) ≡ kept_bytes r = ap kept_bytes r_there in
      let taken_r : taken_bytes (get_or k.running.items place r) ≡ taken_bytes r = ap taken_bytes r_there in
      let sum_pages : sum_by pages_of n.running.items ≡ sum_by pages_of (remove k.running.items place) = ap (sum_by pages_of) items in
      let sum_left : sum_by left_of n.running.items ≡ sum_by left_of (remove k.running.items place) = ap (sum_by left_of) items in
      let sum_kept : sum_by kept_bytes n.running.items ≡ sum_by kept_bytes (remove k.running.items place) = ap (sum_by kept_bytes) items in
      let sum_taken : sum_by taken_bytes n.running.items ≡ sum_by taken_bytes (remove k.running.items place) = ap (sum_by taken_bytes) items in
      let log = fit.log in
      let less : used k.operations.store.log + sum_by left_of n.running.items + k.reserved < area_size k.operations.store.log = omega arith in
      record {
        runs = subst (All (IsRunning origin.relations origin.counters (world g origin.pages n.operations) k.last)) (sym items)
            (all_remove (IsRunning origin.relations origin.counters (world g origin.pages n.operations) k.last) k.running.items place y.within (λ i d lt apart.
            let was = y.others i d lt apart in
            record { under = h.others (get_or k.running.items i d) was.under ((other_at k place r stage fit y i d lt apart).number); budget = was.budget; number = was.number; moving = was.moving }));
        apart = subst (AllPairs AreApart) (sym items) (all_pairs_remove AreApart k.running.items place y.within fit.apart);
        numbered = subst (λ (X : Type 0). X) (λ i. IsNumbered k.last k.live.begun k.live.members (sym h.locks i) (appended (sym h.store i).log)) (numbered_without k.last k.live.begun k.live.members r.number k.operations.locks (appended k.operations.store.log) fit.numbered);
        locked = subst (λ (X : Type 0). X) (λ i. AreHeldBy (sym items i) (sym h.locks i)) (held_without k.running.items place r k.operations.locks y.within y.there fit.locked);
        pages = omega arith;
        keeps = omega arith;
        takes = omega arith;
        log = subst (λ (X : Type 0). X) (λ i. used (sym h.store i).log + sum_by left_of n.running.items + k.reserved < area_size (sym h.store i).log) less;
        queued = subst (λ (X : Type 0). X) (λ i. IsQueued k.live.members (appended (sym h.store i).log) k.commits.items) fit.queued;
      }

  -- members that have changed, where no transaction is open that was not
  pub numbered_members : (last begun : ℕ) (ms new : List Member) (locks : List PageLock) (records : List Record) → ((t : ℕ) → is_working (member_of new t) ≡ is_working (member_of ms t)) → is_some (member_of new 0) ≡ is_some (member_of ms 0) → IsNumbered last begun ms locks records → IsNumbered last begun new locks records
  numbered_members last begun ms new locks records same nobody k = record { locks = k.locks; ops = k.ops; txns = λ t is. k.txns t (sym (same t) ∙ is); coming = k.coming; few_operations = k.few_operations; few_transactions = k.few_transactions; nobody = nobody ∙ k.nobody }

  -- ---- a forward operation

  noted_owned : (ms new : List Member) (standing : List Entry) (r q : OpScope) (c : Call) (e : Entry) → e.txn ≡ r.txn → AreApart r q → IsChanged ms new r.txn (λ m. with_call m r.number c)
      → IsOwned ms standing q → IsOwned new (standing ++ e ∷ []) q
  noted_owned ms new standing r q c e own apart changed o =
      owned_as ms new standing (standing ++ e ∷ []) q (changed_other (λ m. with_call m r.number c) ms new r.txn changed q.txn apart.txn) (last_push q.txn standing e (λ is. apart.txn (is ∙ own))) o

  pub noted_in : (k n : Core D) (place : ℕ) (r : OpScope) (reply : Reply) → IsReady g origin base k place r reply → r.undoes ≡ 0 → n.running.items ≡ remove k.running.items place
      → HasEnded g origin.pages origin.relations origin.counters k.operations n.operations r
      → claimed n.operations + undo_pages r.op ≡ claimed k.operations + entry_pages (record { txn = r.txn; op = r.op; reply = reply; role = Stands }) → n.reserved + undo_bytes r.op ≡ k.reserved + entry_bytes (record { txn = r.txn; op = r.op; reply = reply; role = Stands })
      → n.live.standing ≡ k.live.standing ++ record { txn = r.txn; op = r.op; reply = reply; role = Stands } ∷ []
      → IsChanged k.live.members n.live.members r.txn (λ m. with_call m r.number (r.op, reply)) → n.live.begun ≡ k.live.begun → length n.live.members ≡ length k.live.members
      → IsIn g origin (base_after base r.op) (ended (state_of k base) r.txn r.op) (record k { operations = n.operations; running = n.running; live = n.live; reserved = n.reserved })
  noted_in k n place r reply y fore items h claims_now reserves_now standing changed begun count =
      let fit = y.fit in let alone = y.alone in
      let z : Core D = record k { operations = n.operations; running = n.running; live = n.live; reserved = n.reserved } in
      let s : State = state_of k base in
      let e : Entry = record { txn = r.txn; op = r.op; reply = reply; role = Stands } in
      let owned : IsOwned k.live.members k.live.standing r = subst (IsOwned k.live.members k.live.standing) (sym alone.there) (fit.owned place r alone.within) in
      let runs : s.running r.txn ≡ Some r.op = running_at k.running.items place r alone.within alone.there fore fit.apart in
      let l = left k n place r Ready fit alone items h in
      let sessions : (t : ℕ) → option_map (λ (m : Member). m.session) (member_of n.live.members t) ≡ option_map (λ (m : Member). m.session) (member_of k.live.members t) =
      changed_keeps (option_map (λ (m : Member). m.session)) (λ m. with_call m r.number (r.op, reply)) k.live.members n.live.members r.txn (λ m. refl) changed in
      let open_same : (t : ℕ) → is_working (member_of n.live.members t) ≡ is_working (member_of k.live.members t) = changed_keeps is_working (λ m. with_call m r.number (r.op, reply)) k.live.members n.live.members r.txn (λ m. refl) changed in
      let states : (t : ℕ) → state_in n.live.members t ≡ state_in k.live.members t = changed_keeps (option_map (λ (m : Member). m.state)) (λ m. with_call m r.number (r.op, reply)) k.live.members n.live.members r.txn (λ m. refl) changed in
      let stands : k.live.standing ++ record { txn = r.txn; op = r.op; reply = reply_of base r.op; role = Stands } ∷ [] ≡ n.live.standing =
      (λ i. k.live.standing ++ record { txn = r.txn; op = r.op; reply = y.replies i; role = Stands } ∷ []) ∙ sym standing in
      let gone : (t : ℕ) → put (running_in k.running.items) r.txn None t ≡ running_in n.running.items t =
      λ t. sym (running_remove k.running.items place r alone.within alone.there fore fit.apart t) ∙ ap (λ (rs : List OpScope). running_in rs t) (sym items) in
      let state : ended s r.txn r.op ≡ state_of z (base_after base r.op) = λ i. record {
        book = k.book.items;
        sessions = λ t. sym (sessions t) i;
        next = sym begun i + 1;
        standing = stands i;
        running = λ t. gone t i;
        held = held_of k.locks;
        pending = k.escrow.pending;
        aside = k.escrow.aside;
        base = base_after base r.op;
      } in
      let pages = l.pages in let keeps = l.keeps in let takes = l.takes in
      let test : (r.undoes == 0) ≡ true = eq-eqb r.undoes 0 fore in
      let pages_r : pages_of r ≡ own_needs r.op r.split + undo_pages r.op = rw test refl in
      let kept_r : kept_bytes r ≡ undo_bytes r.op = rw test refl in
      let taken_r : taken_bytes r ≡ 0 = rw test refl in
      let more_pages = weighs_push undo_pages k.live.standing e in
      let more_bytes = weighs_push undo_bytes k.live.standing e in
      let less_bytes = weighs_less undo_bytes e in
      let copied : undo_bytes e.op ≡ undo_bytes r.op = refl in
      let sum_pages : sum_by entry_pages n.live.standing ≡ sum_by entry_pages (k.live.standing ++ e ∷ []) = ap (sum_by entry_pages) standing in
      let sum_bytes : sum_by entry_bytes n.live.standing ≡ sum_by entry_bytes (k.live.standing ++ e ∷ []) = ap (sum_by entry_bytes) standing in
      let claims = y.claims in let reserves = fit.reserves in let log = l.log in
      record {
        consistent = record {
          fit = record {
            schema = fit.schema;
            right = h.right;
            kept = subst (IsKept origin.first) state (kept_ended origin.first s r.txn r.op fit.kept runs);
            owned = subst (λ (X : Type 0). X) (λ i. All (IsOwned n.live.members (sym standing i)) (sym items i))
                (all_remove (IsOwned n.live.members (k.live.standing ++ e ∷ [])) k.running.items place alone.within (λ i d lt apart.
                noted_owned k.live.members n.live.members k.live.standing r (get_or k.running.items i d) (r.op, reply) e refl (other_at k place r Ready fit alone i d lt apart) changed (fit.owned i d lt)));
            apart = l.apart;
            numbered = subst (λ (m : ℕ). IsNumbered k.last m n.live.members n.operations.locks (appended n.operations.store.log)) (sym begun)
                (numbered_members k.last k.live.begun k.live.members n.live.members n.operations.locks (appended n.operations.store.log) open_same (changed_keeps is_some (λ m. with_call m r.number (r.op, reply)) k.live.members n.live.members r.txn (λ m. refl) changed 0) l.numbered);
            locked = l.locked;
            small = subst (All (IsWithinSchema origin)) (sym standing) (All-push (IsWithinSchema origin) k.live.standing e fit.small (record { op = alone.own.within; reply = y.small }));
            log = omega arith;
            reserves = omega arith;
            numbers = let left_now = fit.numbers in omega (arith, left_now, begun, reserves_now, less_bytes, copied);
            queued = queued_members k.live.members n.live.members (appended n.operations.store.log) k.commits.items (λ t is. states t ∙ is) (λ t is. sym (states t) ∙ is) l.queued;
            booked = fit.booked;
            escrowed = fit.escrowed;
          };
          holds = subst (λ (p : PageBytes). Holds p (base_after base r.op)) (sym h.held) y.holds;
          runs = l.runs;
          outcome = reported_of owned;
          claims = omega arith;
        };
        state = state;
      }
    where
      reported_of : IsOwned k.live.members k.live.standing r → AreReported k.last n.live.members (appended n.operations.store.log)
      reported_of owned =
          let t = y.outcome in
          let records : t.was ++ end_of r reply ≡ appended n.operations.store.log = sym t.ended ∙ (λ i. appended (sym h.store i).log) in
          let none : (u v : ℕ) → some_record (undoes_op u v) (end_of r reply) ≡ false = λ u v. end_undoes_fore u v r.txn r.number r.undoes (logged_of r.op reply) fore in
          let due : has_inverse (noted Stands (r.op, reply)) ≡ true → IsDue (t.was ++ end_of r reply) r.txn r.number = λ has. record {
            ended = some_back _ t.was (end_of r reply) (end_finishes r.txn r.number r.undoes r.op reply fore has);
            standing = no_records (undoes_op r.txn r.number) t.was (end_of r reply) (t.standing fore) (none r.txn r.number);
          } in
          subst (AreReported k.last n.live.members) records
          (reported_changed k.last t.was (t.was ++ end_of r reply) k.live.members n.live.members r.txn (λ m. with_call m r.number (r.op, reply))
          (λ m is was. reported_call k.last (t.was ++ end_of r reply) r.txn r.number m (noted Stands (r.op, reply)) (reported_on_more k.last t.was (end_of r reply) r.txn m (none r.txn) was) (subst (IsAbove r.number) is (owned.newest fore)) y.alone.own.op.0 y.alone.known (subst (λ (o : Option Member). forward_count (calls_in o) < 256) is (owned.few fore)) due)
          (λ u m apart was. reported_on_more k.last t.was (end_of r reply) u m (none u) was) changed t.outcome)

  -- ---- an inverse

  cut_keeps : {B : Type 0} (h : Option Member → B) → ((m : Member) (n : ℕ) → h (Some (cut_to m (Some n))) ≡ h (Some m)) → (m : Member) (o : Option ℕ) → h (Some (cut_to m o)) ≡ h (Some m)
  cut_keeps h same m None = refl
  cut_keeps h same m (Some n) = same m n

  undone_owned : (ms new : List Member) (standing : List Entry) (r q : OpScope) → AreApart r q → IsChanged ms new r.txn taken_back → IsOwned ms standing q → IsOwned new (cut_back r.txn standing) q
  undone_owned ms new standing r q apart changed o =
      owned_as ms new standing (cut_back r.txn standing) q (changed_other taken_back ms new r.txn changed q.txn apart.txn) (last_cut q.txn r.txn standing apart.txn) o

  -- the calls that are left were recorded before the inverse's end, and it takes none of them back
  undone_reported : (last : ℕ) (was more : List Record) (t undoes : ℕ) (m : Member) → m.state ≡ Aborting → last_operation (Some m) ≡ Some undoes → ((n : ℕ) → undoes ≢ n → some_record (undoes_op t n) more ≡ false) → IsReported last was t m → IsReported last (was ++ more) t (taken_back m)
  undone_reported last was more t undoes m aborting named none outcome = go (last_place m.calls) refl named
    where
      go : (o : Option ℕ) → last_place m.calls ≡ o → option_map (λ i. get_or m.operations i 0) o ≡ Some undoes → IsReported last (was ++ more) t (cut_to m o)
      go None at k = absurd cc
      go (Some n) at k =
          let this : get_or m.operations n 0 ≡ undoes = cc in
          let within : n < length m.calls = subst (λ o. IfSome o (λ i. i < length m.calls)) at (last_within m.calls) in
          reported_cut last was (was ++ more) t n m aborting outcome within (λ i below due. due_more t (get_or m.operations i 0) was more (none (get_or m.operations i 0) (λ is. absurd (omega (arith, is, this, below)))) due)

  pub undone_in : (k n : Core D) (place : ℕ) (r : OpScope) (reply : Reply) → IsReady g origin base k place r reply → r.undoes ≢ 0 → ((first : ℕ) → state_in k.live.members r.txn ≢ Some (Returning first)) → n.running.items ≡ remove k.running.items place
      → HasEnded g origin.pages origin.relations origin.counters k.operations n.operations r → claimed n.operations ≡ claimed k.operations
      → n.live.standing ≡ cut_back r.txn k.live.standing → IsChanged k.live.members n.live.members r.txn taken_back → n.live.begun ≡ k.live.begun → length n.live.members ≡ length k.live.members
      → ((o : Op) (u : Reply) → inverse_of o u ≡ Some r.op → GivesBack r.txn o k.escrow.pending n.escrow.pending) → n.escrow.committed ≡ k.escrow.committed → n.escrow.aside ≡ k.escrow.aside
      → UndoesIn g origin base (state_of k base) (record k { operations = n.operations; running = n.running; live = n.live; escrow = n.escrow }) r.txn r.op
  undone_in k n place r reply y back stays items h claims_now standing changed begun count given committed aside =
      let fit = y.fit in let alone = y.alone in
      let z : Core D = record k { operations = n.operations; running = n.running; live = n.live; escrow = n.escrow } in
      let s : State = state_of k base in
      let owned : IsOwned k.live.members k.live.standing r = subst (IsOwned k.live.members k.live.standing) (sym alone.there) (fit.owned place r alone.within) in
      let t = owned.inverse back in
      let idle : s.running r.txn ≡ None = running_back k.running.items place r alone.within alone.there back fit.apart in
      let l = left k n place r Ready fit alone items h in
      let sessions : (u : ℕ) → option_map (λ (m : Member). m.session) (member_of n.live.members u) ≡ option_map (λ (m : Member). m.session) (member_of k.live.members u) =
      changed_keeps (option_map (λ (m : Member). m.session)) taken_back k.live.members n.live.members r.txn (λ m. cut_keeps (option_map (λ (x : Member). x.session)) (λ x v. refl) m (last_place m.calls)) changed in
      let open_same : (u : ℕ) → is_working (member_of n.live.members u) ≡ is_working (member_of k.live.members u) = changed_keeps is_working taken_back k.live.members n.live.members r.txn (λ m. cut_keeps is_working (λ x v. refl) m (last_place m.calls)) changed in
      let states : (u : ℕ) → state_in n.live.members u ≡ state_in k.live.members u = changed_keeps (option_map (λ (m : Member). m.state)) taken_back k.live.members n.live.members r.txn (λ m. cut_keeps (option_map (λ (x : Member). x.state)) (λ x v. refl) m (last_place m.calls)) changed in
      let gone : (u : ℕ) → running_in k.running.items u ≡ running_in n.running.items u =
      λ u. sym (running_without k.running.items place r alone.within alone.there back u) ∙ ap (λ (rs : List OpScope). running_in rs u) (sym items) in
      let state : undone s r.txn r.op n.escrow.pending ≡ state_of z (base_after base r.op) = λ i. record {
        book = k.book.items;
        sessions = λ u. sym (sessions u) i;
        next = sym begun i + 1;
        standing = sym standing i;
        running = λ u. gone u i;
        held = held_of k.locks;
        pending = n.escrow.pending;
        aside = sym aside i;
        base = base_after base r.op;
      } in
      let given_entry : GivesBack r.txn t.entry.op k.escrow.pending n.escrow.pending = given t.entry.op t.entry.reply t.inverse in
      let pages = l.pages in let keeps = l.keeps in let takes = l.takes in
      let test : (r.undoes == 0) ≡ false = ne_eqb r.undoes 0 back in
      let pages_r : pages_of r ≡ 0 = rw test refl in
      let kept_r : kept_bytes r ≡ 0 = rw test refl in
      let taken_r : taken_bytes r ≡ 106496 = rw test refl in
      let cut_pages = weighs_cut undo_pages r.txn k.live.standing t.entry t.last in
      let cut_bytes = weighs_cut undo_bytes r.txn k.live.standing t.entry t.last in
      let entry_p : entry_pages t.entry ≡ undo_pages t.entry.op = weighs_effect undo_pages r.txn k.live.standing t.entry t.last in
      let entry_b : entry_bytes t.entry ≡ undo_bytes t.entry.op = weighs_effect undo_bytes r.txn k.live.standing t.entry t.last in
      let whole = inverse_bytes t.entry.op t.entry.reply r.op t.inverse in
      let same_pages = inverse_pages t.entry.op t.entry.reply r.op t.inverse in
      let unsplit : own_needs r.op r.split ≡ own_needs r.op false = ap (own_needs r.op) t.unsplit in
      let sum_pages : sum_by entry_pages n.live.standing ≡ sum_by entry_pages (cut_back r.txn k.live.standing) = ap (sum_by entry_pages) standing in
      let sum_bytes : sum_by entry_bytes n.live.standing ≡ sum_by entry_bytes (cut_back r.txn k.live.standing) = ap (sum_by entry_bytes) standing in
      let claims = y.claims in let reserves = fit.reserves in let log = l.log in
      record {
        last = t.entry;
        idle = idle;
        effect = t.last;
        inverts = t.inverse;
        given = given_entry;
        leads = record {
          consistent = record {
            fit = record {
              schema = fit.schema;
              right = h.right;
              kept = subst (IsKept origin.first) state (kept_undone origin.first s r.txn t.entry r.op n.escrow.pending fit.kept idle t.last t.inverse given_entry);
              owned = subst (λ (X : Type 0). X) (λ i. All (IsOwned n.live.members (sym standing i)) (sym items i))
                  (all_remove (IsOwned n.live.members (cut_back r.txn k.live.standing)) k.running.items place alone.within (λ i d lt apart.
                  undone_owned k.live.members n.live.members k.live.standing r (get_or k.running.items i d) (other_at k place r Ready fit alone i d lt apart) changed (fit.owned i d lt)));
              apart = l.apart;
              numbered = subst (λ (m : ℕ). IsNumbered k.last m n.live.members n.operations.locks (appended n.operations.store.log)) (sym begun)
                  (numbered_members k.last k.live.begun k.live.members n.live.members n.operations.locks (appended n.operations.store.log) open_same (changed_keeps is_some taken_back k.live.members n.live.members r.txn (λ m. cut_keeps is_some (λ x v. refl) m (last_place m.calls)) changed 0) l.numbered);
              locked = l.locked;
              small = subst (All (IsWithinSchema origin)) (sym standing) (all_cut (IsWithinSchema origin) r.txn k.live.standing fit.small);
              log = log;
              reserves = omega arith;
              numbers = subst (λ (v : ℕ). AreLeft k.last v k.reserved) (sym begun) fit.numbers;
              queued = queued_members k.live.members n.live.members (appended n.operations.store.log) k.commits.items (λ u is. states u ∙ is) (λ u is. sym (states u) ∙ is) l.queued;
              booked = fit.booked;
              escrowed = record { all = ap length committed ∙ fit.escrowed.all; counts = λ c lt. ap (λ (cs : List Count). count_at cs c) committed ∙ fit.escrowed.counts c lt };
            };
            holds = subst (λ (p : PageBytes). Holds p (base_after base r.op)) (sym h.held) y.holds;
            runs = l.runs;
            outcome = reported_of owned;
            claims = omega arith;
          };
          state = state;
        };
      }
    where
      reported_of : IsOwned k.live.members k.live.standing r → AreReported k.last n.live.members (appended n.operations.store.log)
      reported_of owned =
          let named = (owned.inverse back).named in
          let aborting : state_in k.live.members r.txn ≡ Some Aborting = backwards_aborting (state_in k.live.members r.txn) (owned.backwards back) stays in
          let t = y.outcome in
          let records : t.was ++ end_of r reply ≡ appended n.operations.store.log = sym t.ended ∙ (λ i. appended (sym h.store i).log) in
          subst (AreReported k.last n.live.members) records
          (reported_changed k.last t.was (t.was ++ end_of r reply) k.live.members n.live.members r.txn taken_back
          (λ m is was. undone_reported k.last t.was (end_of r reply) r.txn r.undoes m (let same : Some m.state ≡ Some Aborting = sym (ap (option_map (λ (x : Member). x.state)) is) ∙ aborting in cc) (ap last_operation (sym is) ∙ named) (λ v apart. end_undoes_other r.txn v r.txn r.number r.undoes (logged_of r.op reply) apart) was)
          (λ u m apart was. reported_on_more k.last t.was (end_of r reply) u m (λ v. end_undoes_txn u v r.txn r.number r.undoes (logged_of r.op reply) (λ is. apart (sym is))) was) changed t.outcome)

-- one whose calls are cut is in its state
pub taken_state : (m : Member) → (taken_back m).state ≡ m.state
taken_state m = go (last_place m.calls)
  where
    go : (o : Option ℕ) → (cut_to m o).state ≡ m.state
    go None = refl
    go (Some n) = refl
