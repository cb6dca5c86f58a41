-- A transaction whose Commit is appended: it lives, and is at work no more.
use Rattle.std.proofs.Common.{◌≡◌, ◌≢◌, inl, ℕ, ◌≤◌, ◌+◌, ◌==◌, cond, true, false, List, [], ◌∷◌, ◌++◌, length, get_or, Option, Some, None, refl, sym, ap, ◌∙◌, subst, arith}
use Rattle.std.specs.Prelude.{All, is_some}
use Rattle.std.specs.List.{sum_by}
use Rattle.std.specs.Option.{option_map}
use Rattle.std.proofs.lemmas.Bool.{ne_eqb, eq-eqb, or_from}
use Rattle.mt_disk.specs.declared.device.Device.{Ghosts}
use Rattle.mt_area_rules.specs.History.{some_record, ends_txn, ends_op, may_stand}
use Rattle.mt_frame.specs.declared.records.Record.{Record}
use Rattle.mt_frame.specs.declared.records.Record.TheVariants.{Commit}
use Rattle.mt_live.specs.Lives.{member_of, IsChanged}
use Rattle.mt_live.specs.Machine.{IsKept, put}
use Rattle.std.proofs.lemmas.List.{length_push}
use Rattle.mt_live.specs.Members.{Member, with_state}
use Rattle.mt_live.specs.Undoing.{last_effect}
use Rattle.mt_live.specs.declared.transactions.TxnState.TheVariants.{Committing}
use Rattle.mt_log.specs.Words.{appended, used, area_size}
use Rattle.mt_model.specs.Model.{Base}
use Rattle.mt_op.proofs.Noting.{notes_held}
use Rattle.mt_op.specs.Moves.{Notes}
use Rattle.mt_op.specs.Operations.{world, IsRight, claimed}
use Rattle.mt_op.specs.World.{IsUnderWay}
use Rattle.mt_op.specs.declared.scope.OpScope.{OpScope}
use Rattle.mt_pool.proofs.Logged.{no_records}
use Rattle.mt_space.specs.Changes.{PageBytes}
use Rattle.mt_slock.specs.Views.{held_of}
use Rattle.mt_steps.specs.Held.{Holds}
use Rattle.mt_core.specs.Runs.{running_in, AreHeldBy, is_at_work, entry_pages, entry_bytes, is_working}
use Rattle.mt_core.specs.Consistent.{Origin, state_of, IsNumbered, AreReported, IsQueued, IsWithinSchema, IsEscrowed, IsConsistent, IsIn}
use Rattle.mt_core.specs.declared.parts.Core.{Core}
use Rattle.mt_core.proofs.Calling.{txn_low}
use Rattle.mt_core.proofs.Members.{changed_keeps, changed_other, owned_as}
use Rattle.mt_core.proofs.Reported.{reported_on_more, reported_changed}
use Rattle.mt_core.proofs.Queued.{queued_push}
use Rattle.mt_core.specs.declared.parts.Commit.{Commit as Queued}
use Rattle.std.specs.Prelude.{vec_len}
use Rattle.std.specs.Vec.{vec_capacity}
use Rattle.mt_model.specs.History.{after}

-- what is open then was open before, and is another
closed_other : (old new : List Member) (t : ℕ) → IsChanged old new t (λ m. with_state m Committing) → (u : ℕ) → is_working (member_of new u) ≡ true → u ≢ t
closed_other old new t changed u h is = go (member_of old t) (sym (ap is_working (changed u ∙ at)) ∙ h)
  where
    at : cond (u == t) (option_map (λ (m : Member). with_state m Committing) (member_of old t)) (member_of old u) ≡ option_map (λ (m : Member). with_state m Committing) (member_of old t)
    at = let same : (u == t) ≡ true = eq-eqb u t is in rw same refl

    go : (o : Option Member) → is_working (option_map (λ (m : Member). with_state m Committing) o) ≡ true → ⊥
    go None k = absurd cc
    go (Some m) k = absurd cc

module _ {D : Type 0} (g : Ghosts D) (origin : Origin) (base : Base) where
  pub committing_in : (k n : Core D) (c : Queued) → IsConsistent g origin base k → is_working (member_of k.live.members c.txn) ≡ true → All (λ (q : OpScope). q.txn ≢ c.txn) k.running.items
      → IsRight g origin.pages origin.relations origin.counters n.operations → Notes (world g origin.pages k.operations) (world g origin.pages n.operations) (Commit c.txn)
      → ((u : OpScope) → IsUnderWay origin.relations origin.counters (world g origin.pages k.operations) u → u.txn ≢ c.txn → IsUnderWay origin.relations origin.counters (world g origin.pages n.operations) u)
      → claimed n.operations ≡ claimed k.operations → used n.operations.store.log ≡ used k.operations.store.log + 14 → area_size n.operations.store.log ≡ area_size k.operations.store.log
      → IsChanged k.live.members n.live.members c.txn (λ m. with_state m Committing) → n.live.begun ≡ k.live.begun → n.live.standing ≡ k.live.standing → length n.live.members ≡ length k.live.members
      → n.commits.items ≡ k.commits.items ++ c ∷ [] → c.place ≡ length (appended k.operations.store.log) + 1 → n.book.items ≡ k.book.items → vec_len n.book + length n.commits.items ≤ vec_capacity n.book → n.reserved + 14 ≡ k.reserved
      → IsIn g origin base (state_of k base) (record k { operations = n.operations; live = n.live; commits = n.commits; book = n.book; reserved = n.reserved })
  committing_in k n c safe at_work idle right notes others same used_now area changed begun_same standing count pushed place book room freed =
      let fit = safe.fit in
      let t = c.txn in
      let z : Core D = record k { operations = n.operations; live = n.live; commits = n.commits; book = n.book; reserved = n.reserved } in
      let state : state_of k base ≡ state_of z base = λ i. record {
        book = sym book i;
        sessions = λ u. sym (changed_keeps (option_map (λ (m : Member). m.session)) (λ m. with_state m Committing) k.live.members n.live.members t (λ m. refl) changed u) i;
        next = sym begun_same i + 1;
        standing = sym standing i;
        running = running_in k.running.items;
        held = held_of k.locks;
        pending = k.escrow.pending;
        aside = k.escrow.aside;
        base = base;
      } in
      let other : (u : ℕ) → u ≢ t → member_of n.live.members u ≡ member_of k.live.members u = changed_other (λ m. with_state m Committing) k.live.members n.live.members t changed in
      let old : (u : ℕ) → is_working (member_of n.live.members u) ≡ true → is_working (member_of k.live.members u) ≡ true = λ u h. sym (ap is_working (other u (closed_other k.live.members n.live.members t changed u h))) ∙ h in
      let low = txn_low g origin base k t fit at_work in
      let numbered : IsNumbered k.last k.live.begun n.live.members k.operations.locks (appended k.operations.store.log ++ Commit t ∷ []) = record {
        locks = fit.numbered.locks;
        ops = λ m above. no_records (ends_op m) (appended k.operations.store.log) (Commit t ∷ []) (fit.numbered.ops m above) refl;
        txns = λ u h. no_records (ends_txn u) (appended k.operations.store.log) (Commit t ∷ []) (fit.numbered.txns u (old u h)) (or_from (t == u) false (ne_eqb t u (λ is. closed_other k.live.members n.live.members t changed u h (sym is))) refl);
        coming = λ u above. no_records (ends_txn u) (appended k.operations.store.log) (Commit t ∷ []) (fit.numbered.coming u above) (or_from (t == u) false (ne_eqb t u (λ is. absurd (omega (arith, is, above, low)))) refl);
        few_operations = fit.numbered.few_operations;
        few_transactions = fit.numbered.few_transactions;
        nobody = changed_keeps is_some (λ m. with_state m Committing) k.live.members n.live.members t (λ m. refl) changed 0 ∙ fit.numbered.nobody;
      } in
      let outcome : AreReported k.last n.live.members (appended k.operations.store.log ++ Commit t ∷ []) =
      reported_changed k.last (appended k.operations.store.log) (appended k.operations.store.log ++ Commit t ∷ []) k.live.members n.live.members t (λ m. with_state m Committing)
      (λ m is was. let more = reported_on_more k.last (appended k.operations.store.log) (Commit t ∷ []) t m (λ v. refl) was in record { many = more.many; numbers = more.numbers; rising = more.rising; due = more.due; firsts = λ first is. absurd cc; few = more.few })
      (λ u m apart was. reported_on_more k.last (appended k.operations.store.log) (Commit t ∷ []) u m (λ v. refl) was) changed safe.outcome in
      let queued : IsQueued n.live.members (appended k.operations.store.log ++ Commit t ∷ []) (k.commits.items ++ c ∷ []) =
      queued_push k.live.members n.live.members (appended k.operations.store.log) k.commits.items c place
      (λ is. working (member_of k.live.members t) at_work is)
      (now_commits (member_of k.live.members t) at_work (member_of n.live.members t) (changed t ∙ put_own (member_of k.live.members) t (option_map (λ (m : Member). with_state m Committing) (member_of k.live.members t))))
      (λ u apart. ap (option_map (λ (m : Member). m.state)) (other u apart)) fit.queued in
      let claims = safe.claims in let reserves = fit.reserves in let log = fit.log in
      let sum_pages = ap (sum_by entry_pages) standing in let sum_bytes = ap (sum_by entry_bytes) standing in
      let commits = ap (λ (cs : List Queued). length cs) pushed in let commits_now = length_push k.commits.items c in
      record {
        consistent = record {
          fit = record {
            schema = fit.schema;
            right = right;
            kept = subst (IsKept origin.first) state fit.kept;
            owned = λ i d lt. owned_as k.live.members n.live.members k.live.standing n.live.standing (get_or k.running.items i d) (other (get_or k.running.items i d).txn (idle i d lt)) (ap (last_effect (get_or k.running.items i d).txn) standing) (fit.owned i d lt);
            apart = fit.apart;
            numbered = subst (λ (X : Type 0). X) (λ i. IsNumbered k.last (sym begun_same i) n.live.members (sym notes.locks i) (sym notes.records i)) numbered;
            locked = subst (AreHeldBy k.running.items) (sym notes.locks) fit.locked;
            small = subst (All (IsWithinSchema origin)) (sym standing) fit.small;
            log = omega arith;
            reserves = omega arith;
            numbers = let left = fit.numbers in omega (arith, left, begun_same, freed);
            queued = subst (λ (X : Type 0). X) (λ i. IsQueued n.live.members (sym notes.records i) (sym pushed i)) queued;
            booked = room;
            escrowed = subst (λ (X : Type 0). X) (λ i. IsEscrowed origin.counters (after origin.first (sym book i)) k.escrow) fit.escrowed;
          };
          holds = subst (λ (p : PageBytes). Holds p base) (sym (notes_held origin.relations origin.counters (world g origin.pages k.operations) (world g origin.pages n.operations) t (Commit t) notes (inl refl))) safe.holds;
          runs = λ i d lt. let was = safe.runs i d lt in record { under = others (get_or k.running.items i d) was.under (idle i d lt); budget = was.budget; number = was.number; moving = was.moving };
          outcome = subst (AreReported k.last n.live.members) (sym notes.records) outcome;
          claims = omega arith;
        };
        state = state;
      }
    where
      put_own : (f : ℕ → Option Member) (u : ℕ) (x : Option Member) → put f u x u ≡ x
      put_own f u x = let same : (u == u) ≡ true = eq-eqb u u refl in rw same refl

      working : (o : Option Member) → is_working o ≡ true → option_map (λ (m : Member). m.state) o ≡ Some Committing → ⊥
      working None is h = absurd cc
      working (Some m) is h = let state : m.state ≡ Committing = cc in let closed : is_at_work m.state ≡ false = ap is_at_work state in absurd cc

      now_commits : (o : Option Member) → is_working o ≡ true → (p : Option Member) → p ≡ option_map (λ (m : Member). with_state m Committing) o → option_map (λ (m : Member). m.state) p ≡ Some Committing
      now_commits None is p h = absurd cc
      now_commits (Some m) is p h = ap (option_map (λ (x : Member). x.state)) h

-- the record of a commit may stand behind records that do not end its transaction
pub may_commit : (records : List Record) (t : ℕ) → 1 ≤ t → some_record (ends_txn t) records ≡ false → may_stand false records (Commit t) ≡ true
may_commit records t some open_still = let named : (t == 0) ≡ false = ne_eqb t 0 (λ is. absurd (omega (arith, is, some))) in rw (named, open_still) refl
