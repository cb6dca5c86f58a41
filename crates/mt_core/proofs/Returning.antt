-- What the end of an inverse leaves of a transaction that goes on.
use Rattle.std.proofs.Common.{◌≡◌, ◌≢◌, inl, inr, ℕ, Bool, ◌<◌, ◌≤◌, ◌+◌, ◌==◌, true, false, List, [], ◌∷◌, ◌++◌, length, get_or, take, Option, Some, None, refl, sym, ap, ◌∙◌, subst, arith}
use Rattle.std.specs.Prelude.{All, is_some, IfSome}
use Rattle.std.specs.List.{sum_by, remove}
use Rattle.std.specs.Option.{option_map}
use Rattle.std.proofs.lemmas.Bool.{ne_eqb}
use Rattle.std.proofs.lemmas.Bool.Decides.{leb_tells}
use Rattle.std.proofs.lemmas.List.Elements.{All-push}
use Rattle.mt_disk.specs.declared.device.Device.{Ghosts}
use Rattle.mt_area_rules.specs.History.{some_record, undoes_op}
use Rattle.mt_frame.specs.declared.records.Record.{Record}
use Rattle.mt_live.proofs.Keeping.{kept_returned, last_pends}
use Rattle.mt_live.proofs.Lasts.{last_within}
use Rattle.mt_live.proofs.Reaching.{reaches, effect_after}
use Rattle.mt_live.specs.Adds.{GivesBack, add_before}
use Rattle.mt_live.specs.Entries.{Entry}
use Rattle.mt_live.specs.Lives.{member_of, IsAbove, IsChanged}
use Rattle.mt_live.specs.Machine.{State, IsKept, returned}
use Rattle.mt_live.specs.Members.{Member, Noted, noted, with_noted, with_mark, with_back, with_role_at, set_role, last_place, noted_after, last_operation, standing_count}
use Rattle.mt_live.specs.Undoing.{after_first, last_effect, mark_last}
use Rattle.mt_live.specs.declared.transactions.Role.TheVariants.{TakenBack, Back}
use Rattle.mt_live.specs.declared.transactions.TxnState.{TxnState}
use Rattle.mt_live.specs.declared.transactions.TxnState.TheVariants.{Open, Committing, Returning, Aborting}
use Rattle.mt_log.specs.Words.{appended}
use Rattle.mt_model.specs.History.{Call}
use Rattle.mt_model.specs.Pending.{pending_of}
use Rattle.mt_model.specs.Tables.{count_at}
use Rattle.mt_model.specs.Model.{Base, reply_of, base_after, inverse_of}
use Rattle.mt_model.specs.declared.counters.Count.{Count}
use Rattle.mt_model.specs.declared.operations.Op.{Op}
use Rattle.mt_model.specs.declared.operations.Reply.{Reply}
use Rattle.mt_model.specs.declared.pending_add.Pending.{Pending}
use Rattle.mt_op.specs.Operations.{claimed}
use Rattle.mt_op.specs.Records.{end_of}
use Rattle.mt_op.specs.declared.scope.OpScope.{OpScope}
use Rattle.mt_op.specs.declared.scope.Stage.TheVariants.{Ready}
use Rattle.mt_slock.specs.Views.{held_of}
use Rattle.mt_space.specs.Changes.{PageBytes}
use Rattle.mt_steps.specs.Held.{Holds}
use Rattle.mt_steps.specs.Logged.{logged_of}
use Rattle.mt_steps.specs.Plans.{own_needs, undo_pages}
use Rattle.mt_core.specs.Runs.{running_in, AreApart, IsOwned, did_after, undo_bytes, pages_of, entry_pages, entry_bytes, kept_bytes, taken_bytes, is_working}
use Rattle.mt_core.specs.Consistent.{Origin, state_of, state_in, AreLeft, IsNumbered, IsReported, AreReported, IsWithinSchema, IsReady, UndoesIn, ReturnsIn, InvertsIn}
use Rattle.mt_core.specs.Restartable.{NotesUndone, NotesInverse}
use Rattle.mt_core.specs.declared.parts.Core.{Core}
use Rattle.mt_core.proofs.Effects.{weighs_effect, weighs_push, last_push, inverse_pages, inverse_bytes}
use Rattle.mt_core.proofs.Ending.{HasEnded, left, other_at, numbered_members}
use Rattle.mt_core.proofs.Lists.{all_remove}
use Rattle.mt_core.proofs.Marking.{weighs_mark, all_mark, last_mark}
use Rattle.mt_core.proofs.Members.{changed_keeps, changed_other, owned_as}
use Rattle.mt_core.proofs.Queued.{queued_members}
use Rattle.mt_core.proofs.Reported.{due_more, end_undoes_other, end_undoes_txn, reported_call, reported_mark, reported_on_more, reported_changed}
use Rattle.mt_core.proofs.Underway.{running_back, running_without}

-- what does not ask for calls, numbers and room is as it was
pub back_keeps : {B : Type 0} (h : Option Member → B) → ((m : Member) (cs : List Noted) (os : List ℕ) → h (Some (record m { calls = cs; operations = os; has_room = false })) ≡ h (Some m)) → (m : Member) (n : ℕ) (c : Call) → h (Some (with_back m n c)) ≡ h (Some m)
back_keeps h same m n c = go (last_place m.calls)
  where
    go : (o : Option ℕ) → h (Some (with_noted (with_mark m o) n (noted Back c))) ≡ h (Some m)
    go None = same m (m.calls ++ noted Back c ∷ []) (m.operations ++ n ∷ [])
    go (Some p) = same m (set_role m.calls p TakenBack ++ noted Back c ∷ []) (m.operations ++ n ∷ [])

-- the last that stood and did something is after the first so many
first_stands : (first p : ℕ) (m : Member) → last_place m.calls ≡ Some p → did_after first (Some m) ≡ true → first ≤ standing_count (take p m.calls)
first_stands first p m at after = elim (leb_tells first (standing_count (take p m.calls))) [
  | inl low ↦ low.1
  | inr high ↦ let here : reaches first m.calls (Some p) ≡ true = ap (reaches first m.calls) (sym at) ∙ (sym (effect_after first m.calls) ∙ after) in let not = high.0 in absurd cc
]

-- the inverse stands after the others, and what it takes back is due no more
back_reported : (last : ℕ) (was more : List Record) (t n undoes : ℕ) (m : Member) (c : Call) → IsReported last was t m → last_operation (Some m) ≡ Some undoes → ((v : ℕ) → undoes ≢ v → some_record (undoes_op t v) more ≡ false)
    → All (λ x. x < n) m.operations → 1 ≤ n → n ≤ last → ((first : ℕ) → m.state ≡ Returning first → did_after first (Some m) ≡ true) → IsReported last (was ++ more) t (with_back m n c)
back_reported last was more t n undoes m c k named none below some low after = go (last_place m.calls) refl named
  where
    go : (o : Option ℕ) → last_place m.calls ≡ o → option_map (λ i. get_or m.operations i 0) o ≡ Some undoes → IsReported last (was ++ more) t (with_noted (with_mark m o) n (noted Back c))
    go None at h = absurd cc
    go (Some p) at h =
        let this : get_or m.operations p 0 ≡ undoes = cc in
        let within : p < length m.calls = subst (λ o. IfSome o (λ i. i < length m.calls)) at (last_within m.calls) in
        let marked = reported_mark last was (was ++ more) t p m k at within (λ first is. first_stands first p m at (after first is)) (λ v apart due. due_more t v was more (none v (λ is. apart (sym is ∙ sym this))) due) in
        reported_call last (was ++ more) t n (with_role_at m p TakenBack) (noted Back c) marked below some low marked.few (λ has. absurd cc)

-- of the entries as of the member's calls
effect_first : (first : ℕ) (o : Option Member) {x : Bool} → Some x ≡ option_map (λ (m : Member). is_some (last_place (noted_after first m.calls))) o → did_after first o ≡ true → x ≡ true
effect_first first None tied did = absurd cc
effect_first first (Some m) tied did = let same = tied in cc

module _ {D : Type 0} (g : Ghosts D) (origin : Origin) (base : Base) where
  back_owned : (ms new : List Member) (standing : List Entry) (r q : OpScope) (c : Call) (e : Entry) → e.txn ≡ r.txn → AreApart r q → IsChanged ms new r.txn (λ m. with_back m r.number c)
      → IsOwned ms standing q → IsOwned new (mark_last r.txn standing ++ e ∷ []) q
  back_owned ms new standing r q c e own apart changed o =
      owned_as ms new standing (mark_last r.txn standing ++ e ∷ []) q (changed_other (λ m. with_back m r.number c) ms new r.txn changed q.txn apart.txn)
      (last_push q.txn (mark_last r.txn standing) e (λ is. apart.txn (is ∙ own)) ∙ last_mark q.txn r.txn standing apart.txn) o

  pub returned_in : (k n : Core D) (place : ℕ) (r : OpScope) (reply : Reply) → IsReady g origin base k place r reply → r.undoes ≢ 0 → (first : ℕ) → state_in k.live.members r.txn ≡ Some (Returning first)
      → n.running.items ≡ remove k.running.items place → HasEnded g origin.pages origin.relations origin.counters k.operations n.operations r → claimed n.operations ≡ claimed k.operations
      → n.live.standing ≡ mark_last r.txn k.live.standing ++ record { txn = r.txn; op = r.op; reply = reply; role = Back } ∷ []
      → IsChanged k.live.members n.live.members r.txn (λ m. with_back m r.number (r.op, reply)) → n.live.begun ≡ k.live.begun → length n.live.members ≡ length k.live.members
      → ((o : Op) (u : Reply) → inverse_of o u ≡ Some r.op → GivesBack r.txn o k.escrow.pending n.escrow.pending) → n.escrow.committed ≡ k.escrow.committed
      → ((o : Op) (u : Reply) → inverse_of o u ≡ Some r.op → (front : List Pending) → pending_of r.txn k.escrow.pending ≡ front ++ add_before r.txn o [] → n.escrow.aside ≡ k.escrow.aside ++ add_before r.txn o [])
      → ((v : ℕ) → Some (is_some (last_effect r.txn (after_first r.txn v k.live.standing))) ≡ option_map (λ (m : Member). is_some (last_place (noted_after v m.calls))) (member_of k.live.members r.txn))
      → ReturnsIn g origin base (state_of k base) (record k { operations = n.operations; running = n.running; live = n.live; escrow = n.escrow }) r.txn first r.op
  returned_in k n place r reply y back first returning items h claims_now standing changed begun count given committed aside tied =
      let fit = y.fit in let alone = y.alone in
      let z : Core D = record k { operations = n.operations; running = n.running; live = n.live; escrow = n.escrow } in
      let s : State = state_of k base in
      let e : Entry = record { txn = r.txn; op = r.op; reply = reply; role = Back } in
      let f : Member → Member = λ m. with_back m r.number (r.op, reply) in
      let owned : IsOwned k.live.members k.live.standing r = subst (IsOwned k.live.members k.live.standing) (sym alone.there) (fit.owned place r alone.within) in
      let t = owned.inverse back in
      let idle : s.running r.txn ≡ None = running_back k.running.items place r alone.within alone.there back fit.apart in
      let l = left g origin base k n place r Ready fit alone items h in
      let sessions : (u : ℕ) → option_map (λ (m : Member). m.session) (member_of n.live.members u) ≡ option_map (λ (m : Member). m.session) (member_of k.live.members u) =
      changed_keeps (option_map (λ (m : Member). m.session)) f k.live.members n.live.members r.txn (λ m. back_keeps (option_map (λ (x : Member). x.session)) (λ x cs os. refl) m r.number (r.op, reply)) changed in
      let open_same : (u : ℕ) → is_working (member_of n.live.members u) ≡ is_working (member_of k.live.members u) = changed_keeps is_working f k.live.members n.live.members r.txn (λ m. back_keeps is_working (λ x cs os. refl) m r.number (r.op, reply)) changed in
      let states : (u : ℕ) → state_in n.live.members u ≡ state_in k.live.members u = changed_keeps (option_map (λ (m : Member). m.state)) f k.live.members n.live.members r.txn (λ m. back_keeps (option_map (λ (x : Member). x.state)) (λ x cs os. refl) m r.number (r.op, reply)) changed in
      let gone : (u : ℕ) → running_in k.running.items u ≡ running_in n.running.items u =
      λ u. sym (running_without k.running.items place r alone.within alone.there back u) ∙ ap (λ (rs : List OpScope). running_in rs u) (sym items) in
      let stands : mark_last r.txn k.live.standing ++ record { txn = r.txn; op = r.op; reply = reply_of base r.op; role = Back } ∷ [] ≡ n.live.standing =
      (λ i. mark_last r.txn k.live.standing ++ record { txn = r.txn; op = r.op; reply = y.replies i; role = Back } ∷ []) ∙ sym standing in
      let given_entry : GivesBack r.txn t.entry.op k.escrow.pending n.escrow.pending = given t.entry.op t.entry.reply t.inverse in
      let pends = last_pends origin.first s r.txn t.entry r.op fit.kept idle t.last t.inverse in
      let put_aside : n.escrow.aside ≡ k.escrow.aside ++ add_before r.txn t.entry.op [] = aside t.entry.op t.entry.reply t.inverse pends.0 pends.1 in
      let state : returned s r.txn t.entry r.op n.escrow.pending ≡ state_of z (base_after base r.op) = λ i. record {
        book = k.book.items;
        sessions = λ u. sym (sessions u) i;
        next = sym begun i + 1;
        standing = stands i;
        running = λ u. gone u i;
        held = held_of k.locks;
        pending = n.escrow.pending;
        aside = sym put_aside i;
        base = base_after base r.op;
      } in
      let pages = l.pages in let keeps = l.keeps in let takes = l.takes in
      let test : (r.undoes == 0) ≡ false = ne_eqb r.undoes 0 back in
      let pages_r : pages_of r ≡ 0 = rw test refl in
      let kept_r : kept_bytes r ≡ 0 = rw test refl in
      let taken_r : taken_bytes r ≡ 106496 = rw test refl in
      let marked_pages = weighs_mark undo_pages r.txn k.live.standing t.entry t.last in
      let marked_bytes = weighs_mark undo_bytes r.txn k.live.standing t.entry t.last in
      let entry_p : entry_pages t.entry ≡ undo_pages t.entry.op = weighs_effect undo_pages r.txn k.live.standing t.entry t.last in
      let entry_b : entry_bytes t.entry ≡ undo_bytes t.entry.op = weighs_effect undo_bytes r.txn k.live.standing t.entry t.last in
      let more_pages = weighs_push undo_pages (mark_last r.txn k.live.standing) e in
      let more_bytes = weighs_push undo_bytes (mark_last r.txn k.live.standing) e in
      let none_p : entry_pages e ≡ 0 = refl in
      let none_b : entry_bytes e ≡ 0 = refl in
      let whole = inverse_bytes t.entry.op t.entry.reply r.op t.inverse in
      let same_pages = inverse_pages t.entry.op t.entry.reply r.op t.inverse in
      let unsplit : own_needs r.op r.split ≡ own_needs r.op false = ap (own_needs r.op) t.unsplit in
      let sum_pages : sum_by entry_pages n.live.standing ≡ sum_by entry_pages (mark_last r.txn k.live.standing ++ e ∷ []) = ap (sum_by entry_pages) standing in
      let sum_bytes : sum_by entry_bytes n.live.standing ≡ sum_by entry_bytes (mark_last r.txn k.live.standing ++ e ∷ []) = ap (sum_by entry_bytes) standing in
      let claims = y.claims in let reserves = fit.reserves in let log = l.log in
      record {
        last = t.entry;
        idle = idle;
        effect = t.last;
        after = effect_first first (member_of k.live.members r.txn) (tied first) (owned.returns back first returning).after;
        inverts = t.inverse;
        given = given_entry;
        leads = record {
          consistent = record {
            fit = record {
              schema = fit.schema;
              right = h.right;
              kept = subst (IsKept origin.first) state (kept_returned origin.first s r.txn t.entry r.op n.escrow.pending fit.kept idle t.last t.inverse given_entry);
              owned = subst (λ (X : Type 0). X) (λ i. All (IsOwned n.live.members (sym standing i)) (sym items i))
                  (all_remove (IsOwned n.live.members (mark_last r.txn k.live.standing ++ e ∷ [])) k.running.items place alone.within (λ i d lt apart.
                  back_owned k.live.members n.live.members k.live.standing r (get_or k.running.items i d) (r.op, reply) e refl (other_at g origin base k place r Ready fit alone i d lt apart) changed (fit.owned i d lt)));
              apart = l.apart;
              numbered = subst (λ (m : ℕ). IsNumbered k.last m n.live.members n.operations.locks (appended n.operations.store.log)) (sym begun)
                  (numbered_members g origin base k.last k.live.begun k.live.members n.live.members n.operations.locks (appended n.operations.store.log) open_same (changed_keeps is_some f k.live.members n.live.members r.txn (λ m. back_keeps is_some (λ x cs os. refl) m r.number (r.op, reply)) changed 0) l.numbered);
              locked = l.locked;
              small = subst (All (IsWithinSchema origin)) (sym standing) (All-push (IsWithinSchema origin) (mark_last r.txn k.live.standing) e
                  (all_mark (IsWithinSchema origin) (λ x within. record { op = within.op; reply = within.reply }) r.txn k.live.standing fit.small) (record { op = alone.own.within; reply = y.small }));
              log = log;
              reserves = omega arith;
              numbers = subst (λ (v : ℕ). AreLeft k.last v k.reserved) (sym begun) fit.numbers;
              queued = queued_members k.live.members n.live.members (appended n.operations.store.log) k.commits.items (λ u is. states u ∙ is) (λ u is. sym (states u) ∙ is) l.queued;
              booked = fit.booked;
              escrowed = record { all = ap length committed ∙ fit.escrowed.all; counts = λ c lt. ap (λ (cs : List Count). count_at cs c) committed ∙ fit.escrowed.counts c lt };
            };
            holds = subst (λ (p : PageBytes). Holds p (base_after base r.op)) (sym h.held) y.holds;
            runs = l.runs;
            outcome = reported_of owned;
            claims = omega arith;
          };
          state = state;
        };
      }
    where
      reported_of : IsOwned k.live.members k.live.standing r → AreReported k.last n.live.members (appended n.operations.store.log)
      reported_of owned =
          let t = y.outcome in
          let named = (owned.inverse back).named in
          let noted_back = owned.returns back in
          let records : t.was ++ end_of r reply ≡ appended n.operations.store.log = sym t.ended ∙ (λ i. appended (sym h.store i).log) in
          subst (AreReported k.last n.live.members) records
          (reported_changed k.last t.was (t.was ++ end_of r reply) k.live.members n.live.members r.txn (λ m. with_back m r.number (r.op, reply))
          (λ m is was.
          let mine : state_in k.live.members r.txn ≡ Some m.state = ap (option_map (λ (x : Member). x.state)) is in
          back_reported k.last t.was (end_of r reply) r.txn r.number r.undoes m (r.op, reply) was (ap last_operation (sym is) ∙ named)
          (λ v apart. end_undoes_other r.txn v r.txn r.number r.undoes (logged_of r.op reply) apart)
          (subst (IsAbove r.number) is (noted_back first returning).newest) y.alone.own.op.0 y.alone.known
          (λ other at. subst (λ (o : Option Member). did_after other o ≡ true) is (noted_back other (mine ∙ ap Some at)).after))
          (λ u m apart was. reported_on_more k.last t.was (end_of r reply) u m (λ v. end_undoes_txn u v r.txn r.number r.undoes (logged_of r.op reply) (λ is. apart (sym is))) was) changed t.outcome)

-- an inverse of one that does not go on is undone with what it takes back
pub undone_inverts : {D : Type 0} (g : Ghosts D) (origin : Origin) (base : Base) (s : State) (n : Core D) (t : ℕ) (i : Op) (state : Option TxnState) → ((first : ℕ) → state ≢ Some (Returning first)) → UndoesIn g origin base s n t i → InvertsIn g origin base s n t i state
undone_inverts g origin base s n t i None stays u = u
undone_inverts g origin base s n t i (Some Open) stays u = u
undone_inverts g origin base s n t i (Some Committing) stays u = u
undone_inverts g origin base s n t i (Some (Returning first)) stays u = absurd (stays first refl)
undone_inverts g origin base s n t i (Some Aborting) stays u = u

pub undone_notes : {D : Type 0} (k n : Core D) (r : OpScope) (reply : Reply) (state : Option TxnState) → ((first : ℕ) → state ≢ Some (Returning first)) → NotesUndone k n r → NotesInverse k n r reply state
undone_notes k n r reply None stays u = u
undone_notes k n r reply (Some Open) stays u = u
undone_notes k n r reply (Some Committing) stays u = u
undone_notes k n r reply (Some (Returning first)) stays u = absurd (stays first refl)
undone_notes k n r reply (Some Aborting) stays u = u
