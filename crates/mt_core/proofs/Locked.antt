-- A call on its way from its locks to its operation, and back where it is refused.
use Rattle.std.proofs.Common.{◌≡◌, ℕ, ◌<◌, ◌+◌, List, [], ◌∷◌, ◌++◌, sym, ap, ◌∙◌, subst}
use Rattle.std.specs.Option.{option_map}
use Rattle.mt_disk.specs.declared.device.Device.{Ghosts}
use Rattle.mt_escrow.specs.Seen.{Escrowed, all_adds, add_of}
use Rattle.mt_live.specs.Adds.{add_before}
use Rattle.mt_live.specs.Lives.{member_of}
use Rattle.mt_live.specs.Machine.{IsKept, IsAdmitted}
use Rattle.mt_live.specs.Members.{Member}
use Rattle.mt_model.specs.Escrow.{IsAdmissible}
use Rattle.mt_model.specs.History.{after}
use Rattle.mt_model.specs.Locks.{with_locks, without_locks, AreAllFree}
use Rattle.mt_model.specs.Model.{Base, asks_of, locks_of, IsWithin}
use Rattle.mt_model.specs.Pending.{steps_at}
use Rattle.mt_model.specs.Tables.{count_at}
use Rattle.mt_model.specs.declared.counters.Count.{Count}
use Rattle.mt_model.specs.declared.objects.Object.{Object}
use Rattle.mt_model.specs.declared.operations.Op.{Op}
use Rattle.mt_model.specs.declared.operations.Op.TheVariants.{Get, Insert, Update, Delete, Add, Read, Scan}
use Rattle.mt_slock.specs.Answers.{MarksFresh, fresh_in}
use Rattle.mt_slock.specs.Views.{held_of}
use Rattle.mt_slock.specs.declared.holders.Holder.{Holder}
use Rattle.mt_slock.specs.declared.table.Fresh.{Fresh}
use Rattle.mt_slock.proofs.Asking.{taken_out}
use Rattle.mt_core.specs.Consistent.{Origin, state_of, IsConsistent, MayRun, IsGranted, IsLocked, IsAskedFor, IsRestored, IsIn}
use Rattle.mt_core.specs.Runs.{running_in}
use Rattle.mt_core.specs.declared.parts.Core.{Core}
use Rattle.mt_core.proofs.Calling.{claims_consistent}

admitted_of : (relations counters : ℕ) (m : Base) (e : Escrowed) (t : ℕ) (op : Op) → IsWithin relations counters op → ((c : ℕ) → c < counters → count_at e.committed c ≡ m.counts c) → IsAskedFor e t op → IsAdmitted m (all_adds e) t op
admitted_of relations counters m e t (Add c d) within same asked = subst (λ (n : Count). IsAdmissible n (steps_at c (all_adds e ++ add_of t c d ∷ []))) (same c within.0) asked
admitted_of relations counters m e t (Get r k) within same asked = tt
admitted_of relations counters m e t (Insert r k v) within same asked = tt
admitted_of relations counters m e t (Update r k v) within same asked = tt
admitted_of relations counters m e t (Delete r k) within same asked = tt
admitted_of relations counters m e t (Read c) within same asked = tt
admitted_of relations counters m e t (Scan r) within same asked = tt

module _ {D : Type 0} (g : Ghosts D) (origin : Origin) (base : Base) where
  pub granted_from : (was : List (Object × List Holder)) (k n : Core D) (t : ℕ) (op : Op) → IsLocked g origin base was k t op → n.escrow.pending ≡ k.escrow.pending ++ add_before t op [] → n.escrow.committed ≡ k.escrow.committed → n.escrow.aside ≡ k.escrow.aside → IsAskedFor k.escrow t op
      → IsGranted g origin base was k.escrow (record k { escrow = n.escrow }) t op
  granted_from was k n t op l more committed aside asked = record {
    was = l.was;
    may = record { within = l.may.within; at_work = l.may.at_work; forwards = l.may.forwards; room = l.may.room; idle = l.may.idle; few = l.may.few };
    locked = l.locked;
    free = l.free;
    committed = committed;
    more = more;
    aside = aside;
    admitted = admitted_of origin.relations origin.counters (after origin.first k.book.items) k.escrow t op l.may.within l.was.fit.escrowed.counts asked;
  }

  pub relocked_in : (k n : Core D) → IsConsistent g origin base k → held_of n.locks ≡ held_of k.locks → IsIn g origin base (state_of k base) (record k { locks = n.locks })
  relocked_in k n safe held =
      let fit = safe.fit in
      let state : state_of k base ≡ state_of (record k { locks = n.locks }) base = λ i. record {
        book = k.book.items;
        sessions = λ u. option_map (λ (m : Member). m.session) (member_of k.live.members u);
        next = k.live.begun + 1;
        standing = k.live.standing;
        running = running_in k.running.items;
        held = sym held i;
        pending = k.escrow.pending;
        aside = k.escrow.aside;
        base = base;
      } in
      record {
        consistent = record {
          fit = record {
            schema = fit.schema;
            right = fit.right;
            kept = subst (IsKept origin.first) state fit.kept;
            owned = fit.owned;
            apart = fit.apart;
            numbered = fit.numbered;
            locked = fit.locked;
            small = fit.small;
            log = fit.log;
            reserves = fit.reserves;
            numbers = fit.numbers;
            queued = fit.queued;
            booked = fit.booked;
            escrowed = fit.escrowed;
          };
          holds = safe.holds;
          runs = safe.runs;
          outcome = safe.outcome;
          claims = safe.claims;
        };
        state = state;
      }

  pub locked_from : (k n : Core D) (t : ℕ) (op : Op) → IsConsistent g origin base k → MayRun origin k t op → AreAllFree (held_of k.locks) t (locks_of op) → held_of n.locks ≡ with_locks (held_of k.locks) t (locks_of op)
      → IsLocked g origin base k.locks (record k { locks = n.locks }) t op
  locked_from k n t op safe may free locked = record { was = safe; may = record { within = may.within; at_work = may.at_work; forwards = may.forwards; room = may.room; idle = may.idle; few = may.few }; locked = locked; free = free }

  -- as before, in whatever room the operations have
  restored : (k n : Core D) → IsConsistent g origin base k → IsRestored g k n → IsConsistent g origin base n
  restored k n safe r = subst (IsConsistent g origin base) (sym r.same) (claims_consistent g origin base k n safe (r.right origin.pages origin.relations origin.counters safe.fit.right) r.store r.page_locks r.claimed)

  -- those of its locks that were not held before are taken out
  pub restored_out : (k m n p : Core D) (t : ℕ) (op : Op) (fresh : Fresh) → IsConsistent g origin base k → held_of m.locks ≡ with_locks (held_of k.locks) t (locks_of op) → MarksFresh (held_of k.locks) t (asks_of op) fresh → IsRestored g (record k { locks = m.locks }) n
      → held_of p.locks ≡ without_locks (held_of n.locks) t (fresh_in (asks_of op) fresh) → IsIn g origin base (state_of k base) (record n { locks = p.locks })
  restored_out k m n p t op fresh safe locked marks r out =
      let z : Core D = record k { locks = m.locks } in
      let held : held_of n.locks ≡ held_of m.locks = ap (λ (x : Core D). held_of x.locks) r.same in
      let back : held_of p.locks ≡ held_of k.locks = out ∙ (λ i. without_locks ((held ∙ locked) i) t (fresh_in (asks_of op) fresh)) ∙ taken_out (held_of k.locks) t (asks_of op) fresh marks in
      let b = relocked_in k (record k { locks = p.locks }) safe back in
      let r2 : IsRestored g (record k { locks = p.locks }) (record n { locks = p.locks }) = record { same = ap (λ (x : Core D). record x { locks = p.locks }) r.same; right = r.right; store = r.store; page_locks = r.page_locks; claimed = r.claimed } in
      record { consistent = restored (record k { locks = p.locks }) (record n { locks = p.locks }) b.consistent r2; state = b.state ∙ (λ i. state_of (sym r2.same i) base) }
