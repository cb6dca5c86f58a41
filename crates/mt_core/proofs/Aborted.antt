-- The end of an abort.
use Rattle.std.proofs.Common.{◌≡◌, ◌≢◌, inr, ℕ, ◌<◌, ◌≤◌, ◌+◌, ◌==◌, cond, not, Bool, true, false, List, [], ◌∷◌, ◌++◌, get_or, None, refl, sym, ap, ◌∙◌, subst, arith, append-nil}
use Rattle.std.specs.Prelude.{All}
use Rattle.std.specs.List.{sum_by}
use Rattle.std.proofs.lemmas.Bool.{ne_eqb, or_from}
use Rattle.mt_disk.specs.declared.device.Device.{Ghosts}
use Rattle.mt_area_rules.specs.History.{some_record, ends_txn, ends_op, may_stand}
use Rattle.mt_frame.specs.declared.records.Record.{Record}
use Rattle.mt_frame.specs.declared.records.Record.TheVariants.{AbortEnd}
use Rattle.mt_live.proofs.AddLemmas.{idle_adds}
use Rattle.mt_live.proofs.Cuts.{idle_all}
use Rattle.mt_live.specs.Adds.{adds, add_of}
use Rattle.mt_live.specs.Lives.{member_of}
use Rattle.mt_live.specs.Machine.{State, IsKept}
use Rattle.mt_live.specs.Undoing.{last_effect}
use Rattle.mt_log.specs.Words.{appended, used, area_size}
use Rattle.mt_model.specs.Model.{Base}
use Rattle.mt_model.specs.Pending.{pending_of, pending_without}
use Rattle.mt_model.specs.declared.pending_add.Pending.{Pending}
use Rattle.mt_op.proofs.Noting.{notes_held}
use Rattle.mt_op.specs.Moves.{Notes}
use Rattle.mt_op.specs.Operations.{world, IsRight, claimed}
use Rattle.mt_op.specs.World.{IsUnderWay}
use Rattle.mt_op.specs.declared.scope.OpScope.{OpScope}
use Rattle.mt_pool.proofs.Logged.{no_records}
use Rattle.mt_space.specs.Changes.{PageBytes}
use Rattle.mt_steps.specs.Held.{Holds}
use Rattle.mt_core.specs.Runs.{is_working}
use Rattle.mt_op.specs.World.{left_of}
use Rattle.mt_core.specs.Consistent.{Origin, state_of, IsNumbered, AreReported, IsQueued, IsConsistent, IsIn}
use Rattle.mt_core.proofs.Resting.{fit_over}
use Rattle.mt_core.proofs.Reported.{reported_more}
use Rattle.mt_core.proofs.Queued.{queued_records}
use Rattle.mt_core.specs.declared.parts.Core.{Core}

nobodys : (t : ℕ) (ps : List Pending) → pending_of t ps ≡ [] → pending_without t ps ≡ ps
nobodys t [] none = refl
nobodys t (p ∷ ps) none = go (p.txn == t) none (λ k. nobodys t ps k)
  where
    go : (c : Bool) → cond c (p ∷ pending_of t ps) (pending_of t ps) ≡ [] → (pending_of t ps ≡ [] → pending_without t ps ≡ ps) → cond (not c) (p ∷ pending_without t ps) (pending_without t ps) ≡ p ∷ ps
    go true k rec = absurd cc
    go false k rec = ap (λ qs. p ∷ qs) (rec k)

-- nothing is pending of a transaction of which nothing is left to undo
pub none_pending : (b : Base) (s : State) (t : ℕ) → IsKept b s → s.running t ≡ None → last_effect t s.standing ≡ None → pending_without t s.pending ≡ s.pending
none_pending b s t k idle nothing =
    nobodys t s.pending (k.tied t ∙ (ap (λ o. pending_of t (adds s.standing) ++ add_of t o) idle ∙ (append-nil (pending_of t (adds s.standing)) ∙ idle_adds t s.standing (idle_all t s.standing nothing) k.sound.done)))

pub may_end : (records : List Record) (t : ℕ) → 1 ≤ t → some_record (ends_txn t) records ≡ false → may_stand false records (AbortEnd t) ≡ true
may_end records t some open_still = let named : (t == 0) ≡ false = ne_eqb t 0 (λ is. absurd (omega (arith, is, some))) in rw (named, open_still) refl

module _ {D : Type 0} (g : Ghosts D) (origin : Origin) (base : Base) where
  -- the record of the end of a transaction that is at work no more
  pub ended_in : (k n : Core D) (t : ℕ) → IsConsistent g origin base k → is_working (member_of k.live.members t) ≡ false → t ≤ k.live.begun → All (λ (q : OpScope). q.txn ≢ t) k.running.items
      → IsRight g origin.pages origin.relations origin.counters n.operations → Notes (world g origin.pages k.operations) (world g origin.pages n.operations) (AbortEnd t)
      → ((u : OpScope) → IsUnderWay origin.relations origin.counters (world g origin.pages k.operations) u → u.txn ≢ t → IsUnderWay origin.relations origin.counters (world g origin.pages n.operations) u)
      → claimed n.operations ≡ claimed k.operations → used n.operations.store.log + sum_by left_of k.running.items + k.reserved < area_size n.operations.store.log → IsIn g origin base (state_of k base) (record k { operations = n.operations })
  ended_in k n t safe closed low idle right notes others same log =
      let fit = safe.fit in
      let apart : (u : ℕ) → is_working (member_of k.live.members u) ≡ true → t ≢ u = λ u h is. let here : is_working (member_of k.live.members u) ≡ false = ap (λ v. is_working (member_of k.live.members v)) (sym is) ∙ closed in absurd cc in
      let numbered : IsNumbered k.last k.live.begun k.live.members k.operations.locks (appended k.operations.store.log ++ AbortEnd t ∷ []) = record {
        locks = fit.numbered.locks;
        ops = λ m above. no_records (ends_op m) (appended k.operations.store.log) (AbortEnd t ∷ []) (fit.numbered.ops m above) refl;
        txns = λ u h. no_records (ends_txn u) (appended k.operations.store.log) (AbortEnd t ∷ []) (fit.numbered.txns u h) (or_from (t == u) false (ne_eqb t u (apart u h)) refl);
        coming = λ u above. no_records (ends_txn u) (appended k.operations.store.log) (AbortEnd t ∷ []) (fit.numbered.coming u above) (or_from (t == u) false (ne_eqb t u (λ is. absurd (omega (arith, is, above, low)))) refl);
        few_operations = fit.numbered.few_operations;
        few_transactions = fit.numbered.few_transactions;
        nobody = fit.numbered.nobody;
      } in
      record {
        consistent = record {
          fit = fit_over g origin base k n fit right notes.locks
              (subst (λ (X : Type 0). X) (λ i. IsNumbered k.last k.live.begun k.live.members (sym notes.locks i) (sym notes.records i)) numbered)
              (subst (λ (X : Type 0). X) (λ i. IsQueued k.live.members (sym notes.records i) k.commits.items) (queued_records k.live.members (appended k.operations.store.log) (AbortEnd t ∷ []) k.commits.items fit.queued))
              log;
          holds = subst (λ (p : PageBytes). Holds p base) (sym (notes_held origin.relations origin.counters (world g origin.pages k.operations) (world g origin.pages n.operations) t (AbortEnd t) notes (inr refl))) safe.holds;
          runs = λ i d lt. let was = safe.runs i d lt in record { under = others (get_or k.running.items i d) was.under (idle i d lt); budget = was.budget; number = was.number; moving = was.moving };
          outcome = subst (AreReported k.last k.live.members) (sym notes.records) (reported_more k.last k.last k.live.members (appended k.operations.store.log) (AbortEnd t ∷ []) (omega arith) (λ u v less. refl) safe.outcome);
          claims = same ∙ safe.claims;
        };
        state = refl;
      }
