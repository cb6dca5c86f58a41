-- Numbers of operations and transactions in locks and records.
use Rattle.std.proofs.Common.{◌≡◌, ◌≢◌, ⊎_elim, ◌⊎◌, ℕ, zero, suc, ◌<◌, ◌≤◌, ◌==◌, true, false, not, List, [], ◌∷◌, ◌++◌, Option, Some, None, append-nil, refl, sym, ◌∙◌, subst, arith}
use Rattle.std.specs.Prelude.{All, Result, Ok, Err}
use Rattle.std.proofs.lemmas.Bool.{ne_eqb, or_from}
use Rattle.std.proofs.lemmas.List.Elements.{All-push, All-filter, All-contains, All-head, All-tail}
use Rattle.mt_base.specs.declared.edits.Edit.{Edit}
use Rattle.mt_base.specs.declared.modes.Mode.TheVariants.{Write}
use Rattle.mt_base.specs.declared.refusal.Refusal.{Refusal}
use Rattle.mt_frame.specs.declared.records.Record.{Record}
use Rattle.mt_frame.specs.declared.records.LoggedOp.{LoggedOp}
use Rattle.mt_area_rules.specs.History.{some_record, ends_txn, ends_op, undoes_op}
use Rattle.mt_live.specs.Lives.{member_of}
use Rattle.mt_live.specs.Members.{Member}
use Rattle.mt_op.specs.Holds.{IsNext, KeepsLocks}
use Rattle.mt_base.specs.declared.modes.Mode.{Mode}
use Rattle.mt_op.specs.Operations.{Steps}
use Rattle.mt_op.specs.Records.{end_with, dropped_with, HasPageMore, KeepsRecords, ReportsDropped}
use Rattle.mt_op.specs.World.{World, IsWorld, IsFresh, unfinished_in}
use Rattle.mt_op.specs.declared.answers.Stepped.{Stepped}
use Rattle.mt_op.specs.declared.answers.Stepped.TheVariants as stepped
use Rattle.mt_op.specs.declared.answers.TakenBack.{TakenBack}
use Rattle.mt_op.specs.declared.answers.TakenBack.TheVariants as taken
use Rattle.mt_op.specs.declared.scope.OpScope.{OpScope}
use Rattle.mt_plock.specs.Holding.{lock_of}
use Rattle.mt_plock.specs.Releasing.{locks_of, locks_without}
use Rattle.mt_plock.specs.declared.guards.PageLock.{PageLock}
use Rattle.mt_pool.proofs.Logged.{no_records}
use Rattle.mt_frame.specs.PageRecords.{change_records}
use Rattle.mt_steps.specs.Repeated.{Change, by}
use Rattle.mt_core.specs.Runs.{is_working}
use Rattle.mt_core.specs.Consistent.{IsNumbered}

-- ---- what records end

page_ends_op : (n txn op page : ℕ) (image : Option (List ℕ)) (old new : List ℕ) (es : List Edit) → some_record (ends_op n) (change_records txn op page image old new es) ≡ false
page_ends_op n txn op page image old new [] = refl
page_ends_op n txn op page image old new (e ∷ es) = page_ends_op n txn op page None old new es

page_ends_txn : (t txn op page : ℕ) (image : Option (List ℕ)) (old new : List ℕ) (es : List Edit) → some_record (ends_txn t) (change_records txn op page image old new es) ≡ false
page_ends_txn t txn op page image old new [] = refl
page_ends_txn t txn op page image old new (e ∷ es) = page_ends_txn t txn op page None old new es

end_ends_op : (n txn number undoes : ℕ) (o : Option LoggedOp) → number ≢ n → some_record (ends_op n) (end_with txn number undoes o) ≡ false
end_ends_op n txn number undoes None apart = refl
end_ends_op n txn number undoes (Some done) apart = or_from (number == n) false (ne_eqb number n apart) refl

end_ends_txn : (t txn number undoes : ℕ) (o : Option LoggedOp) → some_record (ends_txn t) (end_with txn number undoes o) ≡ false
end_ends_txn t txn number undoes None = refl
end_ends_txn t txn number undoes (Some done) = refl

dropped_ends_op : (n txn number standing : ℕ) → number ≢ n → some_record (ends_op n) (dropped_with txn number standing) ≡ false
dropped_ends_op n txn number zero apart = refl
dropped_ends_op n txn number (suc standing) apart = or_from (number == n) false (ne_eqb number n apart) refl

dropped_ends_txn : (t txn number standing : ℕ) → some_record (ends_txn t) (dropped_with txn number standing) ≡ false
dropped_ends_txn t txn number zero = refl
dropped_ends_txn t txn number (suc standing) = refl

-- ---- what they take back

page_undoes : (t n txn op page : ℕ) (image : Option (List ℕ)) (old new : List ℕ) (es : List Edit) → some_record (undoes_op t n) (change_records txn op page image old new es) ≡ false
page_undoes t n txn op page image old new [] = refl
page_undoes t n txn op page image old new (e ∷ es) = page_undoes t n txn op page None old new es

dropped_undoes : (t n txn number standing : ℕ) → some_record (undoes_op t n) (dropped_with txn number standing) ≡ false
dropped_undoes t n txn number zero = refl
dropped_undoes t n txn number (suc standing) = refl

-- records more, of which none is an inverse
pub record AddsNoInverse (old new : List Record) : Type 0 where
  pub more : List Record
  pub is : new ≡ old ++ more
  pub none : (t n : ℕ) → some_record (undoes_op t n) more ≡ false

pub adds_none : (old new : List Record) → new ≡ old → AddsNoInverse old new
adds_none old new same = record { more = []; is = same ∙ sym (append-nil old); none = λ t n. refl }

pub adds_pages : (s : OpScope) (old new : List Record) → HasPageMore s old new → AddsNoInverse old new
adds_pages s old new more =
    ⊎_elim (λ (same : new ≡ old). adds_none old new same)
    (λ one. let (c, image, bytes, there, is) = one in record { more = _; is = is; none = λ t n. page_undoes t n s.txn s.number c.page image bytes _ c.edits.items }) more

pub adds_dropped : (s : OpScope) (old new : List Record) (r : Result TakenBack Refusal) → ReportsDropped s old new r → AddsNoInverse old new
adds_dropped s old new (Ok taken.Clear) outcome = record { more = dropped_with s.txn s.number s.standing; is = outcome; none = λ t n. dropped_undoes t n s.txn s.number s.standing }
adds_dropped s old new (Ok taken.More) outcome = adds_none old new outcome
adds_dropped s old new (Ok taken.Flush) outcome = adds_none old new outcome
adds_dropped s old new (Err why) outcome = adds_none old new outcome

module _ (last begun : ℕ) (ms : List Member) where
  -- other locks, and records more that end nothing that is to come
  pub numbered_more : (old new : List PageLock) (records rs : List Record) → All (λ (l : PageLock). l.op ≤ last) new → ((n : ℕ) → last < n → some_record (ends_op n) rs ≡ false) → ((t : ℕ) → some_record (ends_txn t) rs ≡ false)
      → IsNumbered last begun ms old records → IsNumbered last begun ms new (records ++ rs)
  numbered_more old new records rs locks ops txns k = record {
    locks = locks;
    ops = λ n above. no_records (ends_op n) records rs (k.ops n above) (ops n above);
    txns = λ t is. no_records (ends_txn t) records rs (k.txns t is) (txns t);
    coming = λ t above. no_records (ends_txn t) records rs (k.coming t above) (txns t);
    few_operations = k.few_operations;
    few_transactions = k.few_transactions;
    nobody = k.nobody;
  }

  numbered_locks : (old new : List PageLock) (records more : List Record) → All (λ (l : PageLock). l.op ≤ last) new → more ≡ records → IsNumbered last begun ms old records → IsNumbered last begun ms new more
  numbered_locks old new records more locks same k = subst (IsNumbered last begun ms new) (sym same) (record { locks = locks; ops = k.ops; txns = k.txns; coming = k.coming; few_operations = k.few_operations; few_transactions = k.few_transactions; nobody = k.nobody })

  locks_more : (number : ℕ) (Next : ℕ → Mode → Type 0) (old new : List PageLock) → number ≤ last → (new ≡ old) ⊎ ((p : ℕ) × (mode : Mode) × Next p mode × (new ≡ old ++ lock_of number p mode ∷ []))
      → All (λ (l : PageLock). l.op ≤ last) old → All (λ (l : PageLock). l.op ≤ last) new
  locks_more number Next old new known more k =
      ⊎_elim (λ (same : new ≡ old). subst (All (λ (l : PageLock). l.op ≤ last)) (sym same) k)
      (λ (one : (p : ℕ) × (mode : Mode) × Next p mode × (new ≡ old ++ lock_of number p mode ∷ [])).
      subst (All (λ (l : PageLock). l.op ≤ last)) (sym one.3) (All-push (λ (l : PageLock). l.op ≤ last) old (lock_of number one.0 one.1) k known)) more

  pages_more : (s : OpScope) (new_locks old_locks : List PageLock) (old new : List Record) → All (λ (l : PageLock). l.op ≤ last) new_locks → HasPageMore s old new → IsNumbered last begun ms old_locks old → IsNumbered last begun ms new_locks new
  pages_more s new_locks old_locks old new locks more k =
      ⊎_elim (λ (same : new ≡ old). numbered_locks old_locks new_locks old new locks same k)
      (λ one. let (c, image, bytes, there, is) = one in
      subst (IsNumbered last begun ms new_locks) (sym is)
      (numbered_more old_locks new_locks old _ locks (λ n above. page_ends_op n s.txn s.number c.page image bytes _ c.edits.items) (λ t. page_ends_txn t s.txn s.number c.page image bytes _ c.edits.items) k)) more

  pub numbered_step : (noted : List ℕ) (relations counters : ℕ) (w z : World) (s t : OpScope) (r : Result Stepped Refusal) → s.number ≤ last → Steps relations counters w z s t r → KeepsLocks s.number (IsNext noted w.locks s) w.locks z.locks r
      → KeepsRecords t w.records z.records r → IsNumbered last begun ms w.locks w.records → IsNumbered last begun ms z.locks z.records
  numbered_step noted relations counters w z s t (Ok stepped.Went) known steps locks records k = pages_more t z.locks w.locks w.records z.records (locks_more s.number (IsNext noted w.locks s) w.locks z.locks known locks k.locks) records k
  numbered_step noted relations counters w z s t (Ok (stepped.Wait holder)) known steps locks records k = numbered_locks w.locks z.locks w.records z.records (subst (All (λ (l : PageLock). l.op ≤ last)) (sym locks.0) k.locks) records k
  numbered_step noted relations counters w z s t (Ok (stepped.Again holder)) known steps locks records k =
      numbered_locks w.locks z.locks w.records z.records (subst (All (λ (l : PageLock). l.op ≤ last)) (sym locks.0) (All-filter (λ (l : PageLock). not (l.op == s.number)) (λ (l : PageLock). l.op ≤ last) w.locks k.locks)) records k
  numbered_step noted relations counters w z s t (Ok stepped.Flush) known steps locks records k = numbered_locks w.locks z.locks w.records z.records (subst (All (λ (l : PageLock). l.op ≤ last)) (sym locks) k.locks) records k
  numbered_step noted relations counters w z s t (Ok (stepped.Ready first second)) known steps locks records k =
      subst (IsNumbered last begun ms z.locks) (sym steps.0.ended)
      (numbered_more w.locks z.locks w.records _ (subst (All (λ (l : PageLock). l.op ≤ last)) (sym locks) k.locks)
      (λ n above. end_ends_op n s.txn s.number s.undoes _ (λ is. absurd (omega (arith, is, above, known)))) (λ u. end_ends_txn u s.txn s.number s.undoes _) k)
  numbered_step noted relations counters w z s t (Err why) known steps locks records k = numbered_locks w.locks z.locks w.records z.records (subst (All (λ (l : PageLock). l.op ≤ last)) (sym locks) k.locks) records k

  -- a step of a taking back
  pub numbered_dropped : (s : OpScope) (old new : List PageLock) (records more : List Record) (r : Result TakenBack Refusal) → s.number ≤ last → new ≡ old → ReportsDropped s records more r → IsNumbered last begun ms old records → IsNumbered last begun ms new more
  numbered_dropped s old new records more (Ok taken.Clear) known locks outcome k =
      subst (IsNumbered last begun ms new) (sym outcome)
      (numbered_more old new records (dropped_with s.txn s.number s.standing) (subst (All (λ (l : PageLock). l.op ≤ last)) (sym locks) k.locks)
      (λ n above. dropped_ends_op n s.txn s.number s.standing (λ is. absurd (omega (arith, is, above, known)))) (λ u. dropped_ends_txn u s.txn s.number s.standing) k)
  numbered_dropped s old new records more (Ok taken.More) known locks outcome k = numbered_locks old new records more (subst (All (λ (l : PageLock). l.op ≤ last)) (sym locks) k.locks) outcome k
  numbered_dropped s old new records more (Ok taken.Flush) known locks outcome k = numbered_locks old new records more (subst (All (λ (l : PageLock). l.op ≤ last)) (sym locks) k.locks) outcome k
  numbered_dropped s old new records more (Err why) known locks outcome k = numbered_locks old new records more (subst (All (λ (l : PageLock). l.op ≤ last)) (sym locks) k.locks) outcome k

  -- locks go
  pub numbered_without : (number : ℕ) (locks : List PageLock) (records : List Record) → IsNumbered last begun ms locks records → IsNumbered last begun ms (locks_without number locks) records
  numbered_without number locks records k = record { locks = All-filter (λ (l : PageLock). not (l.op == number)) (λ (l : PageLock). l.op ≤ last) locks k.locks; ops = k.ops; txns = k.txns; coming = k.coming; few_operations = k.few_operations; few_transactions = k.few_transactions; nobody = k.nobody }

  -- ---- a number that is to come

  none_of : (n : ℕ) (locks : List PageLock) → last < n → All (λ (l : PageLock). l.op ≤ last) locks → locks_of n locks ≡ []
  none_of n [] above k = refl
  none_of n (l ∷ ls) above k =
      let low : l.op ≤ last = All-head (λ (x : PageLock). x.op ≤ last) l ls k in
      let apart : (l.op == n) ≡ false = ne_eqb l.op n (λ is. absurd (omega (arith, is, above, low))) in
      rw apart (none_of n ls above (All-tail (λ (x : PageLock). x.op ≤ last) l ls k))

  none_by : (n : ℕ) (cs : List Change) → last < n → All (λ (c : Change). c.op ≤ last) cs → by n cs ≡ []
  none_by n [] above k = refl
  none_by n (c ∷ cs) above k =
      let low : c.op ≤ last = All-head (λ (x : Change). x.op ≤ last) c cs k in
      let apart : (c.op == n) ≡ false = ne_eqb c.op n (λ is. absurd (omega (arith, is, above, low))) in
      rw apart (none_by n cs above (All-tail (λ (x : Change). x.op ≤ last) c cs k))

  pub fresh : (relations counters : ℕ) (w : World) (t n : ℕ) → IsWorld relations counters w → last < n → is_working (member_of ms t) ≡ true → IsNumbered last begun ms w.locks w.records → IsFresh w t n 0
  fresh relations counters w t n sound above at_work k = record {
    locks = none_of n w.locks above k.locks;
    nothing = none_by n (unfinished_in w) above (λ i d lt. All-contains (λ (l : PageLock). l.op ≤ last) w.locks (lock_of _ _ Write) k.locks (sound.covered i d lt));
    unfinished = record { transaction = k.txns t at_work; operation = k.ops n above };
    due = λ done. refl;
  }
