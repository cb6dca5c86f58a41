-- What records lead to, with more records behind them.
use Rattle.std.proofs.Common.{◌≡◌, ℕ, List, [], ◌∷◌, ◌++◌, Option, None, Some, is_some, refl, sym, ap, ◌∙◌, subst, append-nil, append_assoc}
use Rattle.mt_frame.specs.declared.records.LoggedOp.{LoggedOp}
use Rattle.mt_frame.specs.declared.records.LoggedOp.TheVariants as logged
use Rattle.mt_frame.specs.declared.records.Record.{Record}
use Rattle.mt_frame.specs.declared.records.Record.TheVariants.{OpEnd}
use Rattle.mt_model.specs.declared.operations.Op.{Op}
use Rattle.mt_model.specs.declared.operations.Op.TheVariants.{Get, Insert, Update, Delete, Add, Read, Scan}
use Rattle.mt_model.specs.declared.operations.Reply.{Reply}
use Rattle.mt_model.specs.declared.operations.Reply.TheVariants.{Found, Missing, Exists, Done, Was, Value, Rows, OutOfBounds}
use Rattle.mt_model.specs.History.{Call, run, IsActed}
use Rattle.mt_model.specs.Model.{Base, reply_of, base_after, inverse_of}
use Rattle.mt_model.proofs.Appends.{run-append, acted_append}
use Rattle.mt_space.specs.Changes.{PageBytes}
use Rattle.mt_steps.specs.Held.{Holds}
use Rattle.mt_steps.specs.Logged.{logged_of}
use Rattle.mt_steps.specs.Plans.{IsGood}
use Rattle.mt_steps.specs.Repeated.{held, logged}
use Rattle.mt_op.specs.World.{World, held_in, IsWorld}
use Rattle.mt_op.specs.Operations.{Acts}
use Rattle.mt_op.specs.Records.{end_with}
use Rattle.mt_op.specs.declared.scope.OpScope.{OpScope}
use Rattle.mt_replay.specs.Recoverable.{LeadsOn, pages_held}
use Rattle.mt_replay.specs.Recorded.{op_of, reply_in, call_of, call_in, calls_in}

some_is : (a b : LoggedOp) → Some a ≡ Some b → a ≡ b
some_is a b is = cc

-- the end of an operation records it and its reply
pub logged_is : (op : Op) (reply : Reply) (done : LoggedOp) → logged_of op reply ≡ Some done → (op_of done ≡ op) × (reply_in done ≡ reply)
logged_is (Insert r k v) (Found x) done is = absurd cc
logged_is (Insert r k v) (Missing) done is = absurd cc
logged_is (Insert r k v) (Exists) done is = absurd cc
logged_is (Insert r k v) (Done) done is = let e : logged.Insert r k v ≡ done = some_is (logged.Insert r k v) done is in (sym (ap op_of e), sym (ap reply_in e))
logged_is (Insert r k v) (Was x) done is = absurd cc
logged_is (Insert r k v) (Value n) done is = absurd cc
logged_is (Insert r k v) (Rows xs) done is = absurd cc
logged_is (Insert r k v) (OutOfBounds) done is = absurd cc
logged_is (Update r k v) (Found x) done is = absurd cc
logged_is (Update r k v) (Missing) done is = absurd cc
logged_is (Update r k v) (Exists) done is = absurd cc
logged_is (Update r k v) (Done) done is = absurd cc
logged_is (Update r k v) (Was x) done is = let e : logged.Update r k v x ≡ done = some_is (logged.Update r k v x) done is in (sym (ap op_of e), sym (ap reply_in e))
logged_is (Update r k v) (Value n) done is = absurd cc
logged_is (Update r k v) (Rows xs) done is = absurd cc
logged_is (Update r k v) (OutOfBounds) done is = absurd cc
logged_is (Delete r k) (Found x) done is = absurd cc
logged_is (Delete r k) (Missing) done is = absurd cc
logged_is (Delete r k) (Exists) done is = absurd cc
logged_is (Delete r k) (Done) done is = absurd cc
logged_is (Delete r k) (Was x) done is = let e : logged.Delete r k x ≡ done = some_is (logged.Delete r k x) done is in (sym (ap op_of e), sym (ap reply_in e))
logged_is (Delete r k) (Value n) done is = absurd cc
logged_is (Delete r k) (Rows xs) done is = absurd cc
logged_is (Delete r k) (OutOfBounds) done is = absurd cc
logged_is (Add c d) (Found x) done is = absurd cc
logged_is (Add c d) (Missing) done is = absurd cc
logged_is (Add c d) (Exists) done is = absurd cc
logged_is (Add c d) (Done) done is = let e : logged.Add c d ≡ done = some_is (logged.Add c d) done is in (sym (ap op_of e), sym (ap reply_in e))
logged_is (Add c d) (Was x) done is = absurd cc
logged_is (Add c d) (Value n) done is = absurd cc
logged_is (Add c d) (Rows xs) done is = absurd cc
logged_is (Add c d) (OutOfBounds) done is = absurd cc
logged_is (Get r k) (Found x) done is = absurd cc
logged_is (Get r k) (Missing) done is = absurd cc
logged_is (Get r k) (Exists) done is = absurd cc
logged_is (Get r k) (Done) done is = absurd cc
logged_is (Get r k) (Was x) done is = absurd cc
logged_is (Get r k) (Value n) done is = absurd cc
logged_is (Get r k) (Rows xs) done is = absurd cc
logged_is (Get r k) (OutOfBounds) done is = absurd cc
logged_is (Read c) (Found x) done is = absurd cc
logged_is (Read c) (Missing) done is = absurd cc
logged_is (Read c) (Exists) done is = absurd cc
logged_is (Read c) (Done) done is = absurd cc
logged_is (Read c) (Was x) done is = absurd cc
logged_is (Read c) (Value n) done is = absurd cc
logged_is (Read c) (Rows xs) done is = absurd cc
logged_is (Read c) (OutOfBounds) done is = absurd cc
logged_is (Scan r) (Found x) done is = absurd cc
logged_is (Scan r) (Missing) done is = absurd cc
logged_is (Scan r) (Exists) done is = absurd cc
logged_is (Scan r) (Done) done is = absurd cc
logged_is (Scan r) (Was x) done is = absurd cc
logged_is (Scan r) (Value n) done is = absurd cc
logged_is (Scan r) (Rows xs) done is = absurd cc
logged_is (Scan r) (OutOfBounds) done is = absurd cc

pub calls_append : (xs ys : List Record) → calls_in (xs ++ ys) ≡ calls_in xs ++ calls_in ys
calls_append [] ys = refl
calls_append (x ∷ xs) ys = ap (λ (cs : List Call). call_in x ++ cs) (calls_append xs ys) ∙ sym (append_assoc (call_in x) (calls_in xs) (calls_in ys))

module _ (relations counters total : ℕ) (opening : PageBytes) where
  -- records that end nothing and leave the pages held
  pub leads_quietly : (rs front : List Record) → pages_held opening (rs ++ front) ≡ pages_held opening rs → calls_in front ≡ [] → LeadsOn relations counters total opening rs → LeadsOn relations counters total opening (rs ++ front)
  leads_quietly rs front same none k =
      let calls : calls_in (rs ++ front) ≡ calls_in rs = calls_append rs front ∙ ap (λ (cs : List Call). calls_in rs ++ cs) none ∙ append-nil (calls_in rs) in
      record {
        good = subst (IsGood relations counters total) (sym same) k.good;
        base = λ b holds. subst (λ (cs : List Call). Holds (pages_held opening (rs ++ front)) (run b cs)) (sym calls) (subst (λ (f : PageBytes). Holds f (run b (calls_in rs))) (sym same) (k.base b holds));
        acted = λ b holds. subst (IsActed b) (sym calls) (k.acted b holds);
      }

  -- the end of an operation that acts on the pages held
  pub leads_end : (rs : List Record) (txn op undoes : ℕ) (done : LoggedOp) → IsGood relations counters total (pages_held opening (rs ++ OpEnd txn op undoes done ∷ []))
      → ((b : Base) → Holds (pages_held opening rs) b → reply_of b (op_of done) ≡ reply_in done)
      → ((b : Base) → Holds (pages_held opening rs) b → Holds (pages_held opening (rs ++ OpEnd txn op undoes done ∷ [])) (base_after b (op_of done)))
      → LeadsOn relations counters total opening rs → LeadsOn relations counters total opening (rs ++ OpEnd txn op undoes done ∷ [])
  leads_end rs txn op undoes done good replies base k =
      let c : Call = call_of done in
      let calls : calls_in (rs ++ OpEnd txn op undoes done ∷ []) ≡ calls_in rs ++ c ∷ [] = calls_append rs (OpEnd txn op undoes done ∷ []) in
      record {
        good = good;
        base = λ b holds. subst (Holds (pages_held opening (rs ++ OpEnd txn op undoes done ∷ []))) (sym (ap (run b) calls ∙ run-append b (calls_in rs) (c ∷ []))) (base (run b (calls_in rs)) (k.base b holds));
        acted = λ b holds. subst (IsActed b) (sym calls) (acted_append b (calls_in rs) (c ∷ []) (k.acted b holds) (replies (run b (calls_in rs)) (k.base b holds), tt));
      }

-- ---- the end of an operation

-- none of what did nothing
pub logged_did : (op : Op) (reply : Reply) → is_some (inverse_of op reply) ≡ is_some (logged_of op reply)
logged_did (Insert r k v) Done = refl
logged_did (Update r k v) (Was old) = refl
logged_did (Delete r k) (Was old) = refl
logged_did (Add c d) Done = refl
logged_did _ _ = refl

pub acts_lead : (relations counters : ℕ) (w z : World) (s t : OpScope) (reply : Reply) → z.opening ≡ w.opening → z.total ≡ w.total → IsWorld relations counters z → Acts relations counters w z s t reply
    → LeadsOn relations counters w.total w.opening w.records → LeadsOn relations counters w.total w.opening z.records
acts_lead relations counters w z s t reply opening total hz a k = go (logged_of s.op reply) refl
  where
    go : (o : Option LoggedOp) → logged_of s.op reply ≡ o → LeadsOn relations counters w.total w.opening z.records
    go None is = subst (LeadsOn relations counters w.total w.opening) (sym (a.ended ∙ ap (λ (o : Option LoggedOp). w.records ++ end_with s.txn s.number s.undoes o) is ∙ append-nil w.records)) k
    go (Some done) is =
        let r : Record = OpEnd s.txn s.number s.undoes done in
        let ended : z.records ≡ w.records ++ r ∷ [] = a.ended ∙ ap (λ (o : Option LoggedOp). w.records ++ end_with s.txn s.number s.undoes o) is in
        let same_call = logged_is s.op reply done is in
        let held_now : held_in z ≡ pages_held w.opening (w.records ++ r ∷ []) = λ i. held (logged (opening i) (ended i)) in
        subst (LeadsOn relations counters w.total w.opening) (sym ended)
        (leads_end relations counters w.total w.opening w.records s.txn s.number s.undoes done
        (subst (λ (X : Type 0). X) (λ i. IsGood relations counters (total i) (held_now i)) hz.good)
        (λ b holds. ap (reply_of b) same_call.0 ∙ a.replies b holds ∙ sym same_call.1)
        (λ b holds. subst (λ (X : Type 0). X) (λ i. Holds (held_now i) (base_after b (sym same_call.0 i))) (a.base b holds))
        k)
